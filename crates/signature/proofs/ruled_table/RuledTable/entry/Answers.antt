-- An entry is what the test of the whole table says of its place.
use Rattle.std.proofs.Common.{◌+◌, ◌<◌, length, ◌∙◌, arith}
use Rattle.signature.specs.Table.{computed}
use Rattle.signature.proofs.Table.{computed_is, entries}
use Rattle.signature.proofs.ruled_table.RuledTable.entry.Goals as goal

pub returns : goal.returns
returns g c =
    let table = c.args.self.now in
    let within : c.args.octet < length table.entries.now = omega (arith, table.full) in
    entries (computed (g.row.LOW + 7) g.row.POLY 8) table.entries.now table.ruled c.args.octet within
    ∙ computed_is (g.row.LOW + 7) g.row.POLY 8 c.args.octet

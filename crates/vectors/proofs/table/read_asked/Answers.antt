-- A register's figure, and why a text does not begin with one.
use Rattle.std.proofs.Common.{rules}
use Rattle.vectors.proofs.Figures.{four}
use Rattle.vectors.proofs.Heads.{no_run}
use Rattle.vectors.proofs.table.read_asked.Goals as goal

pub returns-in-run : goal.returns-in-run
returns-in-run c =
    let no = no_run c.args.form.now c.args.text.now c.in-run.is in
    let spelt = four in
    search rules

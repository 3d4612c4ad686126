-- A register of the rule has 16 bits.
use Rattle.std.proofs.Common.{rules, ◌≡◌, ◌^◌, ◌<◌, arith}
use Rattle.block.specs.ParCrc.{par_crc}
use Rattle.block.proofs.Taken.{crc_lt}
use Rattle.block.proofs.par.par_crc.Goals as goal

pub overflow_cast-result : goal.overflow_cast-result
overflow_cast-result c =
    let same : c.fold.result ≡ par_crc c.args.octets.now = search rules in
    let small : par_crc c.args.octets.now < 2 ^ 16 = crc_lt c.args.octets.now 0 (omega arith) in
    omega (arith, same, small)

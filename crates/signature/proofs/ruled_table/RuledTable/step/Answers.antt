-- The mask is all bits below the highest octet, so that the step by an entry is the bit rule's.
use Rattle.std.proofs.Common.{◌≡◌, ℕ, ◌-◌, ◌*◌, ◌%◌, ◌^◌, ◌≤◌, bit_and, ap, ap₂, ◌∙◌, lt_of_le_of_lt, mod-eq_of_lt, one-mul, pow_mono, arith}
use lib.Bits.{bit_xor}
use Rattle.signature.proofs.ByTable.{tabled_is}
use Rattle.signature.proofs.ruled_table.RuledTable.step.Goals as goal

pub returns : goal.returns
returns g c =
    let k = g.row.LOW in
    let r = c.args.register in
    let narrow : k ≤ 24 = c.args.self.now.narrow in
    let low : 1 * 2 ^ k % 2 ^ 32 ≡ 2 ^ k =
    ap (λ (x : ℕ). x % 2 ^ 32) (one-mul (2 ^ k)) ∙ mod-eq_of_lt (lt_of_le_of_lt (pow_mono narrow) (omega arith)) in
    ap₂ (λ (x y : ℕ). bit_xor (bit_and r (x - 1) * 256 % 2 ^ 32) y) low c.entry.ensures ∙ tabled_is k g.row.POLY r c.args.octet narrow

-- The steps as the code computes them are those of the models.
use Rattle.std.specs.Prelude.{◌≡◌, ℕ, ◌*◌, ◌/◌, ◌%◌, ◌^◌, ◌<◌, length, bit_and, bit_xor, refl}
use Rattle.std.proofs.Common.{sym, ap, ap₂, ◌∙◌, zero-add, arith}
use Rattle.std.specs.Int.Bits.{xor_assoc, xor_shifted}
use Rattle.std.proofs.lemmas.Nat.{xor_lt, and_mask}
use Rattle.std.specs.List.{range_with_len}
use Rattle.std.proofs.lemmas.List.FromFn.{length-range_with_len, get_or-range_with_len}
use Rattle.signature.specs.Rule.{feed_bits}
use Rattle.signature.specs.Table.{computed}
use Rattle.signature.proofs.ByTable.{by_table}
use Rattle.signature.proofs.Table.{computed_is, entries}
use Rattle.kinds.specs.Kinds.{c3, rotated}

-- with the polynomial 1 an octet makes itself of the register 0
ones : (i : ℕ) → i < 256 → i ≡ feed_bits 23 1 0 8 i
ones i h =
    let within : i < length (range_with_len 0 256) = rw (length-range_with_len 0 256) h in
    sym (get_or-range_with_len 0 256 i 0 h ∙ zero-add i) ∙ entries (computed 23 1 8) (range_with_len 0 256) refl i within ∙ computed_is 23 1 8 i

-- so the rotation is the bit rule with the polynomial 1
pub rotates : (r o : ℕ) → o < 256 → c3.step r o ≡ feed_bits 23 1 r 8 o
rotates r o ho =
    let h : ℕ = r / 2 ^ 16 % 256 in
    let low : h < 2 ^ 8 = omega arith in
    ap (λ (x : ℕ). bit_xor x o) (sym (xor_shifted (r % 2 ^ 16) 8 h low))
    ∙ xor_assoc (r % 2 ^ 16 * 256) h o
    ∙ ap (bit_xor (r % 2 ^ 16 * 256)) (ones (bit_xor h o) (xor_lt 8 h o low ho))
    ∙ sym (by_table 23 1 16 7 r o refl)

-- the rotation by masks and shifts
pub rotated_is : (r o : ℕ) → rotated r o ≡ c3.step r o
rotated_is r o =
    let low : bit_and r 65535 * 256 % 2 ^ 32 ≡ r % 2 ^ 16 * 256 = rw (and_mask r 16) (omega arith) in
    ap (λ (x : ℕ). bit_xor x o)
    (ap₂ bit_xor low (and_mask (r / 65536) 8) ∙ xor_shifted (r % 2 ^ 16) 8 (r / 65536 % 256) (omega arith))

-- Sums without carry (xor) of numbers.
use Rattle.std.proofs.Common.{◌≡◌, ℕ, zero, suc, ◌*◌, ◌<◌, cond, eqb, sym, ap, ◌∙◌, ap₂, add-zero, one-mul, zero-mul, arith}
use lib.Bits.{bit_xor, xor_assoc, xor_comm, xor_self, xor_zero_r, xor_block}

pub xor4 : (a b c d : ℕ) → bit_xor (bit_xor a b) (bit_xor c d) ≡ bit_xor (bit_xor a c) (bit_xor b d)
xor4 a b c d =
    xor_assoc a b (bit_xor c d)
    ∙ ap (bit_xor a) (sym (xor_assoc b c d) ∙ ap (λ (x : ℕ). bit_xor x d) (xor_comm b c) ∙ xor_assoc c b d)
    ∙ sym (xor_assoc a c (bit_xor b d))

pub xor_zero : (a b : ℕ) → bit_xor a b ≡ 0 → a ≡ b
xor_zero a b e =
    sym (xor_zero_r a) ∙ ap (bit_xor a) (sym (xor_self b)) ∙ sym (xor_assoc a b b) ∙ ap (λ (x : ℕ). bit_xor x b) e

pub xor_twice : (a b : ℕ) → bit_xor a b * 2 ≡ bit_xor (a * 2) (b * 2)
xor_twice a b =
    sym (xor_block 1 a b 0 0 (omega arith) (omega arith) ∙ add-zero (bit_xor a b * 2))
    ∙ ap₂ bit_xor (add-zero (a * 2)) (add-zero (b * 2))

-- of two bits
pub bits_times : (s t p : ℕ) → s < 2 → t < 2 → bit_xor s t * p ≡ bit_xor (s * p) (t * p)
bits_times zero t p hs ht = ap (λ (x : ℕ). bit_xor x (t * p)) (sym (zero-mul p))
bits_times (suc zero) zero p hs ht = sym (xor_zero_r (1 * p)) ∙ ap (bit_xor (1 * p)) (sym (zero-mul p))
bits_times (suc zero) (suc zero) p hs ht = zero-mul p ∙ sym (xor_self (1 * p))
bits_times (suc zero) (suc (suc t)) p hs ht = absurd (omega arith)
bits_times (suc (suc s)) t p hs ht = absurd (omega arith)

pub bit_picks : (t s p : ℕ) → t < 2 → cond (eqb t 1) (bit_xor s p) s ≡ bit_xor s (t * p)
bit_picks zero s p h = sym (ap (bit_xor s) (zero-mul p) ∙ xor_zero_r s)
bit_picks (suc zero) s p h = ap (bit_xor s) (sym (one-mul p))
bit_picks (suc (suc t)) s p h = absurd (omega arith)

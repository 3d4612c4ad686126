-- Several bits at once, by what they make of the register 0.
use Rattle.std.proofs.Common.{◌≡◌, ℕ, zero, suc, ◌+◌, ◌-◌, ◌*◌, ◌/◌, ◌%◌, ◌^◌, ◌<◌, ◌≤◌, bit_and, lt_of_lt_of_le, mod-eq_of_lt, pow_mono, shl_lt, sym, ap, ◌∙◌, ap₂, mod-lt, add-mul, div-add-mod', mul_right_comm, arith, pow_pos}
use native.Mathlib.Nat.{mod-mod, mul-add-mod_self_right}
use lib.Bits.{bit_xor, xor_assoc, xor_self, xor_zero_r}
use lib.Pow.{field}
use Rattle.std.proofs.lemmas.Nat.{and_mask}
use Rattle.signature.specs.Rule.{bit_step, feed_bits}
use Rattle.signature.proofs.Linear.{top_bit, step_is, bit_lt, feed_xor}
use Rattle.signature.proofs.Kernel.{own, mod_mod_le}

-- what a step makes of a register depends on its bits up to the top bit only
twice_mod : (n m : ℕ) → n % m * 2 % m ≡ n * 2 % m
twice_mod n m =
    sym (ap (λ (x : ℕ). x * 2 % m) (sym (div-add-mod' n m))
    ∙ ap (λ (x : ℕ). x % m) (add-mul (n / m * m) (n % m) 2 ∙ ap (λ (x : ℕ). x + n % m * 2) (mul_right_comm (n / m) m 2))
    ∙ mul-add-mod_self_right (n / m * 2) m (n % m * 2))

top_mod : (top r : ℕ) → top_bit top (r % 2 ^ suc top) ≡ top_bit top r
top_mod top r =
    ap (λ (k : ℕ). r % 2 ^ k / 2 ^ top % 2) (omega arith) ∙ ap (λ (x : ℕ). x % 2) (field r 1 top) ∙ mod-mod (r / 2 ^ top) 2

step_mod : (top p r b : ℕ) → b < 2 → bit_step top p (r % 2 ^ suc top) b ≡ bit_step top p r b
step_mod top p r b h =
    step_is top p (r % 2 ^ suc top) b h
    ∙ ap₂ (λ (x t : ℕ). bit_xor x (bit_xor t b * p)) (twice_mod r (2 ^ suc top)) (top_mod top r)
    ∙ sym (step_is top p r b h)

feed_mod : (top p n r x : ℕ) → feed_bits top p (r % 2 ^ suc top) (suc n) x ≡ feed_bits top p r (suc n) x
unfolding feed_bits
feed_mod top p zero r x = step_mod top p r (x % 2) (bit_lt x)
feed_mod top p (suc n) r x = ap (λ (R : ℕ). bit_step top p R (x % 2)) (feed_mod top p n r (x / 2))

-- j bits at once, at a register of i + j bits
in_range : (top p i j s o : ℕ) → i + j ≡ suc top → s < 2 ^ suc top
    → feed_bits top p s j o ≡ bit_xor (s % 2 ^ i * 2 ^ j) (feed_bits top p 0 j (bit_xor (s / 2 ^ i) o))
in_range top p i j s o e h =
    let hi : ℕ = s / 2 ^ i in
    ap₂ (λ (r x : ℕ). feed_bits top p r j x) (sym (xor_zero_r s)) (sym (sym (xor_assoc hi hi o) ∙ ap (λ (x : ℕ). bit_xor x o) (xor_self hi)))
    ∙ feed_xor top p j s 0 hi (bit_xor hi o)
    ∙ ap (λ (x : ℕ). bit_xor x (feed_bits top p 0 j (bit_xor hi o))) (own top p s h i j e)

-- the same at any number in the place of a register: bits above its top bit are not read
pub by_table : (top p i j r o : ℕ) → i + suc j ≡ suc top
    → feed_bits top p r (suc j) o ≡ bit_xor (r % 2 ^ i * 2 ^ suc j) (feed_bits top p 0 (suc j) (bit_xor (r / 2 ^ i % 2 ^ suc j) o))
by_table top p i j r o e =
    let s : ℕ = r % 2 ^ suc top in
    let low : s % 2 ^ i ≡ r % 2 ^ i = mod_mod_le r (suc top) i (omega arith) in
    let high : s / 2 ^ i ≡ r / 2 ^ i % 2 ^ suc j = ap (λ (k : ℕ). r % 2 ^ k / 2 ^ i) (sym e ∙ omega arith) ∙ field r (suc j) i in
    sym (feed_mod top p j r o)
    ∙ in_range top p i (suc j) s o e (mod-lt r (pow_pos (suc top)))
    ∙ ap₂ (λ (x y : ℕ). bit_xor (x * 2 ^ suc j) (feed_bits top p 0 (suc j) (bit_xor y o))) low high

-- by an entry of a table, with a mask, at any register of at most four octets
pub tabled_is : (k p r o : ℕ) → k ≤ 24
    → bit_xor (bit_and r (2 ^ k - 1) * 256 % 2 ^ 32) (feed_bits (k + 7) p 0 8 (bit_xor (bit_and (r / 2 ^ k) 255) o)) ≡ feed_bits (k + 7) p r 8 o
tabled_is k p r o h =
    let small : r % 2 ^ k * 256 < 2 ^ (k + 8) = shl_lt k 8 (mod-lt r (pow_pos k)) in
    let room : k + 8 ≤ 32 = omega arith in
    let inside : r % 2 ^ k * 256 < 2 ^ 32 = lt_of_lt_of_le small (pow_mono room) in
    let low : bit_and r (2 ^ k - 1) * 256 % 2 ^ 32 ≡ r % 2 ^ k * 256 =
    ap (λ (x : ℕ). x * 256 % 2 ^ 32) (and_mask r k) ∙ mod-eq_of_lt inside in
    ap₂ (λ (x y : ℕ). bit_xor x (feed_bits (k + 7) p 0 8 (bit_xor y o))) low (and_mask (r / 2 ^ k) 8)
    ∙ sym (by_table (k + 7) p k 7 r o (omega arith))

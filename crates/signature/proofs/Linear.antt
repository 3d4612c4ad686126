-- The bit rule is linear: xored registers and bits leave xored registers. Bits may be fed in two parts.
use Rattle.std.proofs.Common.{◌≡◌, ℕ, zero, suc, ◌+◌, ◌*◌, ◌/◌, ◌%◌, ◌^◌, ◌<◌, sym, refl, ap, ◌∙◌, ap₂, add-zero, add-suc, mod-lt, one-mul, zero-mul, div-one, arith, pow_pos, shr-shr}
use lib.Bits.{bit_xor, xor_lt, xor_mod, xor_shr, block_half, block_odd}
use Rattle.signature.specs.Rule.{bit_step, feed_bits}
use Rattle.signature.proofs.Xor.{xor4, xor_twice, bits_times, bit_picks}

-- the top bit of r
abbrev pub top_bit : ℕ → ℕ → ℕ
top_bit top r = r / 2 ^ top % 2

pub bit_lt : (x : ℕ) → x % 2 < 2
bit_lt x = omega arith

-- the rule by a product in place of the cases
pub step_is : (top p r b : ℕ) → b < 2 → bit_step top p r b ≡ bit_xor (r * 2 % 2 ^ suc top) (bit_xor (top_bit top r) b * p)
unfolding bit_step
step_is top p r b h = bit_picks (bit_xor (top_bit top r) b) (r * 2 % 2 ^ suc top) p (xor_lt 1 (top_bit top r) b (bit_lt (r / 2 ^ top)) h)

top_bit_xor : (top r s : ℕ) → top_bit top (bit_xor r s) ≡ bit_xor (top_bit top r) (top_bit top s)
top_bit_xor top r s = ap (λ (x : ℕ). x % 2) (xor_shr r s top) ∙ xor_mod (r / 2 ^ top) (s / 2 ^ top) 1

shift_xor : (top r s : ℕ) → bit_xor r s * 2 % 2 ^ suc top ≡ bit_xor (r * 2 % 2 ^ suc top) (s * 2 % 2 ^ suc top)
shift_xor top r s = ap (λ (x : ℕ). x % 2 ^ suc top) (xor_twice r s) ∙ xor_mod (r * 2) (s * 2) (suc top)

pub step_xor : (top p r s b c : ℕ) → b < 2 → c < 2 → bit_step top p (bit_xor r s) (bit_xor b c) ≡ bit_xor (bit_step top p r b) (bit_step top p s c)
step_xor top p r s b c hb hc =
    step_is top p (bit_xor r s) (bit_xor b c) (xor_lt 1 b c hb hc)
    ∙ ap₂ bit_xor (shift_xor top r s)
    (ap (λ (x : ℕ). x * p) (ap (λ (x : ℕ). bit_xor x (bit_xor b c)) (top_bit_xor top r s) ∙ xor4 (top_bit top r) (top_bit top s) b c)
    ∙ bits_times (bit_xor (top_bit top r) b) (bit_xor (top_bit top s) c) p
    (xor_lt 1 (top_bit top r) b (bit_lt (r / 2 ^ top)) hb) (xor_lt 1 (top_bit top s) c (bit_lt (s / 2 ^ top)) hc))
    ∙ xor4 (r * 2 % 2 ^ suc top) (s * 2 % 2 ^ suc top) (bit_xor (top_bit top r) b * p) (bit_xor (top_bit top s) c * p)
    ∙ sym (ap₂ bit_xor (step_is top p r b hb) (step_is top p s c hc))

pub feed_xor : (top p : ℕ) (n r s x y : ℕ) → feed_bits top p (bit_xor r s) n (bit_xor x y) ≡ bit_xor (feed_bits top p r n x) (feed_bits top p s n y)
unfolding feed_bits
feed_xor top p zero r s x y = refl
feed_xor top p (suc n) r s x y =
    ap₂ (bit_step top p)
    (ap (feed_bits top p (bit_xor r s) n) (xor_shr x y 1) ∙ feed_xor top p n r s (x / 2) (y / 2))
    (xor_mod x y 1)
    ∙ step_xor top p (feed_bits top p r n (x / 2)) (feed_bits top p s n (y / 2)) (x % 2) (y % 2) (bit_lt x) (bit_lt y)

-- m bits, and then n
pub feed_add : (top p : ℕ) (m n r x : ℕ) → feed_bits top p r (m + n) x ≡ feed_bits top p (feed_bits top p r m (x / 2 ^ n)) n x
unfolding feed_bits
feed_add top p m zero r x = ap₂ (feed_bits top p r) (add-zero m) (sym (div-one x))
feed_add top p m (suc n) r x =
    ap (λ k. feed_bits top p r k x) (add-suc m n)
    ∙ ap (λ (R : ℕ). bit_step top p R (x % 2))
    (feed_add top p m n r (x / 2) ∙ ap (λ (q : ℕ). feed_bits top p (feed_bits top p r m q) n (x / 2)) (shr-shr x 1 n ∙ ap (λ (k : ℕ). x / 2 ^ k) (omega arith)))

-- bits above the n lowest are not read
pub feed_low : (top p : ℕ) (n r a x : ℕ) → feed_bits top p r n (a * 2 ^ n + x) ≡ feed_bits top p r n x
unfolding feed_bits
feed_low top p zero r a x = refl
feed_low top p (suc n) r a x =
    ap₂ (bit_step top p) (ap (feed_bits top p r n) (block_half a n x) ∙ feed_low top p n r a (x / 2)) (block_odd a n x)

pub step_lt : (top p r b : ℕ) → p < 2 ^ suc top → b < 2 → bit_step top p r b < 2 ^ suc top
step_lt top p r b hp hb = rw (step_is top p r b hb) (xor_lt (suc top) _ _ (mod-lt (r * 2) (pow_pos (suc top))) (times (bit_xor (top_bit top r) b) (xor_lt 1 (top_bit top r) b (bit_lt (r / 2 ^ top)) hb)))
  where
    times : (t : ℕ) → t < 2 → t * p < 2 ^ suc top
    times zero h = rw zero-mul (pow_pos (suc top))
    times (suc zero) h = rw one-mul hp
    times (suc (suc t)) h = absurd (omega arith)

pub feed_lt : (top p : ℕ) (n r x : ℕ) → p < 2 ^ suc top → r < 2 ^ suc top → feed_bits top p r n x < 2 ^ suc top
unfolding feed_bits
feed_lt top p zero r x hp hr = hr
feed_lt top p (suc n) r x hp hr = step_lt top p (feed_bits top p r n (x / 2)) (x % 2) hp (bit_lt x)

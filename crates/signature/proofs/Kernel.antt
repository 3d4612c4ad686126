-- What the bit rule takes to the register 0, where the polynomial's lowest bit is 1.
use Rattle.std.proofs.Common.{◌≡◌, ℕ, zero, suc, ◌+◌, ◌-◌, ◌*◌, ◌/◌, ◌%◌, ◌^◌, ◌<◌, ◌≤◌, sym, refl, ap, ◌∙◌, subst, ap₂, ⊎_elim, lt_of_lt_of_le, add-zero, mod-lt, mod-eq_of_lt, mul_assoc, div-lt_iff_lt-mul, add-mul, lt_of_mul-lt-mul_right, one-mul, pow-suc, zero-mul, mul-one, div-one, arith, pow_pos, pow_mono, pow-add, shl_lt, shr-shr, shr_lt}
use native.Mathlib.Nat.{zero-div, zero-mod, mul-mod_left, div-eq_of_lt, mod-one}
use lib.Arith.{mod-mul}
use lib.Bits.{bit_xor, xor_self, xor_zero_r, xor_lt, xor_mod}
use lib.Pow.{mod-mod-pow, mod-pow-add, shl-shr, high, low}
use Rattle.std.proofs.lemmas.Bool.{cases_lt}
use Rattle.signature.specs.Rule.{bit_step, feed_bits}
use Rattle.signature.proofs.Linear.{top_bit, bit_lt, step_is, feed_lt, feed_add, feed_low}
use Rattle.signature.proofs.Xor.{xor_zero}

times_odd : (t p : ℕ) → t < 2 → p % 2 ≡ 1 → t * p % 2 ≡ t
times_odd zero p h o = ap (λ (x : ℕ). x % 2) (zero-mul p)
times_odd (suc zero) p h o = ap (λ (x : ℕ). x % 2) (one-mul p) ∙ o
times_odd (suc (suc t)) p h o = absurd (omega arith)

-- a shorter mask after a longer one
pub mod_mod_le : (n j k : ℕ) → k ≤ j → n % 2 ^ j % 2 ^ k ≡ n % 2 ^ k
mod_mod_le n j k h = subst (λ (i : ℕ). n % 2 ^ i % 2 ^ k ≡ n % 2 ^ k) (omega arith) (mod-mod-pow n (j - k) k)

-- the lowest bit after a step says whether the top bit and the bit differed
pub step_low : (top p r b : ℕ) → p % 2 ≡ 1 → b < 2 → bit_step top p r b % 2 ≡ bit_xor (top_bit top r) b
step_low top p r b odd hb =
    ap (λ (x : ℕ). x % 2) (step_is top p r b hb)
    ∙ xor_mod (r * 2 % 2 ^ suc top) (bit_xor (top_bit top r) b * p) 1
    ∙ ap (λ (x : ℕ). bit_xor x (bit_xor (top_bit top r) b * p % 2)) (mod_mod_le (r * 2) (suc top) 1 (omega arith) ∙ mul-mod_left r 2)
    ∙ times_odd (bit_xor (top_bit top r) b) p (xor_lt 1 (top_bit top r) b (bit_lt (r / 2 ^ top)) hb) odd

-- a step after which the lowest bit is 0 only shifted
pub step_even : (top p r b : ℕ) → p % 2 ≡ 1 → b < 2 → bit_step top p r b % 2 ≡ 0 → (top_bit top r ≡ b) × (bit_step top p r b ≡ r * 2 % 2 ^ suc top)
step_even top p r b odd hb e =
    let z : bit_xor (top_bit top r) b ≡ 0 = sym (step_low top p r b odd hb) ∙ e in (
      xor_zero (top_bit top r) b z,
      step_is top p r b hb ∙ ap (bit_xor (r * 2 % 2 ^ suc top)) (ap (λ (t : ℕ). t * p) z ∙ zero-mul p) ∙ xor_zero_r (r * 2 % 2 ^ suc top),
    )

-- a register with top bit 0 that is shifted to 0 was 0
twice_small : (top r : ℕ) → r < 2 ^ suc top → top_bit top r ≡ 0 → r * 2 % 2 ^ suc top ≡ 0 → r ≡ 0
twice_small top r h t e =
    let small : r / 2 ^ top < 2 = (div-lt_iff_lt-mul (pow_pos top)).1 (subst (λ (x : ℕ). r < x) (pow-suc 2 top ∙ omega arith) h) in
    let low : r < 1 * 2 ^ top = (div-lt_iff_lt-mul (pow_pos top)).0 (omega arith) in
    let whole : r * 2 % 2 ^ suc top ≡ r * 2 = mod-eq_of_lt (subst (λ (x : ℕ). r * 2 < x) (sym (pow-suc 2 top)) (omega arith)) in
    omega arith

-- zero bits take only the register 0 to 0
pub zeros : (top p : ℕ) → p % 2 ≡ 1 → p < 2 ^ suc top → (n r : ℕ) → r < 2 ^ suc top → feed_bits top p r n 0 ≡ 0 → r ≡ 0
unfolding feed_bits
zeros top p odd hp zero r h e = e
zeros top p odd hp (suc n) r h e =
    let R : ℕ = feed_bits top p r n 0 in
    let both = step_even top p R 0 odd (omega arith) (ap (λ (x : ℕ). x % 2) e) in
    zeros top p odd hp n r h (twice_small top R (feed_lt top p n r 0 hp h) both.0 (sym both.1 ∙ e))

pub feed_zero : (top p n : ℕ) → feed_bits top p 0 n 0 ≡ 0
unfolding feed_bits
feed_zero top p zero = refl
feed_zero top p (suc n) =
    ap (λ (R : ℕ). bit_step top p R 0) (feed_zero top p n) ∙ step_is top p 0 0 (omega arith)
    ∙ simp (zero-div, zero-mod, zero-mul)

half_zero : (j r : ℕ) → r * 2 % 2 ^ suc j ≡ 0 → r % 2 ^ j ≡ 0
half_zero j r e =
    let two : 0 < 2 = omega arith in
    let m : r * 2 % (2 ^ j * 2) ≡ (r * 2 / 2 % 2 ^ j) * 2 + r * 2 % 2 = mod-mul (r * 2) (pow_pos j) two in
    let back : r * 2 / 2 % 2 ^ j ≡ r % 2 ^ j = ap (λ (x : ℕ). x % 2 ^ j) (omega arith) in
    let wide : r * 2 % (2 ^ j * 2) ≡ 0 = ap (λ (x : ℕ). r * 2 % x) (sym (pow-suc 2 j)) ∙ e in
    omega arith

-- bits fed to the register 0 that leave its lowest bits 0 are all 0
pub kernel : (top p : ℕ) → p % 2 ≡ 1 → (j x : ℕ) → j ≤ suc top → x < 2 ^ j → feed_bits top p 0 j x % 2 ^ j ≡ 0 → x ≡ 0
unfolding feed_bits
kernel top p odd zero x hj hx e = omega arith
kernel top p odd (suc j) x hj hx e =
    let R : ℕ = feed_bits top p 0 j (x / 2) in
    let S : ℕ = bit_step top p R (x % 2) in
    let even : S % 2 ≡ 0 = sym (mod_mod_le S (suc j) 1 (omega arith)) ∙ ap (λ (y : ℕ). y % 2) e in
    let both = step_even top p R (x % 2) odd (bit_lt x) even in
    let low : R % 2 ^ j ≡ 0 = half_zero j R (sym (mod_mod_le (R * 2) (suc top) (suc j) hj) ∙ ap (λ (y : ℕ). y % 2 ^ suc j) (sym both.1) ∙ e) in
    let half : x / 2 ≡ 0 = kernel top p odd j (x / 2) (omega arith) (omega (arith, pow-suc 2 j)) low in
    let none : R ≡ 0 = ap (feed_bits top p 0 j) half ∙ feed_zero top p j in
    let bit : x % 2 ≡ 0 = sym both.0 ∙ ap (top_bit top) none ∙ ap (λ (y : ℕ). y % 2) (zero-div (2 ^ top)) in
    omega arith

-- a run of at most suc top bits, not all 0, fed to the register 0 leaves another register
pub run : (top p : ℕ) → p % 2 ≡ 1 → (m q : ℕ) → q < 2 ^ suc top → q < 2 ^ m → feed_bits top p 0 m q ≡ 0 → q ≡ 0
run top p odd m q hq hm e =
    ⊎_elim
    (λ less. kernel top p odd m q (omega arith) hm (ap (λ (x : ℕ). x % 2 ^ m) e ∙ zero-mod (2 ^ m)))
    (λ more.
    let k : ℕ = suc top in
    let cut : feed_bits top p 0 m q ≡ feed_bits top p (feed_bits top p 0 (m - k) (q / 2 ^ k)) k q =
    ap (λ (i : ℕ). feed_bits top p 0 i q) (omega arith) ∙ feed_add top p (m - k) k 0 q in
    let high : feed_bits top p 0 (m - k) (q / 2 ^ k) ≡ 0 = ap (feed_bits top p 0 (m - k)) (div-eq_of_lt hq) ∙ feed_zero top p (m - k) in
    let rest : feed_bits top p 0 k q ≡ 0 = ap (λ (R : ℕ). feed_bits top p R k q) (sym high) ∙ sym cut ∙ e in
    kernel top p odd k q (omega arith) hq (ap (λ (x : ℕ). x % 2 ^ k) rest ∙ zero-mod (2 ^ k)))
    (cases_lt m (suc top))

-- and so does a run that zero bits follow
pub burst : (top p : ℕ) → p % 2 ≡ 1 → p < 2 ^ suc top → (n q j : ℕ) → q < 2 ^ suc top → q * 2 ^ j < 2 ^ n → feed_bits top p 0 n (q * 2 ^ j) ≡ 0 → q ≡ 0
burst top p odd hp n q j hq hn e =
    ⊎_elim
    (λ inside.
    let m : ℕ = n - j in
    let whole : m + j ≡ n = omega arith in
    let fits : q < 2 ^ m = subst (λ (x : ℕ). x < 2 ^ m) (shl-shr q j) (shr_lt m j (subst (λ (k : ℕ). q * 2 ^ j < 2 ^ k) (sym whole) hn)) in
    let R : ℕ = feed_bits top p 0 m q in
    let cut : feed_bits top p 0 n (q * 2 ^ j) ≡ feed_bits top p R j 0 =
    ap (λ (k : ℕ). feed_bits top p 0 k (q * 2 ^ j)) (sym whole) ∙ feed_add top p m j 0 (q * 2 ^ j)
    ∙ ap₂ (λ (x y : ℕ). feed_bits top p (feed_bits top p 0 m x) j y) (shl-shr q j) (sym (add-zero (q * 2 ^ j)))
    ∙ feed_low top p j R q 0 in
    run top p odd m q hq fits (zeros top p odd hp j R (feed_lt top p m 0 q hp (pow_pos (suc top))) (sym cut ∙ e)))
    (λ outside.
    let small : q < 1 = lt_of_mul-lt-mul_right (2 ^ j) (subst (λ (x : ℕ). q * 2 ^ j < x) (sym (one-mul (2 ^ j))) (lt_of_lt_of_le hn (pow_mono outside))) in
    omega arith)
    (cases_lt j n)

shift_suc : (a k : ℕ) → a * 2 ^ suc k ≡ a * 2 ^ k * 2
shift_suc a k = ap (λ (x : ℕ). a * x) (pow-suc 2 k) ∙ sym (mul_assoc a (2 ^ k) 2)

doubled : (b y top : ℕ) → (b * 2 ^ top + y) * 2 ≡ b * 2 ^ suc top + y * 2
doubled b y top = let e = shift_suc b top in omega arith

-- a register that is fed its own bits
pub own : (top p s : ℕ) → s < 2 ^ suc top → (i j : ℕ) → i + j ≡ suc top → feed_bits top p s j (s / 2 ^ i) ≡ (s % 2 ^ i) * 2 ^ j
unfolding feed_bits
own top p s h i zero e = sym (mul-one (s % 2 ^ i) ∙ mod-eq_of_lt (subst (λ (k : ℕ). s < 2 ^ k) (sym e ∙ add-zero i) h))
own top p s h i (suc j) e =
    let b : ℕ = s / 2 ^ i % 2 in
    let l : ℕ = s % 2 ^ i in
    let before : feed_bits top p s j (s / 2 ^ i / 2) ≡ (b * 2 ^ i + l) * 2 ^ j =
    ap (feed_bits top p s j) (shr-shr s i 1 ∙ ap (λ (k : ℕ). s / 2 ^ k) (omega arith))
    ∙ own top p s h (suc i) j (omega arith)
    ∙ ap (λ (x : ℕ). x * 2 ^ j) (ap (λ (k : ℕ). s % 2 ^ k) (omega arith) ∙ mod-pow-add s 1 i) in
    let sum : (b * 2 ^ i + l) * 2 ^ j ≡ b * 2 ^ top + l * 2 ^ j =
    add-mul (b * 2 ^ i) l (2 ^ j) ∙ ap (λ (x : ℕ). x + l * 2 ^ j) (mul_assoc b (2 ^ i) (2 ^ j) ∙ ap (λ (x : ℕ). b * x) (sym (pow-add 2 i j) ∙ ap (λ (k : ℕ). 2 ^ k) (omega arith))) in
    let R : ℕ = b * 2 ^ top + l * 2 ^ j in
    let small : l * 2 ^ j < 2 ^ top = subst (λ (k : ℕ). l * 2 ^ j < 2 ^ k) (omega arith) (shl_lt i j (mod-lt s (pow_pos i))) in
    let tops : top_bit top R ≡ b = ap (λ (x : ℕ). x % 2) (high b top small) ∙ mod-eq_of_lt (bit_lt (s / 2 ^ i)) in
    ap (λ (x : ℕ). bit_step top p x b) (before ∙ sum)
    ∙ step_is top p R b (bit_lt (s / 2 ^ i))
    ∙ ap (λ (t : ℕ). bit_xor (R * 2 % 2 ^ suc top) (t * p)) (ap (λ (t : ℕ). bit_xor t b) tops ∙ xor_self b)
    ∙ ap (bit_xor (R * 2 % 2 ^ suc top)) (zero-mul p) ∙ xor_zero_r (R * 2 % 2 ^ suc top)
    ∙ ap (λ (x : ℕ). x % 2 ^ suc top) (doubled b (l * 2 ^ j) top)
    ∙ low b (suc top) (subst (λ (x : ℕ). l * 2 ^ j * 2 < x) (sym (pow-suc 2 top)) (omega arith))
    ∙ sym (shift_suc l j)

pub own_bits : (top p s : ℕ) → s < 2 ^ suc top → feed_bits top p s (suc top) s ≡ 0
own_bits top p s h =
    ap (feed_bits top p s (suc top)) (sym (div-one s)) ∙ own top p s h 0 (suc top) (omega arith) ∙ ap (λ (x : ℕ). x * 2 ^ suc top) (mod-one s) ∙ zero-mul (2 ^ suc top)

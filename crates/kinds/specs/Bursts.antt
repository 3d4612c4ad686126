-- A change between a first and a last bit, as one number: a short pattern, shifted.
use Rattle.std.specs.Prelude.{◌≡◌, ℕ, zero, suc, ◌+◌, ◌-◌, ◌*◌, ◌/◌, ◌%◌, ◌^◌, ◌<◌, List, [], ◌∷◌, length, bit_xor, slice_index, refl}
use Rattle.std.proofs.Common.{sym, ap, ap₂, ◌∙◌, subst, ⊎_elim, mod-eq_of_lt, div-add-mod', zero-mul, add-zero, div-lt_iff_lt-mul, lt_of_lt_of_le, one-mul, arith, pow_pos, pow_mono, shr-shr, shr_lt}
use Rattle.std.proofs.Math.Nat.{mod-one}
use Rattle.std.specs.Int.Bits.{xor_self}
use Rattle.std.proofs.lemmas.Nat.{xor_mod, xor_shr, mod-pow-add}
use Rattle.std.proofs.Math.Pow.{field, high, low}
use Rattle.std.proofs.lemmas.Bool.{cases_lt}
use Rattle.signature.specs.Laws.{Octets, Burst, bit_at}
use Rattle.signature.proofs.Kernel.{mod_mod_le}
use Rattle.signature.proofs.Xor.{xor_zero}
use Rattle.kinds.specs.ValuesLemmas.{value, value_cons, value_below}

-- numbers with the same k lowest bits
same_low : (x y k : ℕ) → ((j : ℕ) → j < k → x / 2 ^ j % 2 ≡ y / 2 ^ j % 2) → x % 2 ^ k ≡ y % 2 ^ k
same_low x y zero h = mod-one x ∙ sym (mod-one y)
same_low x y (suc k) h =
    let next : suc k ≡ 1 + k = omega arith in
    ap (λ (i : ℕ). x % 2 ^ i) next ∙ mod-pow-add x 1 k
    ∙ ap₂ (λ (b r : ℕ). b * 2 ^ k + r) (h k (omega arith)) (same_low x y k (λ j l. h j (omega arith)))
    ∙ sym (ap (λ (i : ℕ). y % 2 ^ i) next ∙ mod-pow-add y 1 k)

-- a bit below a mask
low_bit : (x m j : ℕ) → j < m → x % 2 ^ m / 2 ^ j % 2 ≡ x / 2 ^ j % 2
low_bit x m j h =
    let whole : m ≡ (m - j) + j = omega arith in
    ap (λ (k : ℕ). x % 2 ^ k / 2 ^ j % 2) whole ∙ ap (λ (y : ℕ). y % 2) (field x (m - j) j)
    ∙ mod_mod_le (x / 2 ^ j) (m - j) 1 (omega arith)

-- the bits of octets are those of their number, counted from the other end
value_bit : (f : List ℕ) → Octets f → (i : ℕ) → i < 8 * length f → value f / 2 ^ (8 * length f - 1 - i) % 2 ≡ bit_at f i
value_bit [] h i l = absurd (omega arith)
value_bit (o ∷ os) h i l =
    let n : ℕ = 8 * length os in
    let v : ℕ = value os in
    let small : v < 2 ^ n = value_below os h.1 in
    let from : (j : ℕ) → 8 * suc (length os) - 1 - i ≡ j → value (o ∷ os) / 2 ^ (8 * suc (length os) - 1 - i) % 2 ≡ (o * 2 ^ n + v) / 2 ^ j % 2 =
    λ j e. ap₂ (λ (x k : ℕ). x / 2 ^ k % 2) (value_cons o os) e in
    ⊎_elim
    (λ less.
    let here : i / 8 ≡ 0 = omega arith in
    let at : 7 - i ≡ 7 - i % 8 = omega arith in
    from (n + (7 - i)) (omega arith)
    ∙ ap (λ (x : ℕ). x % 2) (sym (shr-shr (o * 2 ^ n + v) n (7 - i)) ∙ ap (λ (x : ℕ). x / 2 ^ (7 - i)) (high o n small))
    ∙ ap₂ (λ (x k : ℕ). slice_index (o ∷ os) x / 2 ^ k % 2) (sym here) at)
    (λ more.
    let j : ℕ = n - 1 - (i - 8) in
    let next : suc ((i - 8) / 8) ≡ i / 8 = omega arith in
    let at : 7 - (i - 8) % 8 ≡ 7 - i % 8 = omega arith in
    from j (omega arith)
    ∙ sym (low_bit (o * 2 ^ n + v) n j (omega arith)) ∙ ap (λ (x : ℕ). x / 2 ^ j % 2) (low o n small)
    ∙ value_bit os h.1 (i - 8) (omega arith)
    ∙ ap₂ (λ (x k : ℕ). slice_index (o ∷ os) x / 2 ^ k % 2) next at)
    (cases_lt i 8)

-- a bit of the number
pub bit_value : (f : List ℕ) → Octets f → (L j : ℕ) → 8 * length f ≡ L → j < L → value f / 2 ^ j % 2 ≡ bit_at f (L - 1 - j)
bit_value f h L j e l =
    let back : j ≡ 8 * length f - 1 - (L - 1 - j) = omega arith in
    ap (λ (k : ℕ). value f / 2 ^ k % 2) back ∙ value_bit f h (L - 1 - j) (omega arith)

-- the change from f to g, as numbers: a pattern of at most n bits, not all 0, with `after` unchanged bits behind it
pub record Change (n : ℕ) (f g : List ℕ) : Type 0 where
  pub pattern : ℕ
  pub after : ℕ
  pub some : 0 < pattern
  pub short : pattern < 2 ^ n
  pub change : bit_xor (value f) (value g) ≡ pattern * 2 ^ after

module _ (n : ℕ) (f g : List ℕ) (of : Octets f) (og : Octets g) (c : Burst n f g) where
  -- bits that agree
  agree : (j : ℕ) → j < 8 * length f → bit_at g (8 * length f - 1 - j) ≡ bit_at f (8 * length f - 1 - j)
      → value f / 2 ^ j % 2 ≡ value g / 2 ^ j % 2
  agree j l same =
      bit_value f of (8 * length f) j refl l ∙ sym (bit_value g og (8 * length f) j (ap (λ (k : ℕ). 8 * k) c.same_length) l ∙ same)

  -- no bit behind the last one changed
  behind : bit_xor (value f) (value g) % 2 ^ (8 * length f - 1 - c.last) ≡ 0
  behind =
      let a : ℕ = 8 * length f - 1 - c.last in
      let same : value f % 2 ^ a ≡ value g % 2 ^ a =
      same_low (value f) (value g) a (λ j l. agree j (omega arith) (c.after (8 * length f - 1 - j) (omega arith))) in
      xor_mod (value f) (value g) a ∙ ap (λ (x : ℕ). bit_xor x (value g % 2 ^ a)) same ∙ xor_self (value g % 2 ^ a)

  -- no bit before the first one changed
  ahead : bit_xor (value f) (value g) / 2 ^ (8 * length f - c.first) ≡ 0
  ahead =
      let b : ℕ = 8 * length f - c.first in
      let k : ℕ = c.first in
      let ordered = c.ordered in
      let within = c.within in
      let whole : 8 * length f ≡ k + b = omega arith in
      let small : (h : List ℕ) → Octets h → length h ≡ length f → value h / 2 ^ b < 2 ^ k =
      λ h oh e. shr_lt k b (subst (λ (i : ℕ). value h < 2 ^ i) (ap (λ (i : ℕ). 8 * i) e ∙ whole) (value_below h oh)) in
      let bits : (j : ℕ) → j < k → value f / 2 ^ b / 2 ^ j % 2 ≡ value g / 2 ^ b / 2 ^ j % 2 =
      λ j l. ap (λ (x : ℕ). x % 2) (shr-shr (value f) b j) ∙ agree (b + j) (omega arith) (c.before (8 * length f - 1 - (b + j)) (omega arith))
      ∙ ap (λ (x : ℕ). x % 2) (sym (shr-shr (value g) b j)) in
      let same : value f / 2 ^ b ≡ value g / 2 ^ b =
      sym (mod-eq_of_lt (small f of refl)) ∙ same_low (value f / 2 ^ b) (value g / 2 ^ b) k bits ∙ mod-eq_of_lt (small g og c.same_length) in
      xor_shr (value f) (value g) b ∙ ap (λ (x : ℕ). bit_xor x (value g / 2 ^ b)) same ∙ xor_self (value g / 2 ^ b)

  -- the first bit changed
  some_change : bit_xor (value f) (value g) ≡ 0 → ⊥
  some_change e =
      let j : ℕ = 8 * length f - 1 - c.first in
      let ordered = c.ordered in
      let within = c.within in
      let at : 8 * length f - 1 - j ≡ c.first = omega arith in
      let same : value f ≡ value g = xor_zero (value f) (value g) e in
      let bits : bit_at g (8 * length f - 1 - j) ≡ bit_at f (8 * length f - 1 - j) =
      sym (bit_value g og (8 * length f) j (ap (λ (k : ℕ). 8 * k) c.same_length) (omega arith))
      ∙ ap (λ (x : ℕ). x / 2 ^ j % 2) (sym same) ∙ bit_value f of (8 * length f) j refl (omega arith) in
      c.starts (subst (λ (i : ℕ). bit_at g i ≡ bit_at f i) at bits)

  pub changed : Change n f g
  changed =
      let x : ℕ = bit_xor (value f) (value g) in
      let a : ℕ = 8 * length f - 1 - c.last in
      let d : ℕ = c.last + 1 - c.first in
      let q : ℕ = x / 2 ^ a in
      let ordered = c.ordered in
      let within = c.within in
      let short = c.short in
      let is : x ≡ q * 2 ^ a = sym (div-add-mod' x (2 ^ a)) ∙ ap (λ (r : ℕ). q * 2 ^ a + r) behind ∙ add-zero (q * 2 ^ a) in
      let none : q / 2 ^ d ≡ 0 = shr-shr x a d ∙ ap (λ (k : ℕ). x / 2 ^ k) (omega arith) ∙ ahead in
      let few : q < 1 * 2 ^ d = (div-lt_iff_lt-mul (pow_pos d)).0 (omega arith) in
      let fits : q < 2 ^ n = lt_of_lt_of_le (subst (λ (y : ℕ). q < y) (one-mul (2 ^ d)) few) (pow_mono (omega arith)) in
      record {
        pattern = q;
        after = a;
        some = ⊎_elim (λ (z : q < 1). absurd (some_change (is ∙ ap (λ (y : ℕ). y * 2 ^ a) (omega arith) ∙ zero-mul (2 ^ a)))) (λ p. p) (cases_lt q 1);
        short = fits;
        change = is;
      }

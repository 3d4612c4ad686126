-- The octets of a number one by one.
use Rattle.std.proofs.Common.{◌≡◌, ℕ, zero, suc, ◌/◌, ◌%◌, ◌^◌, ◌<◌, [], ◌∷◌, ◌++◌, sym, ap, ◌∙◌, mul_comm, pow-suc, div-one, arith}
use native.Mathlib.Nat.{div-div-eq-div-mul}
use Rattle.signature.specs.Kind.{octets}
use Rattle.signature.specs.declared.number.Number.{Number}
use Rattle.signature.specs.Numbers.{numeral}

pub octets_front : (n x : ℕ) → octets (suc n) x ≡ (x / 256 ^ n % 256) ∷ octets n x
unfolding octets
octets_front zero x = ap (λ (y : ℕ). (y % 256) ∷ []) (sym (div-one x))
octets_front (suc n) x =
    ap (λ os. os ++ ((x % 256) ∷ [])) (octets_front n (x / 256))
    ∙ ap (λ (y : ℕ). (y % 256) ∷ octets (suc n) x)
    (div-div-eq-div-mul x 256 (256 ^ n) ∙ ap (λ (y : ℕ). x / y) (mul_comm 256 (256 ^ n) ∙ sym (pow-suc 256 n)))

pub octets_three : (x : ℕ) → octets 3 x ≡ (x / 65536 % 256) ∷ (x / 256 % 256) ∷ (x % 256) ∷ []
unfolding octets
octets_three x =
    octets_front 2 x ∙ ap (λ os. (x / 65536 % 256) ∷ os) (octets_front 1 x)

pub octets_four : (x : ℕ) → octets 4 x ≡ (x / 16777216 % 256) ∷ (x / 65536 % 256) ∷ (x / 256 % 256) ∷ (x % 256) ∷ []
octets_four x = octets_front 3 x ∙ ap (λ os. (x / 16777216 % 256) ∷ os) (octets_three x)

-- a number's octets are the fields of the type
pub octets_numeral : (n : Number) → n.high < 256 → n.middle < 256 → n.low < 256
    → octets 3 (numeral n) ≡ n.high ∷ n.middle ∷ n.low ∷ []
octets_numeral n h m l =
    let a : numeral n / 65536 % 256 ≡ n.high = omega arith in
    let b : numeral n / 256 % 256 ≡ n.middle = omega arith in
    let c : numeral n % 256 ≡ n.low = omega arith in
    octets_three (numeral n) ∙ cc

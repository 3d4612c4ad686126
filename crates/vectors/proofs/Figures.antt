-- A figure is spelt by its octets.
use Rattle.std.proofs.Common.{◌≡◌, ℕ, ◌+◌, ◌*◌, ◌/◌, ◌%◌, List, [], ◌∷◌, get_or, ◌∙◌, arith}
use Rattle.signature.specs.Kind.{octets}
use Rattle.signature.specs.Numbers.{numeral}
use Rattle.signature.proofs.Octets.{octets_numeral, octets_four}
use Rattle.vectors.specs.Hex.{AreOctets}

pub two : (os : List ℕ) → AreOctets 2 os → octets 2 (get_or os 0 0 * 256 + get_or os 1 0) ≡ os
unfolding octets
two [] a = absurd (omega arith)
two (h ∷ []) a = absurd (omega arith)
two (h ∷ l ∷ []) a =
    let high : (h * 256 + l) / 256 % 256 ≡ h = omega arith in
    let low : (h * 256 + l) % 256 ≡ l = omega arith in
    cc
two (h ∷ l ∷ x ∷ os) a = absurd (omega arith)

pub three : (os : List ℕ) → AreOctets 3 os → octets 3 (numeral (record { high = get_or os 0 0; middle = get_or os 1 0; low = get_or os 2 0 })) ≡ os
three [] a = absurd (omega arith)
three (h ∷ []) a = absurd (omega arith)
three (h ∷ m ∷ []) a = absurd (omega arith)
three (h ∷ m ∷ l ∷ []) a = octets_numeral (record { high = h; middle = m; low = l }) a.1.0 a.1.1.0 a.1.1.1.0
three (h ∷ m ∷ l ∷ x ∷ os) a = absurd (omega arith)

pub four : (os : List ℕ) → AreOctets 4 os
    → octets 4 (get_or os 0 0 * 16777216 + get_or os 1 0 * 65536 + get_or os 2 0 * 256 + get_or os 3 0) ≡ os
four [] a = absurd (omega arith)
four (h ∷ []) a = absurd (omega arith)
four (h ∷ i ∷ []) a = absurd (omega arith)
four (h ∷ i ∷ j ∷ []) a = absurd (omega arith)
four (h ∷ i ∷ j ∷ k ∷ []) a =
    let x : ℕ = h * 16777216 + i * 65536 + j * 256 + k in
    let one : x / 16777216 % 256 ≡ h = omega arith in
    let two : x / 65536 % 256 ≡ i = omega arith in
    let three : x / 256 % 256 ≡ j = omega arith in
    let four : x % 256 ≡ k = omega arith in
    octets_four x ∙ cc
four (h ∷ i ∷ j ∷ k ∷ x ∷ os) a = absurd (omega arith)

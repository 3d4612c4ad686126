-- Octets as one number, and the bit rule over them.
use Rattle.std.specs.Prelude.{◌≡◌, ℕ, zero, suc, ◌+◌, ◌*◌, ◌/◌, ◌%◌, ◌^◌, ◌<◌, ◌≤◌, List, [], ◌∷◌, length, fold}
use Rattle.std.proofs.Common.{sym, ap, ◌∙◌, subst, add-zero, add_assoc, add-mul, mul_assoc, pow-suc, mul-le-mul_right, zero-add, suc-mul, arith, pow-add}
use Rattle.std.proofs.lemmas.List.Sums.{fold_push}
use Rattle.signature.specs.Rule.{feed_bits}
use Rattle.signature.specs.Kind.{octets}
use Rattle.signature.specs.Laws.{Octets, registers}
use Rattle.signature.proofs.Given.{registers_are}
use Rattle.signature.proofs.Linear.{feed_add, feed_low}

-- the number that octets spell after a, the highest first
abbrev pub value_from : ℕ → List ℕ → ℕ
value_from a os = fold (λ x o. x * 256 + o) a os

abbrev pub value : List ℕ → ℕ
value os = value_from 0 os

pub value_octets : (n x : ℕ) → x < registers n → value (octets n x) ≡ x
unfolding octets
value_octets zero x h = omega arith
value_octets (suc n) x h =
    fold_push (λ a o. a * 256 + o) 0 (octets n (x / 256)) (x % 256)
    ∙ ap (λ (y : ℕ). y * 256 + x % 256) (value_octets n (x / 256) (omega (arith, registers_are n, registers_are (suc n), pow-suc 256 n)))
    ∙ omega arith

-- the octets after the first
wider : (l : ℕ) → 2 ^ (8 * suc l) ≡ 256 * 2 ^ (8 * l)
wider l = ap (λ (k : ℕ). 2 ^ k) (omega arith) ∙ pow-add 2 8 (8 * l)

pub value_is_from : (a : ℕ) (os : List ℕ) → value_from a os ≡ a * 2 ^ (8 * length os) + value os
value_is_from a [] = omega arith
value_is_from a (o ∷ os) =
    let P : ℕ = 2 ^ (8 * length os) in
    let V : ℕ = value os in
    value_is_from (a * 256 + o) os
    ∙ ap (λ (x : ℕ). x + V) (add-mul (a * 256) o P ∙ ap (λ (x : ℕ). x + o * P) (mul_assoc a 256 P ∙ ap (λ (x : ℕ). a * x) (sym (wider (length os)))))
    ∙ add_assoc (a * 2 ^ (8 * suc (length os))) (o * P) V
    ∙ ap (λ (x : ℕ). a * 2 ^ (8 * suc (length os)) + x) (sym (value_is_from (0 + o) os ∙ ap (λ (x : ℕ). x * P + V) (zero-add o)))

-- the first octet and the rest
pub value_cons : (o : ℕ) (os : List ℕ) → value (o ∷ os) ≡ o * 2 ^ (8 * length os) + value os
value_cons o os = value_is_from (0 + o) os ∙ ap (λ (x : ℕ). x * 2 ^ (8 * length os) + value os) (zero-add o)

pub value_below : (os : List ℕ) → Octets os → value os < 2 ^ (8 * length os)
value_below [] h = omega arith
value_below (o ∷ os) h =
    let P : ℕ = 2 ^ (8 * length os) in
    let rest : value os < P = value_below os h.1 in
    let more : suc o * P ≤ 256 * P = mul-le-mul_right P h.0 in
    let one : suc o * P ≡ o * P + P = suc-mul o P in
    subst (λ (x : ℕ). value (o ∷ os) < x) (sym (wider (length os))) (subst (λ (x : ℕ). x < 256 * P) (sym (value_cons o os)) (omega arith))

-- octets one by one are the bits of their number
feed_from : (top p r m a : ℕ) (os : List ℕ) → Octets os
    → fold (λ r o. feed_bits top p r 8 o) (feed_bits top p r m a) os ≡ feed_bits top p r (m + 8 * length os) (value_from a os)
feed_from top p r m a [] h = ap (λ (k : ℕ). feed_bits top p r k a) (sym (add-zero m))
feed_from top p r m a (o ∷ os) h =
    let small : o < 256 = h.0 in
    let x : ℕ = a * 256 + o in
    let one : feed_bits top p (feed_bits top p r m a) 8 o ≡ feed_bits top p r (m + 8) x =
    sym (feed_add top p m 8 r x ∙ ap (λ (y : ℕ). feed_bits top p (feed_bits top p r m y) 8 x) (omega arith) ∙ feed_low top p 8 (feed_bits top p r m a) a o) in
    ap (λ (R : ℕ). fold (λ r o. feed_bits top p r 8 o) R os) one
    ∙ feed_from top p r (m + 8) x os h.1
    ∙ ap (λ (k : ℕ). feed_bits top p r k (value_from x os)) (omega arith)

pub bits_are_fed : (top p r : ℕ) (os : List ℕ) → Octets os
    → fold (λ r o. feed_bits top p r 8 o) r os ≡ feed_bits top p r (8 * length os) (value os)
unfolding feed_bits
bits_are_fed top p r os h = feed_from top p r 0 0 os h ∙ ap (λ (k : ℕ). feed_bits top p r k (value os)) (omega arith)

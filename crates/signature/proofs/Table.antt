-- A table's rule at each of its entries, from one computed test of the whole table.
use Rattle.std.proofs.Common.{◌≡◌, ℕ, zero, suc, ◌+◌, ◌/◌, ◌%◌, ◌<◌, true, eqb, List, [], ◌∷◌, length, get_or, sym, refl, ap, ◌∙◌, le_of_suc-le-suc, not-suc-le-zero, add-zero, add-suc, suc-add, zero-add}
use Rattle.signature.specs.Rule.{bit_step, feed_bits}
use Rattle.signature.specs.Table.{computed, every}
use Rattle.std.proofs.lemmas.Bool.{and_parts, eqb-true}

from : (f : ℕ → ℕ) (xs : List ℕ) (i : ℕ) → every f i xs ≡ true → (k : ℕ) → k < length xs → get_or xs k 0 ≡ f (i + k)
from f [] i t k h = absurd (not-suc-le-zero h)
from f (x ∷ xs) i t zero h = eqb-true x (f i) (and_parts (eqb x (f i)) (every f (suc i) xs) t).0 ∙ ap f (sym (add-zero i))
from f (x ∷ xs) i t (suc k) h =
    from f xs (suc i) (and_parts (eqb x (f i)) (every f (suc i) xs) t).1 k (le_of_suc-le-suc h) ∙ ap f (suc-add i k ∙ sym (add-suc i k))

pub entries : (f : ℕ → ℕ) (xs : List ℕ) → every f 0 xs ≡ true → (k : ℕ) → k < length xs → get_or xs k 0 ≡ f k
entries f xs t k h = from f xs 0 t k h ∙ ap f (zero-add k)

pub computed_is : (top p n x : ℕ) → computed top p n x ≡ feed_bits top p 0 n x
unfolding feed_bits bit_step
computed_is top p zero x = refl
computed_is top p (suc n) x = ap (λ (r : ℕ). bit_step top p r (x % 2)) (computed_is top p n (x / 2))

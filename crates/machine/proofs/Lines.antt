-- What holds of each frame on a line, as the line changes.
use Rattle.std.proofs.Common.{◌≡◌, ℕ, ◌+◌, ◌<◌, Bool, true, false, cond, not, ◌&&◌, eqb, ltb, List, [], ◌∷◌, inl, inr}
use Rattle.std.specs.List.{AllByRecursion}
use Rattle.std.specs.Str.{bytes_eq}
use Rattle.std.proofs.lemmas.Slice.Eq.{bytes_eq-Decides}
use Rattle.std.proofs.lemmas.Bool.{cond_both, ltb-true, eqb-false, ne_eqb, and_from, or_left, or_right, not_from_false}
use Rattle.machine.specs.Lines.{Entry, On, lifetime, older, number_begun, numbered, without_restarts}

module _ (P Q : Entry → Type 0) where
  pub all_begun : ((e : Entry) → P e → e.begun + 1 < lifetime → Q (older e)) → (l : List Entry) → AllByRecursion P l → AllByRecursion Q (number_begun l)
  all_begun g [] a = tt
  all_begun g (e ∷ l) a =
      cond_both (ltb (e.begun + 1) lifetime) (older e ∷ number_begun l) (number_begun l) (AllByRecursion Q)
      (λ t. (g e a.0 (ltb-true (e.begun + 1) lifetime t), all_begun g l a.1))
      (λ t. all_begun g l a.1)

  pub all_without : ((e : Entry) → P e → (e.number ≡ 0 → ⊥) → Q e) → (l : List Entry) → AllByRecursion P l → AllByRecursion Q (without_restarts l)
  all_without g [] a = tt
  all_without g (e ∷ l) a =
      cond_both (eqb e.number 0) (without_restarts l) (e ∷ without_restarts l) (AllByRecursion Q) (λ t. all_without g l a.1)
      (λ t. (g e a.0 (eqb-false e.number 0 t), all_without g l a.1))

pub all_thin : (P : Entry → Type 0) (b : Bool) (l : List Entry) → AllByRecursion P l → AllByRecursion P (cond b (without_restarts l) l)
all_thin P true l a = all_without P P (λ e p n. p) l a
all_thin P false l a = a

pub on_entry : (P : Entry → Type 0) (f : List ℕ) (l : List Entry) → AllByRecursion P l → On f l → (e : Entry) × P e × (e.frame ≡ f)
on_entry P f [] a o = absurd o
on_entry P f (e ∷ l) a (inl x) = (e, a.0, x)
on_entry P f (e ∷ l) a (inr o) = on_entry P f l a.1 o

-- a frame on the line counts as numbered if every entry with its octets has a number above 0
pub numbered_on : (f : List ℕ) (l : List Entry) → AllByRecursion (λ e. e.frame ≡ f → e.number ≡ 0 → ⊥) l → On f l → numbered f l ≡ true
numbered_on f [] a o = absurd o
numbered_on f (e ∷ l) a (inl x) =
    or_left (bytes_eq e.frame f && not (eqb e.number 0)) (numbered f l)
    (and_from (bytes_eq e.frame f) (not (eqb e.number 0)) ((bytes_eq-Decides e.frame f).1 x) (not_from_false (eqb e.number 0) (ne_eqb e.number 0 (a.0 x))))
numbered_on f (e ∷ l) a (inr o) = or_right (bytes_eq e.frame f && not (eqb e.number 0)) (numbered f l) (numbered_on f l a.1 o)

-- A text is cut at its first space in one way only.
use Rattle.std.proofs.Common.{◌≡◌, ℕ, zero, suc, ◌/◌, ◌%◌, List, [], ◌∷◌, Some, None, Option, sym, refl, ap, ◌∙◌, subst, arith, Bor, MatchOption}
use Rattle.std.specs.Str.Iter.{LacksByte}
use Rattle.std.specs.Char.{digit_char}
use Rattle.std.specs.Option.{option_zip}
use Rattle.vectors.specs.Hex.{hex_text}
use Rattle.vectors.specs.Lines.{spaced}

-- a text with a field and a space has a space
no_space : (field rest : List ℕ) → LacksByte 32 (spaced field rest) → ⊥
no_space [] rest none = none 0 (omega arith) refl
no_space (x ∷ field) rest none = no_space field rest (λ k h e. none (suc k) (omega arith) e)

no_cut : (text : List ℕ) → LacksByte 32 text → (field rest : List ℕ) → text ≡ spaced field rest → ⊥
no_cut text none field rest e = no_space field rest (subst (λ (t : List ℕ). LacksByte 32 t) e none)

-- what the library says of a text that is split at a space, in words of fields
pub cut_told : (text : List ℕ) (r : Option (Bor (List ℕ) × Bor (List ℕ)))
    → MatchOption r (LacksByte 32 text) (λ p. (text ≡ spaced p.0.now p.1.now) × LacksByte 32 p.0.now)
    → MatchOption r ((field rest : List ℕ) → text ≡ spaced field rest → ⊥) (λ p. (text ≡ spaced p.0.now p.1.now) × LacksByte 32 p.0.now)
cut_told text None h = no_cut text h
cut_told text (Some p) h = h

one_way : (a b x y : List ℕ) → LacksByte 32 a → LacksByte 32 x → spaced a b ≡ spaced x y → (a ≡ x) × (b ≡ y)
one_way [] b [] y l m e = (refl, cc)
one_way [] b (c ∷ x) y l m e = let h : c ≡ 32 = cc in absurd (m 0 (omega arith) h)
one_way (c ∷ a) b [] y l m e = let h : c ≡ 32 = cc in absurd (l 0 (omega arith) h)
one_way (c ∷ a) b (d ∷ x) y l m e =
    let heads : c ≡ d = cc in
    let tails : spaced a b ≡ spaced x y = cc in
    let both = one_way a b x y (λ k h q. l (suc k) (omega arith) q) (λ k h q. m (suc k) (omega arith) q) tails in
    (ap (λ (n : ℕ). n ∷ a) heads ∙ ap (λ (l : List ℕ). d ∷ l) both.0, both.1)

-- a text that begins with the field a begins with no other
pub same_cut : (text a b : List ℕ) → text ≡ spaced a b → LacksByte 32 a → (x y : List ℕ) → text ≡ spaced x y → LacksByte 32 x
    → (a ≡ x) × (b ≡ y)
same_cut text a b e l x y f m = one_way a b x y l m (sym e ∙ f)

digit_apart : (d : ℕ) → digit_char d ≡ 32 → ⊥
digit_apart d e = grind arith

pub hex_lacks : (os : List ℕ) → LacksByte 32 (hex_text os)
hex_lacks [] k h e = omega arith
hex_lacks (o ∷ os) zero h e = digit_apart (o / 16 % 16) e
hex_lacks (o ∷ os) (suc zero) h e = digit_apart (o % 16) e
hex_lacks (o ∷ os) (suc (suc k)) h e = hex_lacks os k (omega arith) e

-- after a field of octets and a space, the rest is the same
pub past_field : (os ps x y : List ℕ) → spaced (hex_text os) x ≡ spaced (hex_text ps) y → x ≡ y
past_field os ps x y e = (same_cut (spaced (hex_text os) x) (hex_text os) x refl (hex_lacks os) (hex_text ps) y e (hex_lacks ps)).1

-- two fields of octets, if both are
pub both_fields : {A : Type 0} (items : A → List ℕ) (text field rest : List ℕ) (a b : Option A) → text ≡ spaced field rest → LacksByte 32 field
    → MatchOption a ((os : List ℕ) → field ≡ hex_text os → ⊥) (λ v. field ≡ hex_text (items v))
    → MatchOption b ((os : List ℕ) → rest ≡ hex_text os → ⊥) (λ v. rest ≡ hex_text (items v))
    → MatchOption (option_zip a b) ((os answer : List ℕ) → text ≡ spaced (hex_text os) (hex_text answer) → ⊥)
    (λ p. text ≡ spaced (hex_text (items p.0)) (hex_text (items p.1)))
both_fields items text field rest None b e l h k = λ os answer f. h os (same_cut text field rest e l (hex_text os) (hex_text answer) f (hex_lacks os)).0
both_fields items text field rest (Some v) None e l h k = λ os answer f. k answer (same_cut text field rest e l (hex_text os) (hex_text answer) f (hex_lacks os)).1
both_fields items text field rest (Some v) (Some w) e l h k = cc

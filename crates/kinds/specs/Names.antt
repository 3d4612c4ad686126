-- The kinds by name: which kind a figure or a word names, and the model of each.
use Rattle.std.specs.Prelude.{◌≡◌, ℕ, cond, List, codes, Ok, Err, Result, MatchResult, ◌==◌, ◌≢◌}
use Rattle.signature.specs.Kind.{Model}
use Rattle.kinds.specs.Kinds.{s3, s4, c3}
use Rattle.kinds.specs.declared.name.KindName.{KindName}
use Rattle.kinds.specs.declared.name.KindName.TheVariants.{S3, S4, C3}
use Rattle.kinds.specs.declared.name.NoSuchKind.{NoSuchKind}

abbrev pub model_of : KindName → Model
model_of S3 = s3
model_of S4 = s4
model_of C3 = c3

-- 3 is S3, 4 is S4, C3h is C3; A is what is asked of each
abbrev pub by_kind : {A : Type 0} → ℕ → A → A → A → A → A
by_kind kind three four bench none = cond (kind == 3) three (cond (kind == 4) four (cond (kind == 0xC3) bench none))

-- the kind that a figure names
abbrev pub named : ℕ → Result KindName NoSuchKind
named kind = by_kind kind (Ok S3) (Ok S4) (Ok C3) (Err (record {}))

abbrev pub kind_word : KindName → List ℕ
kind_word S3 = codes "S3"
kind_word S4 = codes "S4"
kind_word C3 = codes "C3"

-- what a word is read as: the kind that it names, or an error if it names none
abbrev pub NamesKind : List ℕ → Result KindName NoSuchKind → Type 0
NamesKind word r = MatchResult r (λ k. word ≡ kind_word k) (λ e. (k : KindName) → word ≢ kind_word k)

-- What a verdict says of a line.
use Rattle.std.specs.Prelude.{◌≡◌, ℕ, List, vec_items, ◌≢◌}
use Rattle.vectors.specs.Due.{due}
use Rattle.vectors.specs.Lines.{line_of, written}
use Rattle.vectors.specs.declared.table.Asked.{Asked}
use Rattle.kinds.specs.declared.name.KindName.{KindName}
use Rattle.vectors.specs.declared.verdict.Verdict.{Verdict}
use Rattle.vectors.specs.declared.verdict.Verdict.TheVariants.{Agrees, Differs, Malformed}

-- A line agrees if the answer in it is the one that is due; it differs if another is due; it is malformed if it
-- is the line of no vector.
abbrev pub Judges : List ℕ → Verdict → Type 0
Judges line (Agrees v) = (line ≡ line_of v) × (vec_items v.answer ≡ due v)
Judges line (Differs v given) = (line ≡ line_of v) × (vec_items given ≡ due v) × (vec_items v.answer ≢ due v)
Judges line Malformed = (k : KindName) (a : Asked) (os answer : List ℕ) → line ≢ written k a os answer

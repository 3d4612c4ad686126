-- The text of a line, and how long it is.
use Rattle.std.specs.Prelude.{ℕ, ◌≤◌, List, [], ◌∷◌, ◌++◌, length, codes, decimal}
use Rattle.refusal.specs.Reasons.{number_of}
use Rattle.book.specs.Kinds.{word_of}
use Rattle.machine.specs.Words.{outcome_name}
use Rattle.pair.specs.Seeing.{saw}
use Rattle.lines.specs.declared.line.Line.{Line}
use Rattle.lines.specs.declared.line.Line.TheVariants.{Done, TurnedDown, Ended, Refused}

-- numbers are decimal
abbrev pub said : Line → List ℕ
said (Done place kind outcome seen) =
    decimal place ++ (codes " " ++ (word_of kind ++ (codes " " ++ (outcome_name outcome ++ (codes " " ++ saw seen)))))
said (TurnedDown place kind reason octet) =
    decimal place ++ (codes " " ++ (word_of kind ++ (codes " refused " ++ (decimal (number_of reason) ++ (codes " " ++ decimal octet)))))
said (Ended size records) = codes "end " ++ (decimal size ++ (codes " " ++ decimal records))
said (Refused e) = codes "refused " ++ (decimal (number_of e.reason) ++ (codes " " ++ decimal e.place))

-- a line with its end of line
abbrev pub row : Line → List ℕ
row x = said x ++ (10 ∷ [])

-- no line has more than 256 octets
abbrev pub Short : Type 0
Short = (x : Line) → length (row x) ≤ 256

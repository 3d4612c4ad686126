-- What to tell a person about octets that are no book, or about a book that breaks off.
use Rattle.std.specs.Prelude.{ℕ, Bool, cond, ◌&&◌, List, [], ◌∷◌, ◌++◌, length, Some, None, codes, decimal, Option, ◌==◌, nat_le, nat_lt}
use Rattle.refusal.specs.declared.reason.Reason.TheVariants.{BookHead}
use Rattle.refusal.specs.declared.refused.Refusal.{Refusal}
use Rattle.refusal.specs.Reasons.{number_of}
use Rattle.refusal.specs.Refusals.{refusal_text}
use Rattle.lines.specs.declared.advice.Advice.{Advice}
use Rattle.lines.specs.declared.advice.Advice.TheVariants.{NoOctets, TooLarge, LooksLikeText, OtherVersion, BreaksOff}

-- an octet with which a text begins, and no book of any version so far
abbrev pub begins_text : ℕ → Bool
begins_text first = nat_le 32 first && nat_le first 126

abbrev pub first_advice : List ℕ → Advice
first_advice [] = NoOctets
first_advice (first ∷ rest) = cond (begins_text first) LooksLikeText (OtherVersion first)

abbrev pub head_advice : List ℕ → Advice
head_advice bs = cond (nat_lt 65535 (length bs)) TooLarge (first_advice bs)

-- by how the reading ended: nothing is said of a book that was read to its end
abbrev pub advice_on : List ℕ → Option Refusal → Option Advice
advice_on bs None = None
advice_on bs (Some e) = Some (cond (number_of e.reason == number_of BookHead) (head_advice bs) (BreaksOff e))

-- what is said, up to what was found
abbrev pub words_of : Advice → List ℕ
words_of NoOctets = codes "no octets came in; give it a shift book: shiftbook < FILE"
words_of TooLarge = codes "this is no shift book: it has more than 65535 octets"
words_of LooksLikeText = codes "this is no shift book: it looks like a text"
words_of (OtherVersion first) = codes "a shift book begins with the octet 1, and this with "
words_of (BreaksOff e) = codes "the book breaks off; what stands before was read: "

abbrev pub found_of : Advice → List ℕ
found_of NoOctets = []
found_of TooLarge = []
found_of LooksLikeText = []
found_of (OtherVersion first) = decimal first
found_of (BreaksOff e) = refusal_text e

abbrev pub advice_text : Advice → List ℕ
advice_text x = words_of x ++ found_of x

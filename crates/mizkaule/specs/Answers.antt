-- What a call through the C interface answers.
use Rattle.std.specs.Prelude.{ℕ, Ok, Err, Result}
use Rattle.refusal.specs.declared.reason.Layer.{Layer}
use Rattle.refusal.specs.declared.reason.Layer.TheVariants.{Block, End, Book}
use Rattle.refusal.specs.Reasons.{number_of, layer_of}
use Rattle.mizkaule.specs.declared.answer.Answer.{Answer}
use Rattle.mizkaule.specs.declared.answer.Failure.{Failure}
use Rattle.mizkaule.specs.declared.answer.Failure.TheVariants.{TurnedDown, NoSuch, NoMemory}

-- so many octets written or the figure that was asked for, or why not
abbrev pub Verdict : Type 0
Verdict = Result ℕ Failure

-- a layer's figure: its place in the list, from 1
abbrev pub layer_figure : Layer → ℕ
layer_figure Block = 1
layer_figure End = 2
layer_figure Book = 3

-- an answer that tells of no refusal
abbrev pub plain : ℕ → ℕ → Answer
plain status size = record { status = status; number = 0; layer = 0; place = 0; size = size }

-- Status 0 is done, 1 refused, 2 an argument that names no kind or no number, 3 want of memory. Number, layer and place
-- are those of a refusal, and 0 otherwise.
abbrev pub answer_of : Verdict → Answer
answer_of (Ok size) = plain 0 size
answer_of (Err (TurnedDown e size)) =
    record { status = 1; number = number_of e.reason; layer = layer_figure (layer_of e.reason); place = e.place; size = size }
answer_of (Err NoSuch) = plain 2 0
answer_of (Err NoMemory) = plain 3 0

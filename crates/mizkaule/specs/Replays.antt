-- A book replayed into the caller's buffer.
use Rattle.std.specs.Prelude.{◌≡◌, ℕ, ◌<◌, ◌≤◌, List, length, Ok, Err}
use Rattle.refusal.specs.declared.reason.Reason.TheVariants.{BufferLength}
use Rattle.refusal.specs.Refusals.{refusal_at}
use Rattle.machine.specs.Answers.{written}
use Rattle.transcript.specs.Transcripts.{Transcribes}
use Rattle.mizkaule.specs.declared.answer.Answer.{Answer}
use Rattle.mizkaule.specs.declared.answer.Failure.TheVariants.{TurnedDown, NoMemory}
use Rattle.mizkaule.specs.Answers.{Verdict, answer_of}

-- The text of the book stands at the front of the buffer; or it has no room there, and nothing is written; or there was
-- no memory, and nothing is written.
pub data Replayed (book old new : List ℕ) (v : Verdict) : Type 0 where
  printed : (text : List ℕ) → Transcribes book text → length text ≤ length old
      → v ≡ Ok (length text) → new ≡ written text old → Replayed book old new v
  no_room : (text : List ℕ) → Transcribes book text → length old < length text
      → v ≡ Err (TurnedDown (refusal_at BufferLength 0) (length text)) → new ≡ old → Replayed book old new v
  no_memory : v ≡ Err NoMemory → new ≡ old → Replayed book old new v

-- the answer that tells of it
abbrev pub Answered : List ℕ → List ℕ → List ℕ → Answer → Type 0
Answered book old new answer = (v : Verdict) × (answer ≡ answer_of v) × Replayed book old new v

-- A list of calls on a blank pair, and what running it answers.
use Rattle.std.specs.Prelude.{◌≡◌, ℕ, Bool, false, List, [], ◌∷◌, ◌++◌, length}
use Rattle.signature.specs.Kind.{Model}
use Rattle.block.specs.declared.setup.Setup.{Setup}
use Rattle.machine.specs.Answers.{Answer, written}
use Rattle.machine.specs.Calls.{happens, after, Admissible}
use Rattle.machine.specs.Calls as machine
use Rattle.machine.specs.Statement.{Safe}
use Rattle.pair.specs.declared.call.Call.{Call}
use Rattle.pair.specs.Callings.{call_of, hand_after}

-- the machine's calls so far, the newest first, and whether a press waits to be handed over
pub record Progress : Type 0 where
  pub calls : List machine.Call
  pub hand : Bool

abbrev pub none : Progress
none = record { calls = []; hand = false }

-- one call more, with a buffer of `room` octets
abbrev pub onward : Model → Setup → ℕ → Progress → Call → Progress
onward m s room p c = record { calls = call_of p.hand room c ∷ p.calls; hand = hand_after (after m s p.calls).held p.hand c }

-- the calls of the code, the oldest first, as calls of the machine
abbrev pub along : Model → Setup → ℕ → Progress → List Call → Progress
along m s room p [] = p
along m s room p (c ∷ cs) = along m s room (onward m s room p c) cs

-- what the machine answers to each of its calls, the oldest first
abbrev pub answers_to : Model → Setup → List machine.Call → List Answer
answers_to m s [] = []
answers_to m s (c ∷ calls) = answers_to m s calls ++ ((happens m s (after m s calls) c).answer ∷ [])

-- a buffer after all octets that calls have written into it
abbrev pub buffer_after : Model → Setup → List machine.Call → List ℕ → List ℕ
buffer_after m s [] buffer = buffer
buffer_after m s (c ∷ calls) buffer = written (happens m s (after m s calls) c).octets (buffer_after m s calls buffer)

-- Running the calls cs, all with one buffer, answers what the machine answers, call by call, and leaves in the buffer what
-- the machine has written; and if the lines allow the list, the whole safety statement holds of it.
pub record Runs (m : Model) (s : Setup) (cs : List Call) (answers : List Answer) (old new : List ℕ) : Type 0 where
  pub told : answers ≡ answers_to m s (along m s (length old) none cs).calls
  pub buffer : new ≡ buffer_after m s (along m s (length old) none cs).calls old
  pub safe : Admissible m s (along m s (length old) none cs).calls → Safe m s (along m s (length old) none cs).calls

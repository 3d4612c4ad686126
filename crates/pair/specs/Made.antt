-- A call on a pair is a call of the machine.
use Rattle.std.specs.Prelude.{◌≡◌, ℕ, Bool, List, length}
use Rattle.signature.specs.Kind.{Model}
use Rattle.block.specs.declared.setup.Setup.{Setup}
use Rattle.machine.specs.Answers.{Answer, written}
use Rattle.machine.specs.Lines.{Entry}
use Rattle.machine.specs.Calls.{happens, step, after}
use Rattle.machine.specs.Calls as machine
use Rattle.pair.specs.declared.call.Call.{Call}
use Rattle.pair.specs.Callings.{call_of, hand_after}
use Rattle.pair.specs.Views.{Ends, joined_by}

-- The call c took the ends from `before` to `next`, with the answer and the buffer, whatever is on the two lines: all
-- are what the machine makes of it.
pub record Made (m : Model) (s : Setup) (before next : Ends) (c : Call) (outward inward : List Entry) (answer : Answer) (old new : List ℕ) : Type 0 where
  pub answers : answer ≡ (happens m s (joined_by before outward inward) (call_of before.hand (length old) c)).answer
  pub state : joined_by next (step m s (joined_by before outward inward) (call_of before.hand (length old) c)).outward (step m s (joined_by before outward inward) (call_of before.hand (length old) c)).inward ≡ step m s (joined_by before outward inward) (call_of before.hand (length old) c)
  pub hand : next.hand ≡ hand_after before.held before.hand c
  pub buffer : new ≡ written (happens m s (joined_by before outward inward) (call_of before.hand (length old) c)).octets old

-- the ends, with the frames on the two lines, are where the machine is after these calls, and a press waits or not
pub record At (m : Model) (s : Setup) (calls : List machine.Call) (waits : Bool) (e : Ends) : Type 0 where
  pub state : joined_by e (after m s calls).outward (after m s calls).inward ≡ after m s calls
  pub hand : e.hand ≡ waits

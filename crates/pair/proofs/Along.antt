-- Calls one after another are the machine's.
use Rattle.std.proofs.Common.{◌≡◌, ℕ, ◌+◌, ◌<◌, Bool, List, [], ◌∷◌, ◌++◌, length, get_or, take, sym, refl, ap, ◌∙◌, subst}
use Rattle.std.proofs.lemmas.List.{take_more}
use Rattle.signature.specs.Kind.{Model}
use Rattle.block.specs.declared.setup.Setup.{Setup}
use Rattle.machine.specs.Answers.{Answer, written}
use Rattle.signature.specs.Laws.{Laws}
use Rattle.machine.specs.Lines.{Entry}
use Rattle.machine.specs.Statement.{Checked}
use Rattle.machine.proofs.Stands.{safe}
use Rattle.machine.specs.Calls.{happens, step, after}
use Rattle.machine.specs.Calls as machine
use Rattle.pair.specs.declared.call.Call.{Call}
use Rattle.pair.specs.Callings.{call_of, hand_after}
use Rattle.pair.specs.Views.{Ends, joined_by}
use Rattle.pair.specs.Made.{Made, At}
use Rattle.pair.specs.Runs.{Progress, none, onward, along, answers_to, buffer_after, Runs}

-- one call takes the ends on with the machine
pub one_call : (m : Model) (s : Setup) (calls : List machine.Call) (hand : Bool) (before next : Ends) (c : Call) (answer : Answer) (old new : List ℕ)
    → At m s calls hand before → Made m s before next c (after m s calls).outward (after m s calls).inward answer old new
    → (answer ≡ (happens m s (after m s calls) (call_of hand (length old) c)).answer) × At m s (call_of hand (length old) c ∷ calls) (hand_after (after m s calls).held hand c) next
one_call m s calls hand before next c answer old new at made =
    let p = joined_by before (after m s calls).outward (after m s calls).inward in
    let k = call_of hand (length old) c in
    let same : step m s p (call_of before.hand (length old) c) ≡ step m s (after m s calls) k = λ i. step m s (at.state i) (call_of (at.hand i) (length old) c) in
    let here : joined_by next (step m s (after m s calls) k).outward (step m s (after m s calls) k).inward ≡ step m s (after m s calls) k =
    subst (λ (q : machine.Pair). joined_by next q.outward q.inward ≡ q) same made.state in (
      made.answers ∙ (λ i. (happens m s (at.state i) (call_of (at.hand i) (length old) c)).answer),
      record { state = here; hand = made.hand ∙ (λ i. hand_after (at.state i).held (at.hand i) c) },
    )

-- a list of calls with one more at its end
pub along_more : (m : Model) (s : Setup) (room : ℕ) (p : Progress) (cs : List Call) (c : Call) → along m s room p (cs ++ (c ∷ [])) ≡ onward m s room (along m s room p cs) c
along_more m s room p [] c = refl
along_more m s room p (x ∷ cs) c = along_more m s room (onward m s room p x) cs c

-- the ends, the answers and the buffer so far are the machine's after some calls of the code
pub record Going (m : Model) (s : Setup) (first : List ℕ) (cs : List Call) (e : Ends) (answers : List Answer) (buffer : List ℕ) : Type 0 where
  pub at : At m s (along m s (length first) none cs).calls (along m s (length first) none cs).hand e
  pub told : answers ≡ answers_to m s (along m s (length first) none cs).calls
  pub left : buffer ≡ buffer_after m s (along m s (length first) none cs).calls first

pub one_more : (m : Model) (s : Setup) (first : List ℕ) (cs : List Call) (before next : Ends) (c : Call) (answer : Answer) (old new : List ℕ) (answers : List Answer)
    → length old ≡ length first → Going m s first cs before answers old
    → ((outward inward : List Entry) → Made m s before next c outward inward answer old new)
    → Going m s first (cs ++ (c ∷ [])) next (answers ++ (answer ∷ [])) new
one_more m s first cs before next c answer old new answers long g made =
    let room = length first in
    let p = along m s room none cs in
    let k = call_of p.hand room c in
    let here = made (after m s p.calls).outward (after m s p.calls).inward in
    let both = one_call m s p.calls p.hand before next c answer old new g.at here in
    let on : At m s (k ∷ p.calls) (hand_after (after m s p.calls).held p.hand c) next = subst (λ (n : ℕ). At m s (call_of p.hand n c ∷ p.calls) (hand_after (after m s p.calls).held p.hand c) next) long both.1 in
    let said : answer ≡ (happens m s (after m s p.calls) k).answer = subst (λ (n : ℕ). answer ≡ (happens m s (after m s p.calls) (call_of p.hand n c)).answer) long both.0 in
    let wrote : new ≡ written (happens m s (after m s p.calls) k).octets (buffer_after m s p.calls first) =
    here.buffer ∙ (λ i. written (happens m s (g.at.state i) (call_of (g.at.hand i) (long i) c)).octets (g.left i)) in
    let more = sym (along_more m s room none cs c) in
    record {
      at = subst (λ (q : Progress). At m s q.calls q.hand next) more on;
      told = (λ i. g.told i ++ (said i ∷ [])) ∙ ap (λ (q : Progress). answers_to m s q.calls) more;
      left = wrote ∙ ap (λ (q : Progress). buffer_after m s q.calls first) more;
    }

-- one turn of the run: the call at k is made under a setup that is the run's
pub one_turn : (m : Model) (s t : Setup) (first : List ℕ) (calls : List Call) (k : ℕ) (d : Call) (before next : Ends) (answer : Answer) (old new : List ℕ) (answers told : List Answer)
    → k < length calls → length old ≡ length first → t ≡ s → Going m s first (take k calls) before answers old
    → ((outward inward : List Entry) → Made m t before next (get_or calls k d) outward inward answer old new)
    → told ≡ answers ++ (answer ∷ []) → Going m s first (take (k + 1) calls) next told new
one_turn m s t first calls k d before next answer old new answers told less long same g made more =
    let made' : (outward inward : List Entry) → Made m s before next (get_or calls k d) outward inward answer old new = λ o w. subst (λ (x : Setup). Made m x before next (get_or calls k d) o w answer old new) same (made o w) in
    let going = one_more m s first (take k calls) before next (get_or calls k d) answer old new answers long g made' in
    subst (λ (cs : List Call). Going m s first cs next told new) (sym (take_more calls k d less))
    (subst (λ (xs : List Answer). Going m s first (take k calls ++ (get_or calls k d ∷ [])) next xs new) (sym more) going)

-- what has been run is safe
pub ran : (m : Model) → Laws m → (s : Setup) → Checked s → (first : List ℕ) (cs : List Call) (e : Ends) (answers : List Answer) (buffer : List ℕ) → Going m s first cs e answers buffer → Runs m s cs answers first buffer
ran m laws s checked first cs e answers buffer g = record { told = g.told; buffer = g.left; safe = λ a. safe m laws s checked (along m s (length first) none cs).calls a }

-- What a call answers: an outcome, or a refusal that leaves the end and the caller's buffer alone.
use Rattle.std.specs.Prelude.{ℕ, Bool, true, false, cond, List, ◌++◌, length, drop, Some, None, Ok, Err, Option, Result, ◌==◌, nat_lt}
use Rattle.refusal.specs.declared.reason.Reason.{Reason}
use Rattle.refusal.specs.declared.reason.Reason.TheVariants.{BufferLength}
use Rattle.refusal.specs.declared.refused.Refusal.{Refusal}
use Rattle.refusal.specs.Refusals.{refusal_at}
use Rattle.machine.specs.declared.outcome.Outcome.{Outcome}
use Rattle.machine.specs.declared.outcome.Outcome.TheVariants.{Process, FailSafe}
use Rattle.machine.specs.Words.{outcome_place}
use Rattle.machine.specs.Frames.{zeros}

abbrev pub Answer : Type 0
Answer = Result Outcome Refusal

abbrev pub refused : Answer → Bool
refused (Ok o) = false
refused (Err e) = true

-- the call is accepted with this outcome
abbrev pub answers : Answer → Outcome → Bool
answers (Ok p) o = outcome_place p == outcome_place o
answers (Err e) o = false

-- what the call comes to, unless there is a reason to refuse
abbrev pub answered : {A : Type 0} → Option Reason → A → Result A Refusal
answered None a = Ok a
answered (Some e) a = Err (refusal_at e 0)

-- the first, if there is a reason to refuse, else the second
abbrev pub unless : {A : Type 0} → Option Reason → A → A → A
unless None was then = then
unless (Some e) was then = was

-- the caller's buffer after a call that writes some octets
abbrev pub written : List ℕ → List ℕ → List ℕ
written octets buffer = octets ++ drop (length octets) buffer

-- A reading of len octets, at an end that may hand out these process values, if any.
abbrev pub read_refused : ℕ → ℕ → Option Reason
read_refused len room = cond (nat_lt room len) (Some BufferLength) None

abbrev pub read_says : Option (List ℕ) → Outcome
read_says None = FailSafe
read_says (Some values) = Process

abbrev pub read_values : Option (List ℕ) → ℕ → List ℕ
read_values None len = zeros len
read_values (Some values) len = values

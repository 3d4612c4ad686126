-- The words for outcomes, and the numbers of causes.
use Rattle.std.specs.Prelude.{ℕ, List, codes}
use Rattle.machine.specs.declared.outcome.Outcome.{Outcome}
use Rattle.machine.specs.declared.outcome.Outcome.TheVariants.{Fresh, Repeat, Waiting, Ignored, Fault, Restart, Quiet, Taken, Process, FailSafe}
use Rattle.machine.specs.declared.phase.Cause.{Cause}
use Rattle.machine.specs.declared.phase.Cause.TheVariants.{Start, Signature, Time, Told}

abbrev pub outcome_name : Outcome → List ℕ
outcome_name Fresh = codes "fresh"
outcome_name Repeat = codes "repeat"
outcome_name Waiting = codes "waiting"
outcome_name Ignored = codes "ignored"
outcome_name Fault = codes "fault"
outcome_name Restart = codes "restart"
outcome_name Quiet = codes "quiet"
outcome_name Taken = codes "taken"
outcome_name Process = codes "process"
outcome_name FailSafe = codes "fail-safe"

-- an outcome's place in that list, by which outcomes are told apart
abbrev pub outcome_place : Outcome → ℕ
outcome_place Fresh = 0
outcome_place Repeat = 1
outcome_place Waiting = 2
outcome_place Ignored = 3
outcome_place Fault = 4
outcome_place Restart = 5
outcome_place Quiet = 6
outcome_place Taken = 7
outcome_place Process = 8
outcome_place FailSafe = 9

-- why an end last restarted: its start, a signature that did not fit, the watch time, or the device's word
abbrev pub cause_number : Cause → ℕ
cause_number Start = 0
cause_number Signature = 1
cause_number Time = 2
cause_number Told = 3

-- The operator's button: a press comes with a reading of 1 after a 0, and a new button counts as held.
use Rattle.std.specs.Prelude.{ℕ, Bool, true, cond, not, ◌&&◌, Some, None, Option, Result, ◌==◌, nat_lt}
use Rattle.refusal.specs.declared.reason.Reason.{Reason}
use Rattle.refusal.specs.declared.reason.Reason.TheVariants.{InputRange}
use Rattle.refusal.specs.declared.refused.Refusal.{Refusal}
use Rattle.machine.specs.declared.outcome.Outcome.TheVariants.{Quiet}
use Rattle.machine.specs.Answers.{Answer, answered, unless}

abbrev pub button_started : Bool
button_started = true

abbrev pub button_refused : ℕ → Option Reason
button_refused reading = cond (nat_lt 1 reading) (Some InputRange) None

-- a reading that is accepted yields a press
abbrev pub yields_press : Bool → ℕ → Bool
yields_press held reading = reading == 1 && not held

-- what a reading gives, where p is a press
abbrev pub button_reads : {P : Type 0} → P → Bool → ℕ → Result (Option P) Refusal
button_reads p held reading = answered (button_refused reading) (cond (yields_press held reading) (Some p) None)

-- the same as an outcome
abbrev pub button_answer : ℕ → Answer
button_answer reading = answered (button_refused reading) Quiet

-- whether the button is held after a reading
abbrev pub button_next : Bool → ℕ → Bool
button_next held reading = unless (button_refused reading) held (reading == 1)

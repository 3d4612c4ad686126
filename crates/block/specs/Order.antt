-- The law of the checks: the lowest-numbered condition that fails is the reason for the refusal.
use Rattle.std.specs.Prelude.{◌≡◌, ℕ, ◌-◌, ◌<◌, Bool, true, false, List, map, Ok, Err, Result, slice_index_or}
use Rattle.refusal.specs.declared.reason.Reason.{Reason}
use Rattle.refusal.specs.declared.refused.Refusal.{Refusal}
use Rattle.refusal.specs.Reasons.{number_of}
use Rattle.block.specs.declared.setup.Own.{Own}
use Rattle.block.specs.declared.setup.Setup.{Setup}
use Rattle.block.specs.Checks.{conditions, checked}

-- whether condition n holds; they count from 1, and there are none past the last
abbrev pub holds : List (Reason × Bool) → ℕ → Bool
holds cs n = slice_index_or (map (λ c. c.1) cs) (n - 1) true

-- An accepted block meets every condition. A refused one fails the condition that has the refusal's number, and
-- meets each condition with a lower number.
abbrev pub Lowest : List (Reason × Bool) → Result Setup Refusal → Type 0
Lowest cs (Ok s) = (n : ℕ) → 0 < n → holds cs n ≡ true
Lowest cs (Err x) =
    (holds cs (number_of x.reason) ≡ false) × ((n : ℕ) → 0 < n → n < number_of x.reason → holds cs n ≡ true)

abbrev pub ChecksInOrder : Type 0
ChecksInOrder = (width limit : ℕ) (o : List ℕ) (own : Own)
    → Lowest (conditions width limit o own) (checked width limit o own)

-- Going by the cases of a phase, a verdict, a kept frame or a reason to refuse, with the case as an equation.
use Rattle.std.proofs.Common.{◌≡◌, ℕ, Bool, true, false, cond, not, Some, None, Option, sym, refl, arith}
use Rattle.refusal.specs.declared.reason.Reason.{Reason}
use Rattle.machine.specs.declared.phase.HostPhase.{HostPhase}
use Rattle.machine.specs.declared.phase.DevicePhase.{DevicePhase}
use Rattle.machine.specs.HostEnd.{host_runs}
use Rattle.machine.specs.DeviceEnd.{device_runs}

pub by_bool : (P : Bool → Type 0) (b : Bool) → (b ≡ true → P true) → (b ≡ false → P false) → P b
by_bool P true holds fails = holds refl
by_bool P false holds fails = fails refl

pub by_host_phase : (P : HostPhase → Type 0) (p : HostPhase) → (host_runs p ≡ false → P HostPhase.Restart) → (host_runs p ≡ true → P HostPhase.Run) → P p
by_host_phase P HostPhase.Restart rests runs = rests refl
by_host_phase P HostPhase.Run rests runs = runs refl

pub by_device_phase : (P : DevicePhase → Type 0) (p : DevicePhase) → (device_runs p ≡ false → P DevicePhase.Waiting) → (device_runs p ≡ true → P DevicePhase.Run) → P p
by_device_phase P DevicePhase.Waiting waits runs = waits refl
by_device_phase P DevicePhase.Run waits runs = runs refl

pub by_option : {A : Type 0} (P : Option A → Type 0) (o : Option A) → (o ≡ None → P None) → ((a : A) → o ≡ Some a → P (Some a)) → P o
by_option P None none some = none refl
by_option P (Some a) none some = some a refl

pub none_some : {A : Type 0} {a : A} → ◌≡◌ {A = Option A} None (Some a) → ⊥
none_some e = let z : ◌≡◌ {A = ℕ} 0 1 = cc in omega arith

-- a chain of checks that finds no reason to refuse has passed its first
pub passed : (b : Bool) (e : Reason) (o : Option Reason) → cond (not b) (Some e) o ≡ None → b ≡ true
passed true e o h = refl
passed false e o h = absurd (none_some (sym h))

pub some_same : {A : Type 0} {a b : A} → ◌≡◌ {A = Option A} (Some a) (Some b) → a ≡ b
some_same e = cc

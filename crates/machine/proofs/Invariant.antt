-- The invariant of a pair. The ends stand at indices: how many numbers each has seen begin since the host's last start
-- or fault. It says where the ends stand, which index and age each frame has, and that process values follow a press.
use Rattle.std.proofs.Common.{◌≡◌, ℕ, ◌+◌, ◌-◌, ◌^◌, ◌<◌, ◌≤◌, Bool, true, false, List, Some, None, Option}
use Rattle.std.specs.List.{AllByRecursion}
use Rattle.signature.specs.Kind.{Model, fits_number}
use Rattle.block.specs.declared.setup.Setup.{Setup}
use Rattle.machine.specs.Frames.{activate_FV, FV_activated, cons_nr_R, has, data_of}
use Rattle.machine.specs.HostEnd.{HostState, host_runs, host_status}
use Rattle.machine.specs.DeviceEnd.{DeviceState, device_runs, device_control}
use Rattle.machine.specs.Lines.{Entry, lifetime}
use Rattle.machine.specs.Calls.{Event}
use Rattle.machine.specs.Events.{host, device}
use Rattle.machine.proofs.Numbers.{num}
use Rattle.machine.proofs.Traces.{Carried, Pressed}

-- a host frame has fail-safe values
abbrev pub host_fv : Setup → List ℕ → Bool
host_fv s f = has (device_control s f) activate_FV

-- a device frame has fail-safe values
abbrev pub device_fv : Setup → List ℕ → Bool
device_fv s f = has (host_status s f) FV_activated

-- a device frame confirms a restart
abbrev pub confirms : Setup → List ℕ → Bool
confirms s f = has (host_status s f) cons_nr_R

abbrev pub host_data_of : Setup → List ℕ → List ℕ
host_data_of s f = data_of s.out_len f

abbrev pub device_data_of : Setup → List ℕ → List ℕ
device_data_of s f = data_of s.in_len f

-- a frame composed under the number n
pub record Composed (m : Model) (s : Setup) (f : List ℕ) (n : ℕ) : Type 0 where
  pub fitting : fits_number m s.crc n f ≡ true
  pub only : (a : ℕ) → a < 2 ^ 24 → fits_number m s.crc a f ≡ true → a ≡ n

-- a host frame of index i
pub record HostFrame (m : Model) (s : Setup) (f : List ℕ) (i : ℕ) : Type 0 where
  pub composed : Composed m s f (num i)
  pub early : i ≤ 1 → host_fv s f ≡ true

-- a device frame of index i
pub record DeviceFrame (m : Model) (s : Setup) (f : List ℕ) (i : ℕ) : Type 0 where
  pub composed : Composed m s f (num i)
  pub first : i ≡ 0 → device_fv s f ≡ true
  pub cons : confirms s f ≡ true → i ≡ 0

-- Where the ends stand: the host at index h, the device at d. They are joined once the device has been in run at
-- number 0 since the host's last start or fault.
pub record Where (s : Setup) (H : HostState) (D : DeviceState) (h d : ℕ) (joined : Bool) : Type 0 where
  pub h_number : H.number ≡ num h
  pub h_previous : H.previous ≡ num (h - 1)
  pub h_up : host_runs H.phase ≡ true → 1 ≤ h
  pub h_down : host_runs H.phase ≡ false → h ≡ 0
  pub h_stop : h ≤ 1 → H.stop ≡ true
  pub h_none : h ≤ 1 → H.answer ≡ None
  pub h_ticks : H.ticks < s.watch
  pub d_number : D.number ≡ num d
  pub d_ticks : D.ticks < s.watch
  pub near : joined ≡ true → (d ≤ h) × (h ≤ d + 1)
  pub low : joined ≡ false → h ≡ 0
  pub away : joined ≡ false → device_runs D.phase ≡ true → 1 ≤ d

-- a frame on the line to the device
pub record Outward (m : Model) (s : Setup) (tr : List Event) (kept : Option (List ℕ)) (running : Bool) (h d : ℕ) (joined : Bool) (e : Entry) : Type 0 where
  pub index : ℕ
  pub frame : HostFrame m s e.frame index
  pub number : e.number ≡ num index
  pub age : h ≡ index + e.begun
  pub young : e.begun < lifetime
  pub current : index ≡ h → kept ≡ Some e.frame
  pub old : index ≡ 0 → h ≤ 1
  pub old_at : index ≡ 0 → joined ≡ true → d ≡ 0
  pub pressed : host_fv s e.frame ≡ false → running ≡ true → Pressed device tr

-- a frame on the line to the host
pub record Inward (m : Model) (s : Setup) (tr : List Event) (ticks : ℕ) (h d : ℕ) (joined : Bool) (e : Entry) : Type 0 where
  pub index : ℕ
  pub frame : DeviceFrame m s e.frame index
  pub below : joined ≡ true → index ≤ d
  pub age : joined ≡ true → h ≤ index + 1 + e.begun
  pub young : e.begun < lifetime
  pub aged : joined ≡ true → index ≡ h → device_fv s e.frame ≡ false → Carried host (device_data_of s e.frame) (ticks + 1) tr
  pub mute : joined ≡ false → confirms s e.frame ≡ false

-- the host's kept frame
pub record HostKept (m : Model) (s : Setup) (tr : List Event) (ticks : ℕ) (running : Bool) (h d : ℕ) (f : List ℕ) : Type 0 where
  pub frame : HostFrame m s f h
  pub aged : host_fv s f ≡ false → running ≡ true → h ≡ d + 1 → Carried device (host_data_of s f) (ticks + 1) tr
  pub pressed : host_fv s f ≡ false → running ≡ true → Pressed device tr

-- the device's kept answer
pub record DeviceKept (m : Model) (s : Setup) (tr : List Event) (ticks : ℕ) (h d : ℕ) (joined : Bool) (f : List ℕ) : Type 0 where
  pub frame : DeviceFrame m s f d
  pub aged : joined ≡ true → d ≡ h → device_fv s f ≡ false → Carried host (device_data_of s f) (ticks + 1) tr

-- the whole, after the events tr
pub record Inv (m : Model) (s : Setup) (tr : List Event) (H : HostState) (D : DeviceState) (out inn : List Entry) : Type 0 where
  pub h : ℕ
  pub d : ℕ
  pub joined : Bool
  pub stand : Where s H D h d joined
  pub outs : AllByRecursion (Outward m s tr H.kept (device_runs D.phase) h d joined) out
  pub ins : AllByRecursion (Inward m s tr H.ticks h d joined) inn
  pub h_kept : (f : List ℕ) → H.kept ≡ Some f → HostKept m s tr D.ticks (device_runs D.phase) h d f
  pub d_kept : (f : List ℕ) → D.kept ≡ Some f → DeviceKept m s tr H.ticks h d joined f
  pub h_answer : (f : List ℕ) → H.answer ≡ Some f → device_fv s f ≡ false → Carried host (device_data_of s f) (s.watch + H.ticks) tr
  pub d_frame : (f : List ℕ) → D.frame ≡ Some f → device_runs D.phase ≡ true → host_fv s f ≡ false → Carried device (host_data_of s f) (s.watch + D.ticks) tr
  pub d_pressed : (f : List ℕ) → D.frame ≡ Some f → device_runs D.phase ≡ true → host_fv s f ≡ false → Pressed device tr
  pub pressed_h : H.stop ≡ false → Pressed host tr
  pub pressed_d : H.stop ≡ false → device_runs D.phase ≡ true → Pressed device tr

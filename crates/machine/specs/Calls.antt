-- Lists of calls on a blank pair, what each call leads to, and which lists the lines allow. Lists have the newest first.
use Rattle.std.specs.Prelude.{◌≡◌, ℕ, Bool, true, false, ◌⊎◌, List, [], ◌∷◌}
use Rattle.std.specs.List.{AllByRecursion}
use Rattle.signature.specs.Kind.{Model}
use Rattle.signature.specs.Laws.{Octets}
use Rattle.machine.specs.declared.phase.Cause.TheVariants.{Start}
use Rattle.block.specs.declared.setup.Setup.{Setup}
use Rattle.machine.specs.Answers.{Answer, refused, unless}
use Rattle.machine.specs.HostEnd.{HostState, host_started, host_fits, host_offer_answer, host_offer_next, host_offer_octets, host_take_answer, host_take_next, host_held_against, host_ticks_answer, host_ticks_next, host_press_answer, host_press_next, host_read_answer, host_read_octets}
use Rattle.machine.specs.DeviceEnd.{DeviceState, device_started, device_fits, device_offer_answer, device_offer_next, device_offer_octets, device_take_answer, device_take_next, device_held_against, device_ticks_answer, device_ticks_next, device_read_answer, device_read_octets}
use Rattle.machine.specs.Button.{button_started, button_refused, yields_press, button_answer, button_next}
use Rattle.machine.specs.Lines.{Entry, On, offered, host_changed, handed_over, device_changed}

-- Offers have values, wish or flags, and the length of the caller's buffer; readings have that length too. A press
-- call says whether a press is passed on.
pub data Call : Type 0 where
  host_offer : List ℕ → ℕ → ℕ → Call
  to_device : List ℕ → Call
  device_offer : List ℕ → ℕ → ℕ → Call
  to_host : List ℕ → Call
  host_ticks : ℕ → Call
  device_ticks : ℕ → Call
  button : ℕ → Call
  press : Bool → Call
  host_read : ℕ → Call
  device_read : ℕ → Call

-- a call, what it answered, whether it was a reading of the button that yielded a press, and the octets it wrote
pub record Event : Type 0 where
  pub call : Call
  pub answer : Answer
  pub pressed : Bool
  pub octets : List ℕ

-- both ends, whether the button is held, the line to the device and the line to the host
pub record Pair : Type 0 where
  pub host : HostState
  pub device : DeviceState
  pub held : Bool
  pub outward : List Entry
  pub inward : List Entry

-- a host and a device just started, a new button and two empty lines
abbrev pub blank : Pair
blank = record { host = host_started Start; device = device_started; held = button_started; outward = []; inward = [] }

abbrev pub event : Call → Answer → List ℕ → Event
event c a octets = record { call = c; answer = a; pressed = false; octets = octets }

-- what a call on a pair answers and writes
abbrev pub happens : Model → Setup → Pair → Call → Event
happens m s p (host_offer values wish room) =
    event (host_offer values wish room) (host_offer_answer m s p.host values wish room)
    (host_offer_octets m s p.host values wish room)
happens m s p (to_device f) = event (to_device f) (device_take_answer m s p.device f) []
happens m s p (device_offer values flags room) =
    event (device_offer values flags room) (device_offer_answer m s p.device values flags room)
    (device_offer_octets m s p.device values flags room)
happens m s p (to_host f) = event (to_host f) (host_take_answer m s p.host f) []
happens m s p (host_ticks n) = event (host_ticks n) (host_ticks_answer s p.host n) []
happens m s p (device_ticks n) = event (device_ticks n) (device_ticks_answer s p.device n) []
happens m s p (button reading) = record {
  call = button reading;
  answer = button_answer reading;
  pressed = unless (button_refused reading) false (yields_press p.held reading);
  octets = [];
}
happens m s p (press given) = event (press given) (host_press_answer p.host given) []
happens m s p (host_read room) = event (host_read room) (host_read_answer s p.host room) (host_read_octets s p.host room)
happens m s p (device_read room) = event (device_read room) (device_read_answer s p.device room) (device_read_octets s p.device room)

-- the pair after a call
abbrev pub with_host : Pair → HostState → List Entry → List Entry → Pair
with_host p h outward inward = record { host = h; device = p.device; held = p.held; outward = outward; inward = inward }

abbrev pub with_device : Pair → DeviceState → List Entry → List Entry → Pair
with_device p d outward inward = record { host = p.host; device = d; held = p.held; outward = outward; inward = inward }

abbrev pub with_button : Pair → Bool → Pair
with_button p held = record { host = p.host; device = p.device; held = held; outward = p.outward; inward = p.inward }

abbrev pub step : Model → Setup → Pair → Call → Pair
step m s p (host_offer values wish room) =
    with_host p (host_offer_next m s p.host values wish room)
    (offered (host_offer_answer m s p.host values wish room) (host_offer_octets m s p.host values wish room) p.host.number p.outward)
    p.inward
step m s p (to_device f) =
    with_device p (device_take_next m s p.device f) (handed_over (device_take_answer m s p.device f) f p.outward)
    (device_changed (device_take_answer m s p.device f) p.inward)
step m s p (device_offer values flags room) =
    with_device p (device_offer_next m s p.device values flags room) p.outward
    (offered (device_offer_answer m s p.device values flags room) (device_offer_octets m s p.device values flags room) p.device.number p.inward)
step m s p (to_host f) =
    with_host p (host_take_next m s p.host f) (host_changed (host_take_answer m s p.host f) p.outward)
    (host_changed (host_take_answer m s p.host f) p.inward)
step m s p (host_ticks n) =
    with_host p (host_ticks_next s p.host n) (host_changed (host_ticks_answer s p.host n) p.outward)
    (host_changed (host_ticks_answer s p.host n) p.inward)
step m s p (device_ticks n) = with_device p (device_ticks_next s p.device n) p.outward p.inward
step m s p (button reading) = with_button p (button_next p.held reading)
step m s p (press given) = with_host p (host_press_next p.host given) p.outward p.inward
step m s p (host_read room) = p
step m s p (device_read room) = p

-- the pair after a list of calls, and what happened
abbrev pub after : Model → Setup → List Call → Pair
after m s [] = blank
after m s (c ∷ calls) = step m s (after m s calls) c

abbrev pub history : Model → Setup → List Call → List Event
history m s [] = []
history m s (c ∷ calls) = happens m s (after m s calls) c ∷ history m s calls

-- A frame handed in is on the line to that end, or is refused, or fits no number that the end holds it against. Values
-- offered are octets.
abbrev pub Allowed : Model → Setup → Pair → Call → Type 0
Allowed m s p (host_offer values wish room) = Octets values
Allowed m s p (to_device f) =
    On f p.outward ⊎ ((refused (device_take_answer m s p.device f) ≡ true) ⊎ (device_fits m s (device_held_against s p.device f) f ≡ false))
Allowed m s p (device_offer values flags room) = Octets values
Allowed m s p (to_host f) =
    On f p.inward ⊎ ((refused (host_take_answer m s p.host f) ≡ true) ⊎ AllByRecursion (λ n. host_fits m s n f ≡ false) (host_held_against p.host))
Allowed m s p (host_ticks n) = Unit {0}
Allowed m s p (device_ticks n) = Unit {0}
Allowed m s p (button reading) = Unit {0}
Allowed m s p (press given) = Unit {0}
Allowed m s p (host_read room) = Unit {0}
Allowed m s p (device_read room) = Unit {0}

abbrev pub Admissible : Model → Setup → List Call → Type 0
Admissible m s [] = Unit {0}
Admissible m s (c ∷ calls) = Admissible m s calls × Allowed m s (after m s calls) c

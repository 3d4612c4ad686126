-- The words of the statement, about one event and about a stretch of events, the newest first.
use Rattle.std.specs.Prelude.{◌≡◌, ℕ, ◌+◌, true, List, [], ◌∷◌, ◌++◌, Some, None, Ok, Option}
use Rattle.machine.specs.declared.outcome.Outcome.TheVariants.{Fresh, Fault, Taken}
use Rattle.block.specs.declared.setup.Setup.{Setup}
use Rattle.machine.specs.Watch.{Young}
use Rattle.machine.specs.Calls.{Call, host_offer, to_device, device_offer, to_host, host_ticks, device_ticks, button, press, host_read, device_read, Event}

pub data End : Type 0 where
  host : End
  device : End

abbrev pub other : End → End
other host = device
other device = host

-- the end that a call is made on; a reading of the button is made on neither
abbrev pub callee : Call → Option End
callee (host_offer values wish room) = Some host
callee (to_device f) = Some device
callee (device_offer values flags room) = Some device
callee (to_host f) = Some host
callee (host_ticks n) = Some host
callee (device_ticks n) = Some device
callee (button reading) = None
callee (press given) = Some host
callee (host_read room) = Some host
callee (device_read room) = Some device

-- the end is read
pub data Reads : End → Call → Type 0 where
  reads_host : {room : ℕ} → Reads host (host_read room)
  reads_device : {room : ℕ} → Reads device (device_read room)

-- the values are offered at the end
pub data Offers : End → List ℕ → Call → Type 0 where
  offers_host : {values : List ℕ} {wish room : ℕ} → Offers host values (host_offer values wish room)
  offers_device : {values : List ℕ} {flags room : ℕ} → Offers device values (device_offer values flags room)

-- the end notes a fault
pub record Faults (e : End) (ev : Event) : Type 0 where
  pub end : callee ev.call ≡ Some e
  pub noted : ev.answer ≡ Ok Fault

-- the host takes a press
pub record TakesPress (ev : Event) : Type 0 where
  pub passed : ev.call ≡ press true
  pub taken : ev.answer ≡ Ok Taken

-- in these events the host takes a press
pub record PressTaken (events : List Event) : Type 0 where
  pub since : List Event
  pub one : Event
  pub earlier : List Event
  pub split : events ≡ since ++ (one ∷ earlier)
  pub takes : TakesPress one

-- the ticks that a call gives to an end
abbrev pub ticks_of : End → Call → ℕ
ticks_of host (host_ticks n) = n
ticks_of host (host_offer values wish room) = 0
ticks_of host (to_device f) = 0
ticks_of host (device_offer values flags room) = 0
ticks_of host (to_host f) = 0
ticks_of host (device_ticks n) = 0
ticks_of host (button reading) = 0
ticks_of host (press given) = 0
ticks_of host (host_read room) = 0
ticks_of host (device_read room) = 0
ticks_of device (device_ticks n) = n
ticks_of device (host_offer values wish room) = 0
ticks_of device (to_device f) = 0
ticks_of device (device_offer values flags room) = 0
ticks_of device (to_host f) = 0
ticks_of device (host_ticks n) = 0
ticks_of device (button reading) = 0
ticks_of device (press given) = 0
ticks_of device (host_read room) = 0
ticks_of device (device_read room) = 0

-- the ticks given to an end in these events
abbrev pub ticks_given : End → List Event → ℕ
ticks_given e [] = 0
ticks_given e (ev ∷ events) = ticks_of e ev.call + ticks_given e events

-- Among these events is a fresh offer of the values at the other end, and by the ticks given to the reader since
-- then they are young.
pub record FreshOffer (s : Setup) (reader : End) (values : List ℕ) (events : List Event) : Type 0 where
  pub since : List Event
  pub offer : Event
  pub earlier : List Event
  pub split : events ≡ since ++ (offer ∷ earlier)
  pub offers : Offers (other reader) values offer.call
  pub fresh : offer.answer ≡ Ok Fresh
  pub young : Young s (ticks_given reader since)

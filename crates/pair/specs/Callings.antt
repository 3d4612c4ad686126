-- Which call of the machine a call of the code is.
use Rattle.std.specs.Prelude.{ℕ, Bool, true, false, cond}
use Rattle.machine.specs.Answers.{unless}
use Rattle.machine.specs.Button.{button_refused, yields_press}
use Rattle.machine.specs.Calls as machine
use Rattle.pair.specs.declared.call.Call.{Call}
use Rattle.pair.specs.declared.call.Call.TheVariants.{HostOffer, ToDevice, DeviceOffer, ToHost, HostTicks, DeviceTicks, Button, Press, HostRead, DeviceRead}

-- a call with a buffer of `room` octets, where `hand` says whether a press waits to be handed over
abbrev pub call_of : Bool → ℕ → Call → machine.Call
call_of hand room (HostOffer values wish) = machine.host_offer values.now wish room
call_of hand room (ToDevice frame) = machine.to_device frame.now
call_of hand room (DeviceOffer values flags) = machine.device_offer values.now flags room
call_of hand room (ToHost frame) = machine.to_host frame.now
call_of hand room (HostTicks ticks) = machine.host_ticks ticks
call_of hand room (DeviceTicks ticks) = machine.device_ticks ticks
call_of hand room (Button reading) = machine.button reading
call_of hand room Press = machine.press hand
call_of hand room HostRead = machine.host_read room
call_of hand room DeviceRead = machine.device_read room

-- whether a press waits after the call, where the button was held or not before it
abbrev pub hand_after : Bool → Bool → Call → Bool
hand_after held hand (HostOffer values wish) = hand
hand_after held hand (ToDevice frame) = hand
hand_after held hand (DeviceOffer values flags) = hand
hand_after held hand (ToHost frame) = hand
hand_after held hand (HostTicks ticks) = hand
hand_after held hand (DeviceTicks ticks) = hand
hand_after held hand (Button reading) = unless (button_refused reading) hand (cond (yields_press held reading) true hand)
hand_after held hand Press = false
hand_after held hand HostRead = hand
hand_after held hand DeviceRead = hand

-- which of two things belongs to the call: that of the host, with the button, or that of the device
abbrev pub at_end : {X : Type 0} → Call → X → X → X
at_end (HostOffer values wish) host device = host
at_end (ToDevice frame) host device = device
at_end (DeviceOffer values flags) host device = device
at_end (ToHost frame) host device = host
at_end (HostTicks ticks) host device = host
at_end (DeviceTicks ticks) host device = device
at_end (Button reading) host device = host
at_end Press host device = host
at_end HostRead host device = host
at_end DeviceRead host device = device

-- A pair without its memory, and as the machine's pair over two lines.
use Rattle.std.specs.Prelude.{Bool, false, List, is_some}
use Rattle.machine.specs.HostEnd.{HostState, host_started}
use Rattle.machine.specs.DeviceEnd.{DeviceState, device_started}
use Rattle.machine.specs.declared.phase.Cause.TheVariants.{Start}
use Rattle.machine.specs.Button.{button_started}
use Rattle.machine.specs.Lines.{Entry}
use Rattle.machine.specs.Calls as machine
use Rattle.pair.specs.declared.pair.Pair.{Pair}

-- both ends, whether the button is held, and whether a press of it waits to be handed over
pub record Ends : Type 0 where
  pub host : HostState
  pub device : DeviceState
  pub held : Bool
  pub hand : Bool

abbrev pub ends : {H D : Type 0} → Pair H D → Ends
ends p = record { host = p.host.state; device = p.device.state; held = p.button; hand = is_some p.press }

-- both ends just started, and a new button
abbrev pub blank_ends : Ends
blank_ends = record { host = host_started Start; device = device_started; held = button_started; hand = false }

-- the ends with the frames that are on the line to the device and on the line to the host
abbrev pub joined_by : Ends → List Entry → List Entry → machine.Pair
joined_by e outward inward = record { host = e.host; device = e.device; held = e.held; outward = outward; inward = inward }

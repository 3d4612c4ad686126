-- A device of the code as the machine's, with what it took from its block.
use Rattle.block.specs.declared.setup.Setup.{Setup}
use Rattle.machine.specs.DeviceEnd.{DeviceState}

pub record DeviceEnd : Type 0 where
  pub setup : Setup
  pub state : DeviceState

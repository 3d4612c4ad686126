-- A host of the code as the machine's, with what it took from its block.
use Rattle.block.specs.declared.setup.Setup.{Setup}
use Rattle.machine.specs.HostEnd.{HostState}

pub record HostEnd : Type 0 where
  pub setup : Setup
  pub state : HostState

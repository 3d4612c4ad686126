-- The run, computed.
use Rattle.witness.proofs.Computed.{c3_reached}
use Rattle.witness.proofs.reached_by_c3.Goals as goal

pub returns : goal.returns
returns c = c3_reached

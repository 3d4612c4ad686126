-- The run, computed.
use Rattle.witness.proofs.Computed.{s3_reached}
use Rattle.witness.proofs.reached_by_s3.Goals as goal

pub returns : goal.returns
returns c = s3_reached

-- The law of the checks.
use Rattle.block.proofs.InOrder.{in_order}
use Rattle.block.proofs.block.check.checks_in_order.Goals as goal

pub returns : goal.returns
returns c = in_order

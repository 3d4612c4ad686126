-- The statement holds by the invariant.
use Rattle.machine.proofs.Stands.{safe}
use Rattle.machine.proofs.safety.statement_holds.Goals as goal

pub returns : goal.returns
returns c = safe

-- The law is proved in Lengths.
use Rattle.lines.proofs.Lengths.{row_few}
use Rattle.lines.proofs.line.lines_are_short.Goals as goal

pub returns : goal.returns
returns c = row_few

-- What the library says of a text that is split at a space.
use Rattle.std.proofs.Common.{arith}
use Rattle.std.proofs.lemmas.Str.Pattern.{split_parts}
use Rattle.vectors.proofs.Cuts.{cut_told}
use Rattle.vectors.proofs.table.cut.Goals as goal

pub returns : goal.returns
returns c =
    cut_told _ c.split_once.result (split_parts 32 c.args.text.now c.split_once.result c.split_once.ensures.cases (omega arith))

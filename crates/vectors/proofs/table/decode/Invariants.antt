-- What the loop keeps: the octets so far, and what is left of the text.
use Rattle.std.proofs.Common.{length, vec_items}
use Rattle.vectors.proofs.Hexes.{Reading}
use Rattle.vectors.proofs.table.decode.Given as goal

abbrev pub invariant-loop-o : goal.invariant-loop-o
invariant-loop-o l = Reading l.text (vec_items l.octets) l.left

abbrev pub decreases-loop-o : goal.decreases-loop-o
decreases-loop-o l = length l.left

-- What the loop keeps: the octets so far, and what is left of the text.
use Rattle.std.proofs.Common.{◌≡◌, length, take}
use Rattle.signature.specs.Laws.{Octets}
use Rattle.vectors.proofs.Hexes.{Reading}
use Rattle.vectors.proofs.table.figure.Given as goal

abbrev pub invariant-loop-o : goal.invariant-loop-o
invariant-loop-o g l = record {
  count : length l.o-items ≡ g.row.N;
  octets : Octets (take l.o-index l.o-items);
  reading : Reading l.text (take l.o-index l.o-items) l.left;
}

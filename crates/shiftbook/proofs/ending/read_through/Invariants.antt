-- The records before the place that the reading has come to stand in the book.
use Rattle.std.proofs.Common.{◌≡◌, ℕ, List}
use Rattle.book.specs.Records.{Entry}
use Rattle.book.proofs.Reached.{Reached}
use Rattle.shiftbook.proofs.ending.read_through.Given as goal

abbrev pub invariant-loop-item : goal.invariant-loop-item
invariant-loop-item l =
    (l.item-iterator.octets.now ≡ l.octets) × (xs : List (ℕ × Entry)) × Reached l.octets l.item-iterator.at xs

-- One octet more, no octet where there should be one, and the end of the text.
use Rattle.std.proofs.Common.{ℕ, List, vec_items, sym, subst}
use Rattle.vectors.proofs.Hexes.{Reading, one_more, read_out}
use Rattle.vectors.proofs.table.decode.Goals as goal

pub loop-o-preserved : goal.loop-o-preserved
loop-o-preserved c =
    subst (λ (os : List ℕ). Reading c.args.text.now os c.in-Some.rest.now) (sym c.in_ok-push.ensures.items)
    (one_more _ (vec_items c.loop-o.octets) c.loop-o.left.now c.in-Some.o c.in-Some.rest.now c.in-Some.ensures.0 c.loop-o.invariant)

pub returns : goal.returns
returns c = rw c.then_some.ensures (read_out vec_items _ c.loop-o.octets c.loop-o.left.now _ c.is_empty.ensures c.in_default.ensures c.loop-o.invariant)

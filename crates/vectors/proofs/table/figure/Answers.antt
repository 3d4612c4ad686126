-- One octet more, too few of them, and the end of the text.
use Rattle.std.proofs.Common.{◌≡◌, ℕ, ◌<◌, List, length, take, sym, ap, ◌∙◌, subst, arith, rules}
use Rattle.std.proofs.ByRecursion.{All-push}
use Rattle.std.proofs.Math.Seq.{take-length}
use Rattle.std.proofs.lemmas.List.{length-set, length-take-le, take_more_set}
use Rattle.signature.specs.Laws.{Octets}
use Rattle.vectors.specs.Hex.{hex_text}
use Rattle.vectors.proofs.Hexes.{Reading, as_many_read, goes_on, one_more}
use Rattle.vectors.proofs.table.figure.Goals as goal

pub returns-in_err-octet : goal.returns-in_err-octet
returns-in_err-octet g c =
    let few : length (take c.loop-o.o-index c.loop-o.o-items) < g.row.N = omega (arith, length-take-le {A = ℕ}) in
    let none = c.in_err-octet.ensures in
    let no : (os : List ℕ) → length os ≡ g.row.N → c.args.text.now ≡ hex_text os → ⊥ =
    λ os same h. goes_on _ (take c.loop-o.o-index c.loop-o.o-items) c.loop-o.left.now none c.loop-o.invariant.reading os (omega arith) h in
    search rules

pub loop-o-preserved : goal.loop-o-preserved
loop-o-preserved g c =
    let more = sym (take_more_set c.loop-o.o-items c.loop-o.o-index c.in_ok-octet.octet (omega arith)) in
    record {
      count = omega (arith, length-set {A = ℕ});
      octets = subst Octets more (All-push (λ o. o < 256) (take c.loop-o.o-index c.loop-o.o-items) c.in_ok-octet.octet c.loop-o.invariant.octets c.in_ok-octet.ensures.1);
      reading =
          subst (λ (os : List ℕ). Reading c.args.text.now os c.in_ok-octet.rest.now) more
          (one_more _ (take c.loop-o.o-index c.loop-o.o-items) c.loop-o.left.now c.in_ok-octet.octet c.in_ok-octet.rest.now c.in_ok-octet.ensures.0 c.loop-o.invariant.reading);
    }

pub returns : goal.returns
returns g c =
    let end : c.loop-o.o-index ≡ length c.loop-o.o-items = omega arith in
    let all = ap (λ (i : ℕ). take i c.loop-o.o-items) end ∙ take-length c.loop-o.o-items in
    let read = subst (λ (os : List ℕ). Reading c.args.text.now os c.loop-o.left.now) all c.loop-o.invariant.reading in
    rw c.then_some.ensures (as_many_read g.row.N _ c.loop-o.o-items c.loop-o.left.now _ c.is_empty.ensures (c.loop-o.invariant.count, subst Octets all c.loop-o.invariant.octets) read)

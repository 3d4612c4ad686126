-- Each record takes the reading on, and where it ends there is nothing more, or no record.
use Rattle.std.proofs.Common.{rules, ℕ, Some, None, Err, MatchResult, List, ◌≡◌, ◌∙◌, sym, subst}
use Rattle.book.specs.Reading.{Reads}
use Rattle.book.specs.Records.{Entry}
use Rattle.book.specs.Steps.{Step}
use Rattle.book.proofs.Reached.{one_more, at_the_end, at_refusal}
use Rattle.shiftbook.proofs.ending.read_through.Goals as goal

pub loop-item-preserved : goal.loop-item-preserved
loop-item-preserved c =
    let i = c.loop-item.invariant in
    let b = c.loop-item.item-iterator in
    let s = subst (λ r. Step b (Some r) c.next.new.self) c.in_ok-item.was c.in-Some.ensures.steps in
    (s.3 ∙ i.0, _, one_more _ b c.next.new.self i.1 i.0 i.2 c.in_ok-item.field-0 s)

pub returns-in_err-item : goal.returns-in_err-item
returns-in_err-item c =
    let i = c.loop-item.invariant in
    let b = c.loop-item.item-iterator in
    let e = c.in_err-item.field-0.0 in
    let s : Step b (Some (Err e)) c.next.new.self = subst (λ r. Step b (Some r) c.next.new.self) c.in_err-item.was c.in-Some.ensures.steps in
    let found : Reads c.args.octets.now i.1 (Some e) = at_refusal _ b c.next.new.self i.1 i.0 i.2 e s in
    let result : c.from_residual-in_err-item.result ≡ Err e = search rules in
    subst (λ r. MatchResult r (λ _. (xs : List (ℕ × Entry)) × Reads c.args.octets.now xs None) (λ x. (xs : List (ℕ × Entry)) × Reads c.args.octets.now xs (Some x))) (sym result) (i.1, found)

pub returns : goal.returns
returns c =
    let i = c.loop-item.invariant in
    (i.1, at_the_end _ c.loop-item.item-iterator c.next.new.self i.1 i.0 i.2 c.in-None.ensures.steps)

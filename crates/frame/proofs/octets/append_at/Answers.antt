-- The octets that have room, after those that stand there.
use Rattle.std.proofs.Common.{◌≡◌, ℕ, ◌+◌, ◌-◌, ◌≤◌, List, ◌++◌, length, take, sym, ap, ◌∙◌, arith, rules}
use borrow.Rule.Slice.PartMut.{put_mid}
use Rattle.std.proofs.Math.Seq.{take-append-add}
use Rattle.std.proofs.lemmas.List.{take_min, length-take-le}
use Rattle.std.proofs.lemmas.Slice.{overwrites}
use Rattle.frame.proofs.octets.append_at.Goals as goal

-- what is added to octets that stand in a room, cut to the room that is left
added_cut : (room at : ℕ) (before more added : List ℕ) → length before ≡ at → at ≤ room → added ≡ take (room - at) more
    → before ++ added ≡ take room (before ++ more)
added_cut room at before more added long within cut =
    ap (λ (xs : List ℕ). before ++ xs) cut ∙ sym (take-append-add before more (room - at)) ∙ ap (λ (n : ℕ). take n (before ++ more)) (omega arith)

pub returns-clause-octets : goal.returns-clause-octets
returns-clause-octets c =
    let octets : List ℕ = c.args.room.now in
    let at : ℕ = c.min-at.result in
    let added : List ℕ = c.copy_from_slice.new.self in
    let end : ℕ = at + length c.first-added.result.now in
    let stood : take at octets ≡ take c.args.size octets = ap (λ (n : ℕ). take n octets) c.min-at.ensures ∙ take_min c.args.size octets in
    let joined : take end (put_mid at (end - at) octets added) ≡ take at octets ++ added = search (rules, overwrites) in
    joined ∙ ap (λ (xs : List ℕ). xs ++ added) stood ∙ added_cut (length octets) at _ c.args.more.now added (ap length (sym stood) ∙ length-take-le at octets (omega arith)) (omega arith) (search rules)

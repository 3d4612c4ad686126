-- What stays true as one more event happens: an offer's age, and whether a press was taken since the last fault.
use Rattle.std.proofs.Common.{◌≡◌, ℕ, ◌+◌, ◌<◌, ◌≤◌, Bool, true, false, ◌&&◌, List, [], ◌∷◌, ◌++◌, Some, None, Ok, Option, sym, refl, ap, subst, arith}
use Rattle.std.proofs.lemmas.Bool.{both_ways}
use Rattle.machine.specs.declared.outcome.Outcome.TheVariants.{Fresh, Fault}
use Rattle.machine.specs.Answers.{answers}
use Rattle.machine.specs.Calls.{Event}
use Rattle.machine.specs.Events.{End, host, device, other, callee, ticks_of, ticks_given, Offers, Faults, TakesPress, PressTaken}

-- among these events is a fresh offer of the values at the other end, with fewer than n ticks given to the reader since
pub record Carried (reader : End) (values : List ℕ) (n : ℕ) (events : List Event) : Type 0 where
  pub since : List Event
  pub offer : Event
  pub earlier : List Event
  pub split : events ≡ since ++ (offer ∷ earlier)
  pub offers : Offers (other reader) values offer.call
  pub fresh : offer.answer ≡ Ok Fresh
  pub young : ticks_given reader since < n

pub carried_on : {e : End} {v : List ℕ} {n : ℕ} {tr : List Event} (ev : Event) (k : ℕ) → n + ticks_of e ev.call ≤ k → Carried e v n tr → Carried e v k (ev ∷ tr)
carried_on {e} ev k h c = record {
  since = ev ∷ c.since;
  offer = c.offer;
  earlier = c.earlier;
  split = ap (λ x. ev ∷ x) c.split;
  offers = c.offers;
  fresh = c.fresh;
  young = omega (arith, c.young);
}

pub carried_more : {e : End} {v : List ℕ} {n : ℕ} {tr : List Event} (k : ℕ) → n ≤ k → Carried e v n tr → Carried e v k tr
carried_more k h c = record {
  since = c.since;
  offer = c.offer;
  earlier = c.earlier;
  split = c.split;
  offers = c.offers;
  fresh = c.fresh;
  young = omega (arith, c.young);
}

pub carried_here : {e : End} {v : List ℕ} {ev : Event} {tr : List Event} (n : ℕ) → Offers (other e) v ev.call → ev.answer ≡ Ok Fresh → Carried e v (n + 1) (ev ∷ tr)
carried_here {e} {v} {ev} {tr} n o f = record {
  since = [];
  offer = ev;
  earlier = tr;
  split = refl;
  offers = o;
  fresh = f;
  young = omega arith;
}

-- ---- a test for a fault of an end

abbrev pub calls : Option End → End → Bool
calls None e = false
calls (Some host) host = true
calls (Some host) device = false
calls (Some device) host = false
calls (Some device) device = true

abbrev pub faulty : End → Event → Bool
faulty e ev = calls (callee ev.call) e && answers ev.answer Fault

calls_same : (e : End) → calls (Some e) e ≡ true
calls_same host = refl
calls_same device = refl

faulty_from : (e : End) (ev : Event) → Faults e ev → faulty e ev ≡ true
faulty_from e ev f =
    let t : (calls (Some e) e && answers (Ok Fault) Fault) ≡ true = rw calls_same in
    rw (f.end, f.noted) t

-- since the last fault of the end e, or since the start, a press was taken
pub data Pressed (e : End) : List Event → Type 0 where
  now : {ev : Event} {tr : List Event} → TakesPress ev → Pressed e (ev ∷ tr)
  before : {ev : Event} {tr : List Event} → faulty e ev ≡ false → Pressed e tr → Pressed e (ev ∷ tr)

taken_more : (ev : Event) (tr : List Event) → PressTaken tr → PressTaken (ev ∷ tr)
taken_more ev tr h = record { since = ev ∷ h.since; one = h.one; earlier = h.earlier; split = ap (λ x. ev ∷ x) h.split; takes = h.takes }

pub press_taken : {e : End} {tr : List Event} → Pressed e tr → PressTaken tr
press_taken (now {ev} {tr} p) = record { since = []; one = ev; earlier = tr; split = refl; takes = p }
press_taken (before {ev} {tr} n p) = taken_more ev tr (press_taken p)

heads : {x y : Event} {xs ys : List Event} → ◌≡◌ {A = List Event} (x ∷ xs) (y ∷ ys) → (x ≡ y) × (xs ≡ ys)
heads e = ((cc), (cc))

-- no event is both a press taken and a fault
apart_now : (e : End) (ev : Event) → TakesPress ev → Faults e ev → ⊥
apart_now e ev p f = let a = p.taken in let b = f.noted in let z : ◌≡◌ {A = ℕ} 0 1 = cc in omega arith

pub press_since : {e : End} {tr : List Event} → Pressed e tr → (since : List Event) (ev : Event) (earlier : List Event) → tr ≡ since ++ (ev ∷ earlier) → Faults e ev → PressTaken since
press_since {e} (now {ev = a} p) [] ev earlier s f = absurd (apart_now e ev (subst TakesPress (heads s).0 p) f)
press_since {e} (now {ev = a} p) (b ∷ since) ev earlier s f = record { since = []; one = b; earlier = since; split = refl; takes = subst TakesPress (heads s).0 p }
press_since {e} (before {ev = a} n p) [] ev earlier s f = absurd (both_ways (faulty e a) n (faulty_from e a (subst (Faults e) (sym (heads s).0) f)))
press_since {e} (before {ev = a} n p) (b ∷ since) ev earlier s f = taken_more b since (press_since p since ev earlier (heads s).1 f)

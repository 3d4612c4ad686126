-- A kept frame was composed by an offer in the list of calls, under the number that its end still has.
use Rattle.std.proofs.Common.{◌≡◌, ℕ, ◌+◌, Bool, cond, eqb, ◌⊎◌, List, [], ◌∷◌, is_some, Some, None, Ok, Option, sym, refl, ap, ◌∙◌, subst, inl, inr, ⊎_elim}
use Rattle.refusal.specs.declared.reason.Reason.{Reason}
use Rattle.signature.specs.Kind.{Model}
use Rattle.machine.specs.declared.outcome.Outcome.TheVariants.{Fresh, Repeat, Waiting}
use Rattle.machine.specs.declared.phase.HostPhase.{HostPhase}
use Rattle.machine.specs.declared.phase.DevicePhase.{DevicePhase}
use Rattle.machine.specs.declared.phase.Cause.TheVariants.{Time}
use Rattle.machine.specs.declared.judged.HostJudged.{HostJudged}
use Rattle.machine.specs.declared.judged.DeviceJudged.{DeviceJudged}
use Rattle.block.specs.declared.setup.Setup.{Setup}
use Rattle.machine.specs.Watch.{expired}
use Rattle.machine.specs.Answers.{answered, unless}
use Rattle.machine.specs.HostEnd.{HostState, host_started, host_frame_from, host_frame, host_offer_refused, host_offer_says, host_keeping, host_judged, host_taken_in, host_take_refused, host_take_next, host_counted, host_ticked_in, press_awaited, host_released, host_press_next}
use Rattle.machine.specs.DeviceEnd.{DeviceState, device_faulted, device_restarted, device_frame_from, device_frame, device_offer_refused, device_offer_says, device_offered_in, device_judged, device_taken_in, device_take_refused, device_take_next, device_counted, device_ticked_in}
use Rattle.machine.specs.Calls.{Call, host_offer, to_device, device_offer, to_host, host_ticks, device_ticks, button, press, host_read, device_read, after}
use Rattle.machine.specs.Events.{End, host, device, offers_host, offers_device}
use Rattle.machine.specs.Statement.{ComposedUnder}
use Rattle.machine.proofs.Cases.{by_bool, by_option, none_some, some_same}

-- a call after which the end keeps no new frame
abbrev HostKeeps : HostState → HostState → Type 0
HostKeeps h next = (f : List ℕ) → next.kept ≡ Some f → (h.kept ≡ Some f) × (next.number ≡ h.number)

abbrev DeviceKeeps : DeviceState → DeviceState → Type 0
DeviceKeeps d next = (f : List ℕ) → next.kept ≡ Some f → (d.kept ≡ Some f) × (next.number ≡ d.number)

host_taken : (p : HostPhase) (j : HostJudged) (h : HostState) (g : List ℕ) → HostKeeps h (host_taken_in p j h g)
host_taken HostPhase.Restart HostJudged.Unfit h g f e = (e, refl)
host_taken HostPhase.Restart HostJudged.Told h g f e = (e, refl)
host_taken HostPhase.Restart HostJudged.Earlier h g f e = (e, refl)
host_taken HostPhase.Restart HostJudged.Current h g f e = absurd (none_some e)
host_taken HostPhase.Run HostJudged.Unfit h g f e = absurd (none_some e)
host_taken HostPhase.Run HostJudged.Told h g f e = absurd (none_some e)
host_taken HostPhase.Run HostJudged.Earlier h g f e = (e, refl)
host_taken HostPhase.Run HostJudged.Current h g f e = absurd (none_some e)

host_take : (m : Model) (s : Setup) (h : HostState) (g : List ℕ) → HostKeeps h (host_take_next m s h g)
host_take m s h g =
    by_option (λ r. HostKeeps h (unless r h (host_taken_in h.phase (host_judged m s h g) h g))) (host_take_refused m s g)
    (λ _. host_taken h.phase (host_judged m s h g) h g) (λ x _ f e. (e, refl))

host_ticked : (p : HostPhase) (s : Setup) (h : HostState) (n : ℕ) → HostKeeps h (host_ticked_in p s h n)
host_ticked HostPhase.Restart s h n f e = (e, refl)
host_ticked HostPhase.Run s h n f e =
    by_bool (λ b. HostKeeps h (cond b (host_started Time) (host_counted h n))) (expired s (h.ticks + n)) (λ _ f e. absurd (none_some e)) (λ _ f e. (e, refl)) f e

host_press : (h : HostState) (given : Bool) → HostKeeps h (host_press_next h given)
host_press h given =
    by_bool (λ b. HostKeeps h (cond b (cond (press_awaited h) (host_released h) h) h)) given
    (λ _. by_bool (λ b. HostKeeps h (cond b (host_released h) h)) (press_awaited h) (λ _ f e. (e, refl)) (λ _ f e. (e, refl))) (λ _ f e. (e, refl))

device_taken : (p : DevicePhase) (j : DeviceJudged) (d : DeviceState) (g : List ℕ) → DeviceKeeps d (device_taken_in p j d g)
device_taken DevicePhase.Waiting DeviceJudged.Unfit d g f e = (e, refl)
device_taken DevicePhase.Waiting DeviceJudged.Zero d g f e = absurd (none_some e)
device_taken DevicePhase.Waiting DeviceJudged.Next d g f e = (e, refl)
device_taken DevicePhase.Waiting DeviceJudged.Same d g f e = (e, refl)
device_taken DevicePhase.Run DeviceJudged.Unfit d g f e = absurd (none_some e)
device_taken DevicePhase.Run DeviceJudged.Zero d g f e =
    by_bool (λ b. DeviceKeeps d (cond b d device_restarted)) (eqb d.number 0) (λ _ f e. (e, refl)) (λ _ f e. absurd (none_some e)) f e
device_taken DevicePhase.Run DeviceJudged.Next d g f e = absurd (none_some e)
device_taken DevicePhase.Run DeviceJudged.Same d g f e = (e, refl)

device_take : (m : Model) (s : Setup) (d : DeviceState) (g : List ℕ) → DeviceKeeps d (device_take_next m s d g)
device_take m s d g =
    by_option (λ r. DeviceKeeps d (unless r d (device_taken_in d.phase (device_judged m s d g) d g))) (device_take_refused m s g)
    (λ _. device_taken d.phase (device_judged m s d g) d g) (λ x _ f e. (e, refl))

device_ticked : (p : DevicePhase) (s : Setup) (d : DeviceState) (n : ℕ) → DeviceKeeps d (device_ticked_in p s d n)
device_ticked DevicePhase.Waiting s d n f e = (e, refl)
device_ticked DevicePhase.Run s d n f e =
    by_bool (λ b. DeviceKeeps d (cond b (device_faulted d Time) (device_counted d n))) (expired s (d.ticks + n)) (λ _ f e. absurd (none_some e)) (λ _ f e. (e, refl)) f e

module _ (m : Model) (s : Setup) where
  composed_before : {e : End} {f : List ℕ} {n : ℕ} {calls : List Call} (c : Call) → ComposedUnder m s e f n calls → ComposedUnder m s e f n (c ∷ calls)
  composed_before c o = record { newer = c ∷ o.newer; offer = o.offer; older = o.older; split = ap (λ x. c ∷ x) o.split; composes = o.composes; number = o.number }

  -- an end that keeps what it kept
  goes_on : {e : End} {f : List ℕ} {n k : ℕ} {calls : List Call} (c : Call) → k ≡ n → ComposedUnder m s e f n calls → ComposedUnder m s e f k (c ∷ calls)
  goes_on {e} {f} {n} {k} {calls} c same o = subst (λ x. ComposedUnder m s e f x (c ∷ calls)) (sym same) (composed_before c o)

  -- ---- the host

  abbrev host_after : List Call → HostState
  host_after calls = (after m s calls).host

  module _ (v : List ℕ) (wish room : ℕ) (older : List Call) where
    host_composes : host_offer_refused m s (host_after older) v wish room ≡ None → (host_after older).kept ≡ None
        → ComposedUnder m s host (host_frame m s (host_after older) v wish) (host_after older).number (host_offer v wish room ∷ older)
    host_composes ok none = record {
      newer = [];
      offer = host_offer v wish room;
      older = older;
      split = refl;
      composes = record {
        values = v;
        offers = offers_host;
        new = inl (ap (λ r. answered r (host_offer_says (host_after older))) ok ∙ ap (λ k. Ok (cond (is_some k) Repeat Fresh)) none);
        writes = ap (λ r. unless r [] (host_frame m s (host_after older) v wish)) ok;
      };
      number = refl;
    }

    -- what the host keeps, by the reason to refuse that its offer has
    abbrev host_offered : Option Reason → HostState
    host_offered r = unless r (host_after older) (host_keeping (host_after older) (host_frame m s (host_after older) v wish))

    host_offering : ((f : List ℕ) → (host_after older).kept ≡ Some f → ComposedUnder m s host f (host_after older).number older)
        → (r : Option Reason) → host_offer_refused m s (host_after older) v wish room ≡ r → (f : List ℕ) → (host_offered r).kept ≡ Some f
        → ComposedUnder m s host f (host_offered r).number (host_offer v wish room ∷ older)
    host_offering before (Some x) ok f e = composed_before (host_offer v wish room) (before f e)
    host_offering before None ok f e = from (host_after older).kept refl
      where
        from : (k : Option (List ℕ)) → (host_after older).kept ≡ k → ComposedUnder m s host f (host_after older).number (host_offer v wish room ∷ older)
        from None k = subst (λ x. ComposedUnder m s host x (host_after older).number (host_offer v wish room ∷ older)) (some_same e) (host_composes ok k)
        from (Some g) k = composed_before (host_offer v wish room) (before f (k ∙ sym (ap (λ o. Some (host_frame_from o m s (host_after older) v wish)) k) ∙ e))

  pub host_kept : (calls : List Call) (f : List ℕ) → (host_after calls).kept ≡ Some f → ComposedUnder m s host f (host_after calls).number calls
  host_kept [] f e = absurd (none_some e)
  host_kept (host_offer v wish room ∷ older) f e = host_offering v wish room older (host_kept older) (host_offer_refused m s (host_after older) v wish room) refl f e
  host_kept (to_device g ∷ older) f e = composed_before (to_device g) (host_kept older f e)
  host_kept (device_offer v flags room ∷ older) f e = composed_before (device_offer v flags room) (host_kept older f e)
  host_kept (to_host g ∷ older) f e = let k = host_take m s (host_after older) g f e in goes_on (to_host g) k.1 (host_kept older f k.0)
  host_kept (host_ticks n ∷ older) f e = let k = host_ticked (host_after older).phase s (host_after older) n f e in goes_on (host_ticks n) k.1 (host_kept older f k.0)
  host_kept (device_ticks n ∷ older) f e = composed_before (device_ticks n) (host_kept older f e)
  host_kept (button reading ∷ older) f e = composed_before (button reading) (host_kept older f e)
  host_kept (press given ∷ older) f e = let k = host_press (host_after older) given f e in goes_on (press given) k.1 (host_kept older f k.0)
  host_kept (host_read room ∷ older) f e = composed_before (host_read room) (host_kept older f e)
  host_kept (device_read room ∷ older) f e = composed_before (device_read room) (host_kept older f e)

  -- ---- the device

  abbrev device_after : List Call → DeviceState
  device_after calls = (after m s calls).device

  module _ (v : List ℕ) (flags room : ℕ) (older : List Call) where
    -- an offer that answers fresh or waiting composes
    pub device_composes : device_offer_refused m s (device_after older) v flags room ≡ None
        → (device_offer_says (device_after older).phase (device_after older) ≡ Fresh) ⊎ (device_offer_says (device_after older).phase (device_after older) ≡ Waiting)
        → ComposedUnder m s device (device_frame m s (device_after older) v flags) (device_after older).number (device_offer v flags room ∷ older)
    device_composes ok says = record {
      newer = [];
      offer = device_offer v flags room;
      older = older;
      split = refl;
      composes = record {
        values = v;
        offers = offers_device;
        new = ⊎_elim (λ x. inl (answer ∙ ap Ok x)) (λ x. inr (answer ∙ ap Ok x)) says;
        writes = ap (λ r. unless r [] (device_frame m s (device_after older) v flags)) ok;
      };
      number = refl;
    }
      where
        answer : answered (device_offer_refused m s (device_after older) v flags room) (device_offer_says (device_after older).phase (device_after older)) ≡ Ok (device_offer_says (device_after older).phase (device_after older))
        answer = ap (λ r. answered r (device_offer_says (device_after older).phase (device_after older))) ok

    -- what the device keeps, by the reason to refuse that its offer has and by its phase
    abbrev device_offered : Option Reason → DevicePhase → DeviceState
    device_offered r p = unless r (device_after older) (device_offered_in p (device_after older) (device_frame m s (device_after older) v flags))

    device_offering : ((f : List ℕ) → (device_after older).kept ≡ Some f → ComposedUnder m s device f (device_after older).number older)
        → (r : Option Reason) → device_offer_refused m s (device_after older) v flags room ≡ r → (p : DevicePhase) → (device_after older).phase ≡ p → (f : List ℕ) → (device_offered r p).kept ≡ Some f
        → ComposedUnder m s device f (device_offered r p).number (device_offer v flags room ∷ older)
    device_offering before (Some x) ok p run f e = composed_before (device_offer v flags room) (before f e)
    device_offering before None ok DevicePhase.Waiting run f e = composed_before (device_offer v flags room) (before f e)
    device_offering before None ok DevicePhase.Run run f e = from (device_after older).kept refl
      where
        from : (k : Option (List ℕ)) → (device_after older).kept ≡ k → ComposedUnder m s device f (device_after older).number (device_offer v flags room ∷ older)
        from None k =
            subst (λ x. ComposedUnder m s device x (device_after older).number (device_offer v flags room ∷ older)) (some_same e)
            (device_composes ok (inl (ap (λ p. device_offer_says p (device_after older)) run ∙ ap (λ k. cond (is_some k) Repeat Fresh) k)))
        from (Some g) k =
            composed_before (device_offer v flags room)
            (before f (k ∙ sym (ap (λ p. Some (device_frame_from p (device_after older).kept m s (device_after older) v flags)) run ∙ ap (λ o. Some (device_frame_from DevicePhase.Run o m s (device_after older) v flags)) k) ∙ e))

  pub device_kept : (calls : List Call) (f : List ℕ) → (device_after calls).kept ≡ Some f → ComposedUnder m s device f (device_after calls).number calls
  device_kept [] f e = absurd (none_some e)
  device_kept (host_offer v wish room ∷ older) f e = composed_before (host_offer v wish room) (device_kept older f e)
  device_kept (to_device g ∷ older) f e = let k = device_take m s (device_after older) g f e in goes_on (to_device g) k.1 (device_kept older f k.0)
  device_kept (device_offer v flags room ∷ older) f e = device_offering v flags room older (device_kept older) (device_offer_refused m s (device_after older) v flags room) refl (device_after older).phase refl f e
  device_kept (to_host g ∷ older) f e = composed_before (to_host g) (device_kept older f e)
  device_kept (host_ticks n ∷ older) f e = composed_before (host_ticks n) (device_kept older f e)
  device_kept (device_ticks n ∷ older) f e = let k = device_ticked (device_after older).phase s (device_after older) n f e in goes_on (device_ticks n) k.1 (device_kept older f k.0)
  device_kept (button reading ∷ older) f e = composed_before (button reading) (device_kept older f e)
  device_kept (press given ∷ older) f e = composed_before (press given) (device_kept older f e)
  device_kept (host_read room ∷ older) f e = composed_before (host_read room) (device_kept older f e)
  device_kept (device_read room ∷ older) f e = composed_before (device_read room) (device_kept older f e)

-- A frame handed to an end keeps the invariant.
use Rattle.std.proofs.Common.{◌≡◌, ℕ, ◌+◌, Bool, true, false, cond, not, ◌&&◌, eqb, ◌⊎◌, List, [], ◌∷◌, is_some, Some, None, Ok, Option, sym, refl, ap, ◌∙◌, subst, inl, inr, arith, lit<}
use Rattle.std.specs.List.{AllByRecursion}
use Rattle.std.proofs.ByRecursion.{All-weaker}
use Rattle.std.proofs.lemmas.Bool.{false≢true, both_ways, cases_Bool, cond-true, cond-false, and_parts, and_cases, not-false}
use Rattle.refusal.specs.declared.reason.Reason.{Reason}
use Rattle.signature.specs.Kind.{Model, fits_number}
use Rattle.machine.specs.declared.outcome.Outcome.{Outcome}
use Rattle.machine.specs.declared.outcome.Outcome.TheVariants.{Fresh, Repeat, Ignored, Restart}
use Rattle.machine.specs.declared.phase.HostPhase.{HostPhase}
use Rattle.machine.specs.declared.phase.DevicePhase.{DevicePhase}
use Rattle.machine.specs.declared.phase.Cause.TheVariants.{Signature, Told}
use Rattle.machine.specs.declared.judged.HostJudged.{HostJudged}
use Rattle.machine.specs.declared.judged.DeviceJudged.{DeviceJudged}
use Rattle.block.specs.declared.setup.Setup.{Setup}
use Rattle.signature.specs.Numbers.{following}
use Rattle.machine.specs.Frames.{cons_nr_R, has}
use Rattle.machine.specs.Answers.{refused, answers, answered, unless}
use Rattle.machine.specs.HostEnd.{HostState, host_runs, host_fits, host_status, tells_fault, opens, answers_kept, answers_previous, host_judged_in, host_judged, host_opened, host_advanced, host_taken_in, host_take_says, host_take_refused, host_take_answer, host_take_next, host_held_in, host_held_against}
use Rattle.machine.specs.DeviceEnd.{DeviceState, device_restarted, device_runs, device_fits, asks_restart, turns_toggle, device_held_against, device_judged, device_advanced, device_taken_in, device_take_says, device_take_refused, device_take_answer, device_take_next}
use Rattle.machine.specs.Lines.{Entry, On, without_restarts, numbered, host_changed, handed_over, device_changed}
use Rattle.machine.specs.Calls.{to_device, to_host, Event, event}
use Rattle.machine.specs.Events.{host, device}
use Rattle.machine.proofs.Numbers.{num, num_zero, num_one, num_small, num_none, num_apart, num_next}
use Rattle.machine.proofs.Cases.{by_bool, by_option, by_host_phase, by_device_phase, none_some, some_same}
use Rattle.machine.proofs.Traces.{Carried, carried_more, faulty}
use Rattle.machine.proofs.Lines.{on_entry, numbered_on}
use Rattle.machine.proofs.Invariant.{device_fv, confirms, device_data_of, Inv}
use Rattle.machine.proofs.Steps.{host_faults, device_faults, thinned, begins, restarts, moves}
use Rattle.machine.proofs.Each.{idle}

-- a call that is not refused
not_refused : (r : Option Reason) (o : Outcome) → r ≡ None → refused (answered r o) ≡ true → ⊥
not_refused None o e h = false≢true h
not_refused (Some x) o e h = none_some (sym e)

module _ (m : Model) (s : Setup) {tr : List Event} {H : HostState} {D : DeviceState} {out inn : List Entry} (i : Inv m s tr H D out inn) (f : List ℕ) where
  -- ---- at the host

  TakenByHost : Outcome → HostState → Type 0
  TakenByHost o next = Inv m s (event (to_host f) (Ok o) [] ∷ tr) next D (host_changed (Ok o) out) (host_changed (Ok o) inn)

  -- a frame that the device sent in answer to the present number is taken
  advances : On f inn → host_runs H.phase ≡ true → host_fits m s H.number f ≡ true → TakenByHost Fresh (host_advanced H f)
  unfolding TakenByHost
  advances on run fits =
      let ev : Event = event (to_host f) (Ok Fresh) [] in
      let i' = idle m s ev refl refl refl refl i in
      let w = i'.stand in
      let h1 = w.h_up run in
      let jt : i'.joined ≡ true = elim (cases_Bool i'.joined) [ inl x ↦ x | inr x ↦ absurd (omega (arith, w.low x)) ] in
      let (e, o, fr) = on_entry _ f inn i'.ins on in
      let fits' : fits_number m s.crc (num i'.h) e.frame ≡ true = rw (fr, ← w.h_number) fits in
      let same : num i'.h ≡ num o.index = o.frame.composed.only (num i'.h) (num_small i'.h) fits' in
      let nr = w.near jt in
      let be = o.below jt in
      let ag = o.age jt in
      let yo = o.young in
      let ih : o.index ≡ i'.h = num_apart o.index i'.h (omega arith) (omega arith) (sym same) in
      begins m s i' jt (omega arith) H.phase run (following H.number) H.number (not H.toggle) (Some f) (ap following w.h_number ∙ num_next i'.h) w.h_number (λ z. absurd (omega arith))
      (λ g x v. carried_more _ (omega (arith, w.h_ticks)) (subst (λ y. device_fv s y ≡ false → Carried host (device_data_of s y) (H.ticks + 1) (ev ∷ tr)) (fr ∙ some_same x) (o.aged jt ih) v))

  -- a frame that confirms the restart leads to run
  wakes : On f inn → host_runs H.phase ≡ false → host_fits m s 0 f ≡ true → confirms s f ≡ true → TakenByHost Fresh (host_opened H)
  unfolding TakenByHost
  wakes on rest fits co =
      let i' = idle m s (event (to_host f) (Ok Fresh) []) refl refl refl refl i in
      let w = i'.stand in
      let h0 = w.h_down rest in
      let (e, o, fr) = on_entry _ f inn i'.ins on in
      let jt : i'.joined ≡ true = elim (cases_Bool i'.joined) [ inl x ↦ x | inr x ↦ absurd (both_ways (confirms s f) (rw (← fr) (o.mute x)) co) ] in
      let nr = w.near jt in
      let one : ◌≡◌ {A = ℕ} 1 (num (i'.h + 1)) = rw h0 (sym num_one) in
      begins m s i' jt (omega arith) HostPhase.Run refl 1 0 true H.answer one (rw h0 (sym num_zero)) (λ z. w.h_none (omega arith)) (λ g x. absurd (none_some (sym (w.h_none (omega arith)) ∙ x)))

  -- what may be handed in, once it is not refused
  abbrev Brought : HostPhase → Type 0
  Brought p = On f inn ⊎ AllByRecursion (λ n. host_fits m s n f ≡ false) (host_held_in p H)

  rests : host_runs H.phase ≡ false → Brought HostPhase.Restart → TakenByHost (host_take_says HostPhase.Restart (host_judged_in HostPhase.Restart m s H f)) (host_taken_in HostPhase.Restart (host_judged_in HostPhase.Restart m s H f) H f)
  unfolding TakenByHost
  rests r b = by_bool P (opens m s H f) leads (λ _. idle m s _ refl refl refl refl i)
    where
      P : Bool → Type 0
      P b = TakenByHost (host_take_says HostPhase.Restart (cond b HostJudged.Current HostJudged.Unfit)) (host_taken_in HostPhase.Restart (cond b HostJudged.Current HostJudged.Unfit) H f)

      leads : opens m s H f ≡ true → P true
      leads e =
          let a = (and_parts (is_some H.kept) _ e).1 in
          let fits = (and_parts (host_fits m s 0 f) _ a).0 in
          let co = (and_parts (has (host_status s f) cons_nr_R) _ (and_parts (host_fits m s 0 f) _ a).1).0 in
          let on : On f inn = elim b [ inl x ↦ x | inr x ↦ absurd (both_ways (host_fits m s 0 f) x.0 fits) ] in
          wakes on r fits co

  runs : host_runs H.phase ≡ true → Brought HostPhase.Run → TakenByHost (host_take_says HostPhase.Run (host_judged_in HostPhase.Run m s H f)) (host_taken_in HostPhase.Run (host_judged_in HostPhase.Run m s H f) H f)
  unfolding TakenByHost
  runs r b = by_bool P unfit (λ _. host_faults m s _ Signature refl refl i) (λ a. by_bool Q (tells_fault s f) (λ _. host_faults m s _ Told refl refl i) (λ _. by_bool R before (λ _. idle m s _ refl refl refl refl i) (takes a)))
    where
      unfit : Bool
      unfit = not (answers_kept m s H f) && not (answers_previous m s H f)

      before : Bool
      before = host_fits m s H.previous f

      S : HostJudged → Type 0
      S v = TakenByHost (host_take_says HostPhase.Run v) (host_taken_in HostPhase.Run v H f)

      P : Bool → Type 0
      P x = S (cond x HostJudged.Unfit (cond (tells_fault s f) HostJudged.Told (cond (host_fits m s H.previous f) HostJudged.Earlier HostJudged.Current)))

      Q : Bool → Type 0
      Q x = S (cond x HostJudged.Told (cond (host_fits m s H.previous f) HostJudged.Earlier HostJudged.Current))

      R : Bool → Type 0
      R x = S (cond x HostJudged.Earlier HostJudged.Current)

      takes : (not (answers_kept m s H f) && not (answers_previous m s H f)) ≡ false → host_fits m s H.previous f ≡ false → R false
      takes a np =
          let fits : host_fits m s H.number f ≡ true = elim (and_cases (not (answers_kept m s H f)) (not (answers_previous m s H f)) a) [
            | inl x ↦ (and_parts (host_fits m s H.number f) _ (not-false (answers_kept m s H f) x)).0
            | inr x ↦ absurd (both_ways (host_fits m s H.previous f) np (and_parts (host_fits m s H.previous f) _ (not-false (answers_previous m s H f) x)).0)
          ] in
          let on : On f inn = elim b [ inl x ↦ x | inr x ↦ absurd (both_ways (host_fits m s H.number f) x.0 fits) ] in
          advances on r fits

  pub handed_to_host : On f inn ⊎ ((refused (host_take_answer m s H f) ≡ true) ⊎ AllByRecursion (λ n. host_fits m s n f ≡ false) (host_held_against H))
      → Inv m s (event (to_host f) (host_take_answer m s H f) [] ∷ tr) (host_take_next m s H f) D (host_changed (host_take_answer m s H f) out) (host_changed (host_take_answer m s H f) inn)
  unfolding TakenByHost
  handed_to_host allowed = by_option P (host_take_refused m s f) accepts (λ e _. idle m s _ refl refl refl refl i)
    where
      says : Outcome
      says = host_take_says H.phase (host_judged m s H f)

      P : Option Reason → Type 0
      P r = Inv m s (event (to_host f) (answered r says) [] ∷ tr) (unless r H (host_taken_in H.phase (host_judged m s H f) H f)) D (host_changed (answered r says) out) (host_changed (answered r says) inn)

      accepts : host_take_refused m s f ≡ None → P None
      accepts ok =
          let b : Brought H.phase = elim allowed [ inl x ↦ inl x | inr z ↦ elim z [ inl x ↦ absurd (not_refused (host_take_refused m s f) says ok x) | inr x ↦ inr x ] ] in
          by_host_phase (λ p. Brought p → TakenByHost (host_take_says p (host_judged_in p m s H f)) (host_taken_in p (host_judged_in p m s H f) H f)) H.phase rests runs b

  -- ---- at the device

  TakenByDevice : Outcome → DeviceState → Type 0
  TakenByDevice o next = Inv m s (event (to_device f) (Ok o) [] ∷ tr) H next (handed_over (Ok o) f out) (device_changed (Ok o) inn)

  -- the device is as before, but the line to it may be thinned
  stays : (o : Outcome) → faulty device (event (to_device f) (Ok o) []) ≡ false → answers (Ok o) Restart ≡ false → TakenByDevice o D
  unfolding TakenByDevice
  stays o calm other =
      subst (Inv m s (event (to_device f) (Ok o) [] ∷ tr) H D (cond (numbered f out) (without_restarts out) out)) (sym (cond-false (answers (Ok o) Restart) [] inn other))
      (thinned m s (numbered f out) (idle m s _ refl calm refl refl i))

  restarted : On f out → device_fits m s 0 f ≡ true → TakenByDevice Restart device_restarted
  unfolding TakenByDevice
  restarted on fits =
      let i' = idle m s (event (to_device f) (Ok Restart) []) refl refl refl refl i in
      let (e, o, fr) = on_entry _ f out i'.outs on in
      let fits' : fits_number m s.crc 0 e.frame ≡ true = rw fr fits in
      let same : ◌≡◌ {A = ℕ} 0 (num o.index) = o.frame.composed.only 0 (lit< tt) fits' in
      thinned m s (numbered f out) (restarts m s i' (o.old (num_none o.index (sym same))))

  -- a frame of the next number is the host's kept frame
  moved : On f out → device_runs D.phase ≡ true → device_fits m s (following D.number) f ≡ true → TakenByDevice Fresh (device_advanced D f)
  unfolding TakenByDevice
  moved on run fits =
      let ev : Event = event (to_device f) (Ok Fresh) [] in
      let i' = idle m s ev refl refl refl refl i in
      let w = i'.stand in
      let (e, o, fr) = on_entry _ f out i'.outs on in
      let fits' : fits_number m s.crc (num (i'.d + 1)) f ≡ true = rw (← (ap following w.d_number ∙ num_next i'.d)) fits in
      let same : num (i'.d + 1) ≡ num o.index = o.frame.composed.only (num (i'.d + 1)) (num_small (i'.d + 1)) (rw fr fits') in
      let ag = o.age in
      let yo = o.young in
      let jt : i'.joined ≡ true = elim (cases_Bool i'.joined) [
        | inl x ↦ x
        | inr x ↦ absurd (let l0 = w.low x in let z : o.index ≡ 0 = omega arith in let z1 : i'.d + 1 ≡ 0 = num_none (i'.d + 1) (same ∙ ap num z ∙ num_zero) in omega arith)
      ] in
      let nr = w.near jt in
      let id : o.index ≡ i'.d + 1 = num_apart o.index (i'.d + 1) (omega arith) (omega arith) (sym same) in
      let hd : i'.h ≡ i'.d + 1 = omega arith in
      let kf : H.kept ≡ Some f = o.current (omega arith) ∙ ap Some fr in
      let above : AllByRecursion (λ x. x.frame ≡ f → x.number ≡ 0 → ⊥) out =
      All-weaker _ _ (λ e' o' x z. let z1 : i'.d + 1 ≡ 0 = num_none (i'.d + 1) (o'.frame.composed.only (num (i'.d + 1)) (num_small (i'.d + 1)) (rw x fits') ∙ sym o'.number ∙ z) in omega arith) out i'.outs in
      subst (λ b. Inv m s (ev ∷ tr) H (device_advanced D f) (cond b (without_restarts out) out) inn) (sym (numbered_on f out above on)) (moves m s i' f jt hd kf)

  unfits : TakenByDevice (device_take_says D.phase DeviceJudged.Unfit D) (device_taken_in D.phase DeviceJudged.Unfit D f)
  unfolding TakenByDevice
  unfits =
      by_device_phase (λ p. TakenByDevice (device_take_says p DeviceJudged.Unfit D) (device_taken_in p DeviceJudged.Unfit D f)) D.phase (λ _. stays Ignored refl refl)
      (λ _. thinned m s (numbered f out) (device_faults m s _ Signature refl refl i))

  module _ (on : On f out) (fits : device_fits m s (device_held_against s D f) f ≡ true) where
    fits_zero : asks_restart s f ≡ true → TakenByDevice (device_take_says D.phase DeviceJudged.Zero D) (device_taken_in D.phase DeviceJudged.Zero D f)
    fits_zero a = by_device_phase P D.phase (λ _. again) (λ _. by_bool Q (eqb D.number 0) (λ _. stays Repeat refl refl) (λ _. again))
      where
        P : DevicePhase → Type 0
        P p = TakenByDevice (device_take_says p DeviceJudged.Zero D) (device_taken_in p DeviceJudged.Zero D f)

        Q : Bool → Type 0
        Q b = TakenByDevice (cond b Repeat Restart) (cond b D device_restarted)

        again : TakenByDevice Restart device_restarted
        again = restarted on (rw (cond-true (asks_restart s f) 0 (cond (turns_toggle s D f) (following D.number) D.number) a) at fits)

    fits_next : asks_restart s f ≡ false → turns_toggle s D f ≡ true → TakenByDevice (device_take_says D.phase DeviceJudged.Next D) (device_taken_in D.phase DeviceJudged.Next D f)
    fits_next a t =
        let held : device_held_against s D f ≡ following D.number = cond-false (asks_restart s f) 0 _ a ∙ cond-true (turns_toggle s D f) (following D.number) D.number t in
        by_device_phase (λ p. TakenByDevice (device_take_says p DeviceJudged.Next D) (device_taken_in p DeviceJudged.Next D f)) D.phase (λ _. stays Ignored refl refl)
        (λ run. moved on run (subst (λ n. device_fits m s n f ≡ true) held fits))

    fits_same : TakenByDevice (device_take_says D.phase DeviceJudged.Same D) (device_taken_in D.phase DeviceJudged.Same D f)
    fits_same =
        by_device_phase (λ p. TakenByDevice (device_take_says p DeviceJudged.Same D) (device_taken_in p DeviceJudged.Same D f)) D.phase (λ _. stays Ignored refl refl) (λ _. stays Repeat refl refl)

  pub handed_to_device : On f out ⊎ ((refused (device_take_answer m s D f) ≡ true) ⊎ (device_fits m s (device_held_against s D f) f ≡ false))
      → Inv m s (event (to_device f) (device_take_answer m s D f) [] ∷ tr) H (device_take_next m s D f) (handed_over (device_take_answer m s D f) f out) (device_changed (device_take_answer m s D f) inn)
  unfolding TakenByDevice
  handed_to_device allowed = by_option P (device_take_refused m s f) accepts (λ e _. idle m s _ refl refl refl refl i)
    where
      says : Outcome
      says = device_take_says D.phase (device_judged m s D f) D

      P : Option Reason → Type 0
      P r = Inv m s (event (to_device f) (answered r says) [] ∷ tr) H (unless r D (device_taken_in D.phase (device_judged m s D f) D f)) (handed_over (answered r says) f out) (device_changed (answered r says) inn)

      S : DeviceJudged → Type 0
      S v = TakenByDevice (device_take_says D.phase v D) (device_taken_in D.phase v D f)

      kind : DeviceJudged
      kind = cond (asks_restart s f) DeviceJudged.Zero (cond (turns_toggle s D f) DeviceJudged.Next DeviceJudged.Same)

      fitting : On f out → device_fits m s (device_held_against s D f) f ≡ true → S kind
      fitting on fits =
          by_bool (λ b. S (cond b DeviceJudged.Zero (cond (turns_toggle s D f) DeviceJudged.Next DeviceJudged.Same))) (asks_restart s f) (fits_zero on fits)
          (λ a. by_bool (λ b. S (cond b DeviceJudged.Next DeviceJudged.Same)) (turns_toggle s D f) (fits_next on fits a) (λ _. fits_same on fits))

      accepts : device_take_refused m s f ≡ None → P None
      accepts ok =
          by_bool (λ b. S (cond b DeviceJudged.Unfit kind)) (not (device_fits m s (device_held_against s D f) f)) (λ _. unfits)
          (λ n.
          let fits : device_fits m s (device_held_against s D f) f ≡ true = not-false (device_fits m s (device_held_against s D f) f) n in
          let on : On f out = elim allowed [ inl x ↦ x | inr z ↦ elim z [ inl x ↦ absurd (not_refused (device_take_refused m s f) says ok x) | inr x ↦ absurd (both_ways (device_fits m s (device_held_against s D f) f) x fits) ] ] in
          fitting on fits)

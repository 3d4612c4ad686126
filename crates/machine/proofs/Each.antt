-- Every call but a frame handed in keeps the invariant.
use Rattle.std.proofs.Common.{◌≡◌, ℕ, ◌+◌, ◌≤◌, Bool, true, false, cond, ◌&&◌, List, [], ◌∷◌, length, is_some, Some, None, Ok, Err, Option, refl, ap, ◌∙◌, subst, inl, inr, arith}
use Rattle.std.proofs.lemmas.Bool.{both_ways, cases_Bool, cases_lt, and_parts, eqb-true, leb-false}
use Rattle.refusal.specs.declared.reason.Reason.{Reason}
use Rattle.refusal.specs.declared.reason.Reason.TheVariants.{ValuesLength, NoPressAwaited}
use Rattle.refusal.specs.Refusals.{refusal_at}
use Rattle.signature.specs.Kind.{Model}
use Rattle.signature.specs.Laws.{Laws, Octets}
use Rattle.machine.specs.declared.outcome.Outcome.TheVariants.{Fresh, Repeat, Waiting, Fault, Quiet, Taken}
use Rattle.machine.specs.declared.phase.HostPhase.{HostPhase}
use Rattle.machine.specs.declared.phase.DevicePhase.{DevicePhase}
use Rattle.machine.specs.declared.phase.Cause.TheVariants.{Time}
use Rattle.block.specs.declared.setup.Setup.{Setup}
use Rattle.machine.specs.Watch.{expired}
use Rattle.machine.specs.Answers.{Answer, answers, answered, unless, read_refused, read_says}
use Rattle.machine.specs.HostEnd.{HostState, host_started, host_runs, host_composed, host_frame_from, host_frame, host_offer_refused, host_offer_says, host_keeping, host_offer_answer, host_offer_next, host_offer_octets, host_counted, host_ticks_says, host_ticked_in, host_ticks_answer, host_ticks_next, press_awaited, host_released, host_press_answer, host_press_next, host_values, host_read_answer, host_read_octets}
use Rattle.machine.specs.DeviceEnd.{DeviceState, device_faulted, device_runs, device_composed, device_frame_from, device_frame, device_offer_refused, device_offer_says, device_offered_in, device_keeping, device_offer_answer, device_offer_next, device_offer_octets, device_counted, device_ticks_says, device_ticked_in, device_ticks_answer, device_ticks_next, device_values, device_read_answer, device_read_octets}
use Rattle.machine.specs.Lines.{Entry, offered, host_changed}
use Rattle.machine.specs.Calls.{host_offer, device_offer, host_ticks, device_ticks, button, press, host_read, device_read, Event, event}
use Rattle.machine.specs.Events.{host, device, ticks_of, offers_host, offers_device}
use Rattle.machine.specs.Statement.{Checked}
use Rattle.machine.proofs.Cases.{by_bool, by_option, by_host_phase, by_device_phase, passed}
use Rattle.machine.proofs.Traces.{Carried, carried_here, faulty, now}
use Rattle.machine.proofs.Invariant.{host_fv, device_fv, confirms, host_data_of, device_data_of, DeviceFrame, Inv}
use Rattle.machine.proofs.Steps.{host_with, device_with, pass, host_faults, device_faults, keeps, writes, keeps_answer, writes_answer, clears}
use Rattle.machine.proofs.Composing.{host_made, device_made}

-- an event without a fault or ticks
pub idle : (m : Model) (s : Setup) {tr : List Event} {H : HostState} {D : DeviceState} {out inn : List Entry} (ev : Event) → faulty host ev ≡ false → faulty device ev ≡ false → ticks_of host ev.call ≡ 0 → ticks_of device ev.call ≡ 0 → Inv m s tr H D out inn → Inv m s (ev ∷ tr) H D out inn
idle m s {tr} {H} {D} ev nh nd th td i =
    pass m s ev H.ticks D.ticks nh nd (λ _. omega arith) i.stand.h_ticks (λ _. omega arith) i.stand.d_ticks i

-- a reading is no fault
read_calm : (r : Option Reason) (v : Option (List ℕ)) → answers (answered r (read_says v)) Fault ≡ false
read_calm None None = refl
read_calm None (Some values) = refl
read_calm (Some e) v = refl

module _ (m : Model) (laws : Laws m) (s : Setup) (checked : Checked s) {tr : List Event} {H : HostState} {D : DeviceState} {out inn : List Entry} (i : Inv m s tr H D out inn) where
  -- ---- offers
  module _ (v : List ℕ) (wish room : ℕ) (ov : Octets v) where
    HostOffered : Option Reason → Answer → List ℕ → HostState → Type 0
    HostOffered r a f next = Inv m s (event (host_offer v wish room) a (unless r [] f) ∷ tr) next D (offered a (unless r [] f) H.number out) inn

    host_accepts : host_offer_refused m s H v wish room ≡ None → HostOffered None (Ok (host_offer_says H)) (host_frame m s H v wish) (host_keeping H (host_frame m s H v wish))
    unfolding HostOffered
    host_accepts ok = by_option P H.kept fresh again
      where
        P : Option (List ℕ) → Type 0
        P k = HostOffered None (Ok (cond (is_some k) Repeat Fresh)) (host_frame_from k m s H v wish) (host_keeping H (host_frame_from k m s H v wish))

        fresh : H.kept ≡ None → P None
        fresh e =
            let g = host_composed m s H v wish in
            let ev : Event = event (host_offer v wish room) (Ok Fresh) g in
            let i' = idle m s ev refl refl refl refl i in
            let made = host_made m laws s checked i'.stand v wish ov (eqb-true (length v) s.out_len (passed _ ValuesLength _ ok)) in
            let ca : host_fv s g ≡ false → Carried device (host_data_of s g) (D.ticks + 1) (ev ∷ tr) = λ x. rw (made.values x) (carried_here D.ticks offers_host refl) in
            writes m s (keeps m s i' g e made.frame made.stopped ca) g refl

        again : (f : List ℕ) → H.kept ≡ Some f → P (Some f)
        again f e =
            let ev : Event = event (host_offer v wish room) (Ok Repeat) f in
            subst (λ k. Inv m s (ev ∷ tr) (host_with H k) D (record { frame = f; number = H.number; begun = 0 } ∷ out) inn) e
            (writes m s (idle m s ev refl refl refl refl i) f e)

    pub host_offers : Inv m s (event (host_offer v wish room) (host_offer_answer m s H v wish room) (host_offer_octets m s H v wish room) ∷ tr) (host_offer_next m s H v wish room) D (offered (host_offer_answer m s H v wish room) (host_offer_octets m s H v wish room) H.number out) inn
    unfolding HostOffered
    host_offers =
        by_option (λ r. HostOffered r (answered r (host_offer_says H)) (host_frame m s H v wish) (unless r H (host_keeping H (host_frame m s H v wish))))
        (host_offer_refused m s H v wish room) host_accepts (λ e _. idle m s _ refl refl refl refl i)

  module _ (v : List ℕ) (flags room : ℕ) (ov : Octets v) where
    DeviceOffered : Option Reason → Answer → List ℕ → DeviceState → Type 0
    DeviceOffered r a f next = Inv m s (event (device_offer v flags room) a (unless r [] f) ∷ tr) H next out (offered a (unless r [] f) D.number inn)

    -- a running device that has not been joined is past number 0, so its frames confirm no restart
    muted : device_runs D.phase ≡ true → {tr' : List Event} {D' : DeviceState} → D'.phase ≡ D.phase → (i' : Inv m s tr' H D' out inn) {f : List ℕ} → DeviceFrame m s f i'.d → i'.joined ≡ false → confirms s f ≡ false
    muted r e i' {f} o j = elim (cases_Bool (confirms s f)) [ inl x ↦ absurd (omega (arith, o.cons x, i'.stand.away j (ap device_runs e ∙ r))) | inr x ↦ x ]

    device_accepts : device_offer_refused m s D v flags room ≡ None → DeviceOffered None (Ok (device_offer_says D.phase D)) (device_frame m s D v flags) (device_offered_in D.phase D (device_frame m s D v flags))
    unfolding DeviceOffered
    device_accepts ok = by_device_phase P D.phase waits runs
      where
        P : DevicePhase → Type 0
        P p = DeviceOffered None (Ok (device_offer_says p D)) (device_frame_from p D.kept m s D v flags) (device_offered_in p D (device_frame_from p D.kept m s D v flags))

        Q : Option (List ℕ) → Type 0
        Q k = DeviceOffered None (Ok (cond (is_some k) Repeat Fresh)) (device_frame_from DevicePhase.Run k m s D v flags) (device_keeping D (device_frame_from DevicePhase.Run k m s D v flags))

        lv : length v ≡ s.in_len
        lv = eqb-true (length v) s.in_len (passed _ ValuesLength _ ok)

        waits : device_runs D.phase ≡ false → P DevicePhase.Waiting
        waits w =
            let g = device_composed m s D v flags in
            let i' = idle m s (event (device_offer v flags room) (Ok Waiting) g) refl refl refl refl i in
            let made = device_made m laws s checked i'.stand v flags ov lv in
            let quiet = made.waits w in
            writes_answer m s i' g D.number (record { frame = made.frame; aged = λ j x e. absurd (both_ways _ e quiet.0) }) (λ j. quiet.1)

        runs : device_runs D.phase ≡ true → P DevicePhase.Run
        runs r = by_option Q D.kept fresh again
          where
            fresh : D.kept ≡ None → Q None
            fresh e =
                let g = device_composed m s D v flags in
                let ev : Event = event (device_offer v flags room) (Ok Fresh) g in
                let i' = idle m s ev refl refl refl refl i in
                let made = device_made m laws s checked i'.stand v flags ov lv in
                let ca : device_fv s g ≡ false → Carried host (device_data_of s g) (H.ticks + 1) (ev ∷ tr) = λ x. rw (made.values x) (carried_here H.ticks offers_device refl) in
                let i'' = keeps_answer m s i' g made.frame ca in
                let k = i''.d_kept g refl in
                writes_answer m s i'' g D.number k (muted r refl i'' k.frame)

            again : (f : List ℕ) → D.kept ≡ Some f → Q (Some f)
            again f e =
                let ev : Event = event (device_offer v flags room) (Ok Repeat) f in
                let i' = idle m s ev refl refl refl refl i in
                let k = i'.d_kept f e in
                subst (λ k. Inv m s (ev ∷ tr) H (device_with D k) out (record { frame = f; number = D.number; begun = 0 } ∷ inn)) e
                (writes_answer m s i' f D.number k (muted r refl i' k.frame))

    pub device_offers : Inv m s (event (device_offer v flags room) (device_offer_answer m s D v flags room) (device_offer_octets m s D v flags room) ∷ tr) H (device_offer_next m s D v flags room) out (offered (device_offer_answer m s D v flags room) (device_offer_octets m s D v flags room) D.number inn)
    unfolding DeviceOffered
    device_offers =
        by_option (λ r. DeviceOffered r (answered r (device_offer_says D.phase D)) (device_frame m s D v flags) (unless r D (device_offered_in D.phase D (device_frame m s D v flags))))
        (device_offer_refused m s D v flags room) device_accepts (λ e _. idle m s _ refl refl refl refl i)

  -- ---- ticks
  pub host_ticking : (n : ℕ) → Inv m s (event (host_ticks n) (host_ticks_answer s H n) [] ∷ tr) (host_ticks_next s H n) D (host_changed (host_ticks_answer s H n) out) (host_changed (host_ticks_answer s H n) inn)
  host_ticking n =
      by_host_phase P H.phase
      (λ r. pass m s _ H.ticks D.ticks refl refl (λ t. absurd (both_ways (host_runs H.phase) r t)) i.stand.h_ticks (λ _. omega arith) i.stand.d_ticks i)
      (λ r. by_bool Q (expired s (H.ticks + n)) (λ _. host_faults m s _ Time refl refl i)
      (λ e. pass m s _ (H.ticks + n) D.ticks refl refl (λ _. omega arith) (leb-false s.watch (H.ticks + n) e) (λ _. omega arith) i.stand.d_ticks i))
    where
      P : HostPhase → Type 0
      P p = Inv m s (event (host_ticks n) (Ok (host_ticks_says p s H n)) [] ∷ tr) (host_ticked_in p s H n) D (host_changed (Ok (host_ticks_says p s H n)) out) (host_changed (Ok (host_ticks_says p s H n)) inn)

      Q : Bool → Type 0
      Q b = Inv m s (event (host_ticks n) (Ok (cond b Fault Quiet)) [] ∷ tr) (cond b (host_started Time) (host_counted H n)) D (host_changed (Ok (cond b Fault Quiet)) out) (host_changed (Ok (cond b Fault Quiet)) inn)

  pub device_ticking : (n : ℕ) → Inv m s (event (device_ticks n) (device_ticks_answer s D n) [] ∷ tr) H (device_ticks_next s D n) out inn
  device_ticking n =
      by_device_phase P D.phase
      (λ r. pass m s _ H.ticks D.ticks refl refl (λ _. omega arith) i.stand.h_ticks (λ t. absurd (both_ways (device_runs D.phase) r t)) i.stand.d_ticks i)
      (λ r. by_bool Q (expired s (D.ticks + n)) (λ _. device_faults m s _ Time refl refl i)
      (λ e. pass m s _ H.ticks (D.ticks + n) refl refl (λ _. omega arith) i.stand.h_ticks (λ _. omega arith) (leb-false s.watch (D.ticks + n) e) i))
    where
      P : DevicePhase → Type 0
      P p = Inv m s (event (device_ticks n) (Ok (device_ticks_says p s D n)) [] ∷ tr) H (device_ticked_in p s D n) out inn

      Q : Bool → Type 0
      Q b = Inv m s (event (device_ticks n) (Ok (cond b Fault Quiet)) [] ∷ tr) H (cond b (device_faulted D Time) (device_counted D n)) out inn

  -- ---- presses, the button, readings
  pub presses : (given : Bool) → Inv m s (event (press given) (host_press_answer H given) [] ∷ tr) (host_press_next H given) D out inn
  presses given = by_bool P given (λ _. by_bool Q (press_awaited H) takes (λ _. idle m s _ refl refl refl refl i)) (λ _. idle m s _ refl refl refl refl i)
    where
      P : Bool → Type 0
      P b = Inv m s (event (press b) (host_press_answer H b) [] ∷ tr) (host_press_next H b) D out inn

      Q : Bool → Type 0
      Q b = Inv m s (event (press true) (cond b (Ok Taken) (Err (refusal_at NoPressAwaited 0))) [] ∷ tr) (cond b (host_released H) H) D out inn

      takes : press_awaited H ≡ true → Q true
      takes e =
          let i' = idle m s (event (press true) (Ok Taken) []) refl refl refl refl i in
          let has : is_some H.answer ≡ true = (and_parts H.stop (is_some H.answer) (and_parts (host_runs H.phase) (H.stop && is_some H.answer) e).1).1 in
          let l : 2 ≤ i'.h = elim (cases_lt 1 i'.h) [ inl x ↦ x | inr x ↦ absurd (both_ways (is_some H.answer) (ap is_some (i'.stand.h_none x)) has) ] in
          clears m s i' l (now (record { passed = refl; taken = refl })) (now (record { passed = refl; taken = refl }))

  pub buttons : (reading : ℕ) (a : Answer) (b : Bool) → Inv m s (record { call = button reading; answer = a; pressed = b; octets = [] } ∷ tr) H D out inn
  buttons reading a b = idle m s _ refl refl refl refl i

  pub host_reads_on : (room : ℕ) → Inv m s (event (host_read room) (host_read_answer s H room) (host_read_octets s H room) ∷ tr) H D out inn
  host_reads_on room = idle m s _ (read_calm (read_refused s.in_len room) (host_values s H)) refl refl refl i

  pub device_reads_on : (room : ℕ) → Inv m s (event (device_read room) (device_read_answer s D room) (device_read_octets s D room) ∷ tr) H D out inn
  device_reads_on room = idle m s _ refl (read_calm (read_refused s.out_len room) (device_values s D)) refl refl i

-- The invariant holds after every list of calls, and gives the safety statement.
use Rattle.std.proofs.Common.{◌≡◌, ℕ, ◌+◌, ◌*◌, ◌<◌, Bool, true, false, cond, not, List, [], ◌∷◌, ◌++◌, Some, None, Ok, Err, Option, sym, refl, ap, ◌∙◌, subst, inl, inr, arith}
use Rattle.std.proofs.lemmas.Bool.{true≢false, false≢true, cases_Bool, and_parts, not-true}
use Rattle.refusal.specs.declared.reason.Reason.{Reason}
use Rattle.refusal.specs.declared.refused.Refusal.{Refusal}
use Rattle.signature.specs.Kind.{Model, fits_number}
use Rattle.signature.specs.Laws.{Laws}
use Rattle.signature.proofs.Given.{one_number}
use Rattle.machine.specs.declared.outcome.Outcome.{Outcome}
use Rattle.machine.specs.declared.outcome.Outcome.TheVariants.{Process, FailSafe}
use Rattle.machine.specs.declared.phase.DevicePhase.{DevicePhase}
use Rattle.block.specs.declared.setup.Setup.{Setup}
use Rattle.machine.specs.Frames.{FV_activated, activate_FV, has, zeros}
use Rattle.machine.specs.Answers.{Answer, refused, answered, unless, read_refused, read_says, read_values}
use Rattle.machine.specs.HostEnd.{HostState, host_runs, host_frame, host_offer_refused, host_offer_says, host_keeping, host_usable, host_status, host_values_from, host_values}
use Rattle.machine.specs.DeviceEnd.{DeviceState, device_runs, device_composed, device_frame_from, device_frame, device_offer_refused, device_offer_says, device_offered_in, device_usable, device_control, device_values_from, device_values, device_data, device_status}
use Rattle.machine.specs.Calls.{Call, host_offer, to_device, device_offer, to_host, host_ticks, device_ticks, button, press, host_read, device_read, Event, event, Pair, blank, happens, after, history, Admissible}
use Rattle.machine.specs.Button.{button_refused, button_answer, yields_press}
use Rattle.machine.specs.Events.{End, host, device, Reads, reads_host, reads_device, Offers, offers_host, offers_device, FreshOffer}
use Rattle.machine.specs.Statement.{Checked, read_length, HandsOut, process_values, fail_safe_values, nothing, Acknowledged, ComposedUnder, Statement}
use Rattle.machine.proofs.Numbers.{num_zero}
use Rattle.machine.proofs.Cases.{none_some, some_same}
use Rattle.machine.proofs.Octets.{composed_fits}
use Rattle.machine.proofs.Traces.{Carried, Pressed, press_taken, press_since}
use Rattle.machine.proofs.Invariant.{host_fv, device_fv, host_data_of, device_data_of, Inv}
use Rattle.machine.proofs.Each.{host_offers, device_offers, host_ticking, device_ticking, presses, buttons, host_reads_on, device_reads_on}
use Rattle.machine.proofs.Takes.{handed_to_host, handed_to_device}
use Rattle.machine.proofs.Kept.{host_kept, device_kept, device_composes}

-- ---- the invariant, after every list of calls

abbrev InvAt : Model → Setup → List Event → Pair → Type 0
InvAt m s tr p = Inv m s tr p.host p.device p.outward p.inward

at_start : (m : Model) (s : Setup) → Checked s → InvAt m s [] blank
at_start m s checked = record {
  h = 0;
  d = 0;
  joined = false;
  stand = record {
    h_number = sym num_zero;
    h_previous = sym num_zero;
    h_up = λ e. absurd (false≢true e);
    h_down = λ _. refl;
    h_stop = λ _. refl;
    h_none = λ _. refl;
    h_ticks = checked.watched;
    d_number = sym num_zero;
    d_ticks = checked.watched;
    near = λ e. absurd (false≢true e);
    low = λ _. refl;
    away = λ _ e. absurd (false≢true e);
  };
  outs = tt;
  ins = tt;
  h_kept = λ f e. absurd (none_some e);
  d_kept = λ f e. absurd (none_some e);
  h_answer = λ f e. absurd (none_some e);
  d_frame = λ f e. absurd (none_some e);
  d_pressed = λ f e. absurd (none_some e);
  pressed_h = λ e. absurd (true≢false e);
  pressed_d = λ e. absurd (true≢false e);
}

module _ (m : Model) (laws : Laws m) (s : Setup) (checked : Checked s) where
  pub always : (calls : List Call) → Admissible m s calls → InvAt m s (history m s calls) (after m s calls)
  always [] a = at_start m s checked
  always (host_offer v wish room ∷ older) a = host_offers m laws s checked (always older a.0) v wish room a.1
  always (to_device f ∷ older) a = handed_to_device m s (always older a.0) f a.1
  always (device_offer v flags room ∷ older) a = device_offers m laws s checked (always older a.0) v flags room a.1
  always (to_host f ∷ older) a = handed_to_host m s (always older a.0) f a.1
  always (host_ticks n ∷ older) a = host_ticking m laws s checked (always older a.0) n
  always (device_ticks n ∷ older) a = device_ticking m laws s checked (always older a.0) n
  always (button reading ∷ older) a = buttons m laws s checked (always older a.0) reading (button_answer reading) (unless (button_refused reading) false (yields_press (after m s older).held reading))
  always (press given ∷ older) a = presses m laws s checked (always older a.0) given
  always (host_read room ∷ older) a = host_reads_on m laws s checked (always older a.0) room
  always (device_read room ∷ older) a = device_reads_on m laws s checked (always older a.0) room

-- ---- what a reading of process values rests on

record HostRead (s : Setup) (H : HostState) (w : List ℕ) : Type 0 where
  frame : List ℕ
  has_answer : H.answer ≡ Some frame
  released : H.stop ≡ false
  live : device_fv s frame ≡ false
  is : device_data_of s frame ≡ w

record DeviceRead (s : Setup) (D : DeviceState) (w : List ℕ) : Type 0 where
  frame : List ℕ
  has_frame : D.frame ≡ Some frame
  running : device_runs D.phase ≡ true
  live : host_fv s frame ≡ false
  is : host_data_of s frame ≡ w

-- a value that a test lets through
let_through : {A : Type 0} (b : Bool) (x y : A) → cond b (Some x) None ≡ Some y → (b ≡ true) × (x ≡ y)
let_through true x y e = (refl, some_same e)
let_through false x y e = absurd (none_some e)

host_reading : (s : Setup) (H : HostState) (w : List ℕ) → host_values s H ≡ Some w → HostRead s H w
host_reading s H w = from H.answer refl
  where
    from : (k : Option (List ℕ)) → H.answer ≡ k → host_values_from k s H ≡ Some w → HostRead s H w
    from None k e = absurd (none_some e)
    from (Some f) k e =
        let t = let_through (host_usable s H f) (device_data_of s f) w e in
        let a = (and_parts (host_runs H.phase) _ t.0).1 in
        let b = and_parts (not H.stop) _ a in
        let c = (and_parts (not (has (host_status s f) FV_activated)) _ b.1).0 in
        record { frame = f; has_answer = k; released = not-true H.stop b.0; live = not-true (has (host_status s f) FV_activated) c; is = t.1 }

device_reading : (s : Setup) (D : DeviceState) (w : List ℕ) → device_values s D ≡ Some w → DeviceRead s D w
device_reading s D w = from D.frame refl
  where
    from : (k : Option (List ℕ)) → D.frame ≡ k → device_values_from k s D ≡ Some w → DeviceRead s D w
    from None k e = absurd (none_some e)
    from (Some f) k e =
        let t = let_through (device_usable s D f) (host_data_of s f) w e in
        let a = and_parts (device_runs D.phase) _ t.0 in
        record { frame = f; has_frame = k; running = a.0; live = not-true (has (device_control s f) activate_FV) a.1; is = t.1 }

-- ---- answers of readings and offers

safe_not_process : ◌≡◌ {A = Answer} (Ok FailSafe) (Ok Process) → ⊥
safe_not_process e = let z : ◌≡◌ {A = ℕ} 0 1 = cc in omega arith

refused_not_process : {x : Refusal} → ◌≡◌ {A = Answer} (Err x) (Ok Process) → ⊥
refused_not_process e = let z : ◌≡◌ {A = ℕ} 0 1 = cc in omega arith

process_from : (r : Option Reason) (v : Option (List ℕ)) → answered r (read_says v) ≡ Ok Process → (w : List ℕ) × (v ≡ Some w)
process_from None None e = absurd (safe_not_process e)
process_from None (Some w) e = (w, refl)
process_from (Some x) v e = absurd (refused_not_process e)

accepted : (r : Option Reason) (o : Outcome) → refused (answered r o) ≡ false → r ≡ None
accepted None o e = refl
accepted (Some x) o e = absurd (true≢false e)

-- a reading is one of the three, if its process values are those of a fresh offer
reading : (s : Setup) (e : End) (past : List Event) (c : Call) (len : ℕ) (r : Option Reason) (v : Option (List ℕ)) → len ≡ read_length s e
    → ((w : List ℕ) → v ≡ Some w → FreshOffer s e w past) → HandsOut s e past (event c (answered r (read_says v)) (unless r [] (read_values v len)))
reading s e past c len None None l fresh = fail_safe_values refl (ap zeros l)
reading s e past c len None (Some w) l fresh = process_values refl (fresh w refl)
reading s e past c len (Some x) v l fresh = nothing refl refl

module _ (m : Model) (s : Setup) (calls : List Call) (i : InvAt m s (history m s calls) (after m s calls)) where
  offer_from : (e : End) (v w : List ℕ) (n : ℕ) → n < 2 * s.watch + 1 → v ≡ w → Carried e v n (history m s calls) → FreshOffer s e w (history m s calls)
  offer_from e v w n l same c =
      subst (λ x. FreshOffer s e x (history m s calls)) same
      (record { since = c.since; offer = c.offer; earlier = c.earlier; split = c.split; offers = c.offers; fresh = c.fresh; young = omega (arith, c.young) })

  host_fresh : (w : List ℕ) → host_values s (after m s calls).host ≡ Some w → FreshOffer s host w (history m s calls)
  host_fresh w e =
      let o = host_reading s (after m s calls).host w e in
      offer_from host _ w _ (omega (arith, i.stand.h_ticks)) o.is (i.h_answer o.frame o.has_answer o.live)

  device_fresh : (w : List ℕ) → device_values s (after m s calls).device ≡ Some w → FreshOffer s device w (history m s calls)
  device_fresh w e =
      let o = device_reading s (after m s calls).device w e in
      offer_from device _ w _ (omega (arith, i.stand.d_ticks)) o.is (i.d_frame o.frame o.has_frame o.running o.live)

  values_here : (e : End) (c : Call) → Reads e c → HandsOut s e (history m s calls) (happens m s (after m s calls) c)
  values_here host _ (reads_host {room}) = reading s host (history m s calls) (host_read room) s.in_len (read_refused s.in_len room) (host_values s (after m s calls).host) refl host_fresh
  values_here device _ (reads_device {room}) = reading s device (history m s calls) (device_read room) s.out_len (read_refused s.out_len room) (device_values s (after m s calls).device) refl device_fresh

  pressed_here : (e : End) (c : Call) → Reads e c → (happens m s (after m s calls) c).answer ≡ Ok Process → Pressed e (history m s calls)
  pressed_here host _ (reads_host {room}) a =
      let v = process_from (read_refused s.in_len room) (host_values s (after m s calls).host) a in
      i.pressed_h (host_reading s (after m s calls).host v.0 v.1).released
  pressed_here device _ (reads_device {room}) a =
      let v = process_from (read_refused s.out_len room) (device_values s (after m s calls).device) a in
      let o = device_reading s (after m s calls).device v.0 v.1 in
      i.d_pressed o.frame o.has_frame o.running o.live

  acknowledged_here : (e : End) (c : Call) → Reads e c → (happens m s (after m s calls) c).answer ≡ Ok Process → Acknowledged e (history m s calls)
  acknowledged_here e c r a = let p = pressed_here e c r a in record { since_start = press_taken p; since_faults = λ since ev earlier x f. press_since p since ev earlier x f }

-- ---- frames that are written

abbrev Fitting : Model → Setup → End → List ℕ → List Call → Type 0
Fitting m s e f calls = (n : ℕ) × ComposedUnder m s e f n calls × (fits_number m s.crc n f ≡ true)

module _ (m : Model) (s : Setup) (older : List Call) where
  host_frame_fits : (v : List ℕ) (wish room : ℕ) → let calls = host_offer v wish room ∷ older in InvAt m s (history m s calls) (after m s calls)
      → refused (happens m s (after m s older) (host_offer v wish room)).answer ≡ false → Fitting m s host (happens m s (after m s older) (host_offer v wish room)).octets (host_offer v wish room ∷ older)
  host_frame_fits v wish room i a =
      let H = (after m s older).host in
      let frame = host_frame m s H v wish in
      let calls = host_offer v wish room ∷ older in
      let r = host_offer_refused m s H v wish room in
      let ok : host_offer_refused m s (after m s older).host v wish room ≡ None = accepted (host_offer_refused m s H v wish room) (host_offer_says H) a in
      let keeps : (after m s calls).host.kept ≡ Some frame = ap (λ x. (unless x H (host_keeping H frame)).kept) ok in
      let writes : frame ≡ unless r [] frame = sym (ap (λ x. unless x [] frame) ok) in
      subst (λ f. Fitting m s host f calls) writes
      ((after m s calls).host.number, host_kept m s calls frame keeps, rw i.stand.h_number (i.h_kept frame keeps).frame.composed.fitting)

  device_frame_fits : (v : List ℕ) (flags room : ℕ) → let calls = device_offer v flags room ∷ older in InvAt m s (history m s calls) (after m s calls)
      → refused (happens m s (after m s older) (device_offer v flags room)).answer ≡ false → Fitting m s device (happens m s (after m s older) (device_offer v flags room)).octets (device_offer v flags room ∷ older)
  device_frame_fits v flags room i a = subst (λ f. Fitting m s device f (device_offer v flags room ∷ older)) writes (by-phase (after m s older).device.phase refl)
    where
      D : DeviceState
      D = (after m s older).device

      frame : List ℕ
      frame = device_frame m s (after m s older).device v flags

      ok : device_offer_refused m s (after m s older).device v flags room ≡ None
      ok = accepted (device_offer_refused m s (after m s older).device v flags room) (device_offer_says (after m s older).device.phase (after m s older).device) a

      writes : frame ≡ unless (device_offer_refused m s (after m s older).device v flags room) [] frame
      writes = sym (ap (λ x. unless x [] frame) ok)

      by-phase : (p : DevicePhase) → (after m s older).device.phase ≡ p → Fitting m s device frame (device_offer v flags room ∷ older)
      by-phase DevicePhase.Waiting w =
          let composes = device_composes m s v flags room older ok (inr (ap (λ p. device_offer_says p D) w)) in
          let same : device_composed m s D v flags ≡ frame = sym (ap (λ p. device_frame_from p D.kept m s D v flags) w) in
          (D.number, composes, subst (λ f. fits_number m s.crc D.number f ≡ true) same (composed_fits m s.crc D.number (device_data D.phase s D v flags) (device_status D.phase D flags)))
      by-phase DevicePhase.Run w =
          let calls = device_offer v flags room ∷ older in
          let keeps : (after m s calls).device.kept ≡ Some frame = ap (λ x. (unless x D (device_offered_in D.phase D frame)).kept) ok ∙ ap (λ p. (device_offered_in p D frame).kept) w in
          ((after m s calls).device.number, device_kept m s calls frame keeps, rw i.stand.d_number (i.d_kept frame keeps).frame.composed.fitting)

  fits_here : (e : End) (values : List ℕ) (c : Call) → Offers e values c → InvAt m s (history m s (c ∷ older)) (after m s (c ∷ older))
      → refused (happens m s (after m s older) c).answer ≡ false → Fitting m s e (happens m s (after m s older) c).octets (c ∷ older)
  fits_here host _ _ (offers_host {values} {wish} {room}) i a = host_frame_fits values wish room i a
  fits_here device _ _ (offers_device {values} {flags} {room}) i a = device_frame_fits values flags room i a

-- ---- the whole

-- the older part of an admissible list is admissible
older_part : (m : Model) (s : Setup) (newer : List Call) (c : Call) (older : List Call) → Admissible m s (newer ++ (c ∷ older)) → Admissible m s (c ∷ older)
older_part m s [] c older a = a
older_part m s (x ∷ newer) c older a = older_part m s newer c older a.0

pub safe : Statement
safe m laws s checked calls a = record {
  values = λ newer c older e k r. values_here m s older (inv older (part newer c older e).0) k c r;
  fail_safe = λ newer c older e k r x. acknowledged_here m s older (inv older (part newer c older e).0) k c r x;
  frames_fit = λ newer c older e k v o x. fits_here m s older k v c o (inv (c ∷ older) (part newer c older e)) x;
  one_number = λ f o p q hp hq fp fq. one_number m laws s.crc p q f checked.small hp hq o fp fq;
  bursts_seen = λ f g of og b n hn ff. elim (cases_Bool (fits_number m s.crc n g)) [ inl x ↦ absurd (laws.bursts s.crc n f g checked.small hn of og b ff x) | inr x ↦ x ];
}
  where
    inv : (cs : List Call) → Admissible m s cs → InvAt m s (history m s cs) (after m s cs)
    inv = always m laws s checked

    part : (newer : List Call) (c : Call) (older : List Call) → calls ≡ newer ++ (c ∷ older) → Admissible m s (c ∷ older)
    part newer c older e = older_part m s newer c older (subst (Admissible m s) e a)

-- The small steps: what each change of an end or a line does to the invariant.
use Rattle.std.proofs.Common.{◌≡◌, ℕ, ◌+◌, ◌-◌, ◌<◌, ◌≤◌, Bool, true, false, cond, ◌&&◌, eqb, List, [], ◌∷◌, Some, None, Option, sym, refl, ap, ◌∙◌, subst, inl, inr, arith}
use Rattle.std.specs.List.{AllByRecursion}
use Rattle.std.proofs.ByRecursion.{All-weaker}
use Rattle.std.proofs.lemmas.Bool.{true≢false, false≢true, both_ways, cases_Bool, cases_lt, and_parts, and_cases, eqb-true, eqb-false}
use Rattle.signature.specs.Kind.{Model}
use Rattle.machine.specs.declared.phase.HostPhase.{HostPhase}
use Rattle.machine.specs.declared.phase.Cause.{Cause}
use Rattle.block.specs.declared.setup.Setup.{Setup}
use Rattle.signature.specs.Numbers.{following}
use Rattle.machine.specs.HostEnd.{HostState, host_started, host_runs, host_keeping, host_released}
use Rattle.machine.specs.DeviceEnd.{DeviceState, device_faulted, device_restarted, device_runs, device_keeping, device_advanced}
use Rattle.machine.specs.Lines.{Entry, number_begun, without_restarts}
use Rattle.machine.specs.Calls.{Event}
use Rattle.machine.specs.Events.{host, device, ticks_of}
use Rattle.machine.proofs.Numbers.{num, num_zero, num_next}
use Rattle.machine.proofs.Cases.{none_some, some_same}
use Rattle.machine.proofs.Traces.{Carried, carried_on, carried_more, faulty, Pressed, before}
use Rattle.machine.proofs.Lines.{all_begun, all_without, all_thin}
use Rattle.machine.proofs.Invariant.{host_fv, device_fv, confirms, host_data_of, device_data_of, HostFrame, DeviceFrame, Where, Outward, Inward, HostKept, DeviceKept, Inv}

-- the host with other ticks, and with the next number begun
abbrev pub host_at : HostState → ℕ → HostState
host_at h n = record { phase = h.phase; number = h.number; previous = h.previous; toggle = h.toggle; ticks = n; stop = h.stop; kept = h.kept; answer = h.answer; cause = h.cause }

abbrev pub host_next : HostState → HostPhase → ℕ → ℕ → Bool → Option (List ℕ) → HostState
host_next h ph n p t a = record { phase = ph; number = n; previous = p; toggle = t; ticks = 0; stop = h.stop; kept = None; answer = a; cause = h.cause }

-- the host with another kept frame
abbrev pub host_with : HostState → Option (List ℕ) → HostState
host_with h k = record { phase = h.phase; number = h.number; previous = h.previous; toggle = h.toggle; ticks = h.ticks; stop = h.stop; kept = k; answer = h.answer; cause = h.cause }

-- the device with another kept answer, and with other ticks
abbrev pub device_with : DeviceState → Option (List ℕ) → DeviceState
device_with d k = record { phase = d.phase; number = d.number; toggle = d.toggle; ticks = d.ticks; kept = k; frame = d.frame; cause = d.cause }

abbrev pub device_at : DeviceState → ℕ → DeviceState
device_at d n = record { phase = d.phase; number = d.number; toggle = d.toggle; ticks = n; kept = d.kept; frame = d.frame; cause = d.cause }

pub up : {s : Setup} {H : HostState} {D : DeviceState} {h d : ℕ} {j : Bool} → Where s H D h d j → 1 ≤ h → host_runs H.phase ≡ true
up {H} w l = elim (cases_Bool (host_runs H.phase)) [ inl e ↦ e | inr e ↦ absurd (omega (arith, w.h_down e)) ]

pub late : {s : Setup} {H : HostState} {D : DeviceState} {h d : ℕ} {j : Bool} {f : List ℕ} → Where s H D h d j → H.answer ≡ Some f → 2 ≤ h
late {h} w e = elim (cases_lt 1 h) [ inl l ↦ l | inr l ↦ absurd (none_some (sym (w.h_none l) ∙ e)) ]

positive : {m : Model} {s : Setup} {f : List ℕ} {j h : ℕ} → DeviceFrame m s f j → j ≡ h → device_fv s f ≡ false → 1 ≤ h
positive {m} {s} {f} {j} {h} o x v = elim (cases_lt 0 h) [ inl l ↦ l | inr l ↦ absurd (both_ways (device_fv s f) v (o.first (omega arith))) ]

module _ (m : Model) (s : Setup) {tr : List Event} {H : HostState} {D : DeviceState} {out inn : List Entry} where
  -- one more event, with ticks for the ends, and no fault
  pub pass : (ev : Event) (t u : ℕ) → faulty host ev ≡ false → faulty device ev ≡ false
      → (host_runs H.phase ≡ true → H.ticks + ticks_of host ev.call ≤ t) → t < s.watch
      → (device_runs D.phase ≡ true → D.ticks + ticks_of device ev.call ≤ u) → u < s.watch
      → Inv m s tr H D out inn → Inv m s (ev ∷ tr) (host_at H t) (device_at D u) out inn
  pass ev t u nh nd th tw du uw i =
      let w = i.stand in
      record {
        h = i.h;
        d = i.d;
        joined = i.joined;
        stand = search;
        outs = All-weaker _ _ (λ e o. let pr : host_fv s e.frame ≡ false → device_runs D.phase ≡ true → Pressed device (ev ∷ tr) = λ v r. before nd (o.pressed v r) in search) out i.outs;
        ins = All-weaker _ _ (λ e o. record {
          index = o.index;
          frame = o.frame;
          below = o.below;
          age = o.age;
          young = o.young;
          aged = λ j x v. carried_on ev _ (omega (arith, th (up w (positive o.frame x v)))) (o.aged j x v);
          mute = o.mute;
        }) inn i.ins;
        h_kept = λ f e. let o = i.h_kept f e in record {
          frame = o.frame;
          aged = λ v r x. carried_on ev _ (omega (arith, du r)) (o.aged v r x);
          pressed = λ v r. before nd (o.pressed v r);
        };
        d_kept = λ f e. let o = i.d_kept f e in record {
          frame = o.frame;
          aged = λ j x v. carried_on ev _ (omega (arith, th (up w (positive o.frame x v)))) (o.aged j x v);
        };
        h_answer = λ f e v. let l : 1 ≤ i.h = omega (arith, late w e) in carried_on ev _ (omega (arith, th (up w l))) (i.h_answer f e v);
        d_frame = λ f e r v. carried_on ev _ (omega (arith, du r)) (i.d_frame f e r v);
        d_pressed = λ f e r v. before nd (i.d_pressed f e r v);
        pressed_h = λ e. before nh (i.pressed_h e);
        pressed_d = λ e r. before nd (i.pressed_d e r);
      }

  -- the host notes a fault
  pub host_faults : (ev : Event) (c : Cause) → faulty device ev ≡ false → ticks_of device ev.call ≡ 0 → Inv m s tr H D out inn → Inv m s (ev ∷ tr) (host_started c) D [] []
  host_faults ev c nd z i =
      let w = i.stand in
      record {
        h = 0;
        d = i.d;
        joined = device_runs D.phase && eqb i.d 0;
        stand = record {
          h_number = sym num_zero;
          h_previous = sym num_zero;
          h_up = λ e. absurd (false≢true e);
          h_down = λ _. refl;
          h_stop = λ _. refl;
          h_none = λ _. refl;
          h_ticks = omega (arith, w.h_ticks);
          d_number = w.d_number;
          d_ticks = w.d_ticks;
          near = λ e. omega (arith, eqb-true i.d 0 (and_parts (device_runs D.phase) (eqb i.d 0) e).1);
          low = λ _. refl;
          away = λ e r. elim (and_cases (device_runs D.phase) (eqb i.d 0) e) [ inl x ↦ absurd (both_ways (device_runs D.phase) x r) | inr x ↦ omega (arith, eqb-false i.d 0 x) ];
        };
        outs = tt;
        ins = tt;
        h_kept = λ f e. absurd (none_some e);
        d_kept = λ f e. let o = i.d_kept f e in record {
          frame = o.frame;
          aged = λ j x v. absurd (both_ways (device_fv s f) v (o.frame.first x));
        };
        h_answer = λ f e. absurd (none_some e);
        d_frame = λ f e r v. carried_on ev _ (omega arith) (i.d_frame f e r v);
        d_pressed = λ f e r v. before nd (i.d_pressed f e r v);
        pressed_h = λ e. absurd (true≢false e);
        pressed_d = λ e r. absurd (true≢false e);
      }

  -- the device notes a fault
  pub device_faults : (ev : Event) (c : Cause) → faulty host ev ≡ false → ticks_of host ev.call ≡ 0 → Inv m s tr H D out inn → Inv m s (ev ∷ tr) H (device_faulted D c) out inn
  device_faults ev c nh z i =
      let w = i.stand in
      record {
        h = i.h;
        d = i.d;
        joined = i.joined;
        stand = let aw : i.joined ≡ false → false ≡ true → 1 ≤ i.d = λ e r. absurd (false≢true r) in search;
        outs = All-weaker _ _ (λ e o. record {
          index = o.index;
          frame = o.frame;
          number = o.number;
          age = o.age;
          young = o.young;
          current = o.current;
          old = o.old;
          old_at = o.old_at;
          pressed = λ v r. absurd (false≢true r);
        }) out i.outs;
        ins = All-weaker _ _ (λ e o. record {
          index = o.index;
          frame = o.frame;
          below = o.below;
          age = o.age;
          young = o.young;
          aged = λ j x v. carried_on ev _ (omega arith) (o.aged j x v);
          mute = o.mute;
        }) inn i.ins;
        h_kept = λ f e. let o = i.h_kept f e in record {
          frame = o.frame;
          aged = λ v r x. absurd (false≢true r);
          pressed = λ v r. absurd (false≢true r);
        };
        d_kept = λ f e. absurd (none_some e);
        h_answer = λ f e v. carried_on ev _ (omega arith) (i.h_answer f e v);
        d_frame = λ f e r v. absurd (false≢true r);
        d_pressed = λ f e r v. absurd (false≢true r);
        pressed_h = λ e. before nh (i.pressed_h e);
        pressed_d = λ e r. absurd (false≢true r);
      }

  -- a frame of a number above 0 has been handed to the device
  pub thinned : (b : Bool) → Inv m s tr H D out inn → Inv m s tr H D (cond b (without_restarts out) out) inn
  thinned b i = let o : AllByRecursion (Outward m s tr H.kept (device_runs D.phase) i.h i.d i.joined) (cond b (without_restarts out) out) = all_thin _ b out i.outs in search

  -- the host begins a number
  pub begins : (i : Inv m s tr H D out inn) → i.joined ≡ true → i.d ≡ i.h → (ph : HostPhase) → host_runs ph ≡ true → (n p : ℕ) (t : Bool) (a : Option (List ℕ)) → n ≡ num (i.h + 1) → p ≡ num i.h → (i.h ≡ 0 → a ≡ None)
      → ((f : List ℕ) → a ≡ Some f → device_fv s f ≡ false → Carried host (device_data_of s f) (s.watch + 0) tr)
      → Inv m s tr (host_next H ph n p t a) D (number_begun out) (number_begun inn)
  begins i jt dh ph run n p t a en ep ea ca =
      let w = i.stand in
      record {
        h = i.h + 1;
        d = i.d;
        joined = i.joined;
        stand = record {
          h_number = en;
          h_previous = let x : i.h ≡ i.h + 1 - 1 = omega arith in ep ∙ ap num x;
          h_up = λ _. omega arith;
          h_down = λ e. absurd (both_ways (host_runs ph) e run);
          h_stop = λ l. w.h_stop (omega arith);
          h_none = λ l. ea (omega arith);
          h_ticks = omega (arith, w.h_ticks);
          d_number = w.d_number;
          d_ticks = w.d_ticks;
          near = λ _. omega arith;
          low = λ e. absurd (both_ways i.joined e jt);
          away = λ e r. absurd (both_ways i.joined e jt);
        };
        outs = all_begun _ _ (λ e o y. record {
          index = o.index;
          frame = o.frame;
          number = o.number;
          age = omega (arith, o.age);
          young = y;
          current = λ x. absurd (omega (arith, o.age));
          old = λ x. omega (arith, o.old_at x jt);
          old_at = o.old_at;
          pressed = o.pressed;
        }) out i.outs;
        ins = all_begun _ _ (λ e o y. record {
          index = o.index;
          frame = o.frame;
          below = o.below;
          age = λ j. omega (arith, o.age j);
          young = y;
          aged = λ j x v. absurd (omega (arith, o.below j));
          mute = o.mute;
        }) inn i.ins;
        h_kept = λ f e. absurd (none_some e);
        d_kept = λ f e. let o = i.d_kept f e in record {
          frame = o.frame;
          aged = λ j x v. absurd (omega arith);
        };
        h_answer = ca;
        d_frame = i.d_frame;
        d_pressed = i.d_pressed;
        pressed_h = i.pressed_h;
        pressed_d = i.pressed_d;
      }

  -- the device restarts
  pub restarts : (i : Inv m s tr H D out inn) → i.h ≤ 1 → Inv m s tr H device_restarted out []
  restarts i l =
      let w = i.stand in
      record {
        h = i.h;
        d = 0;
        joined = true;
        stand = record {
          h_number = w.h_number;
          h_previous = w.h_previous;
          h_up = w.h_up;
          h_down = w.h_down;
          h_stop = w.h_stop;
          h_none = w.h_none;
          h_ticks = w.h_ticks;
          d_number = sym num_zero;
          d_ticks = omega (arith, w.d_ticks);
          near = λ _. omega arith;
          low = λ e. absurd (true≢false e);
          away = λ e. absurd (true≢false e);
        };
        outs = All-weaker _ _ (λ e o. record {
          index = o.index;
          frame = o.frame;
          number = o.number;
          age = o.age;
          young = o.young;
          current = o.current;
          old = o.old;
          old_at = λ _ _. refl;
          pressed = λ v r. absurd (both_ways (host_fv s e.frame) v (o.frame.early (omega (arith, o.age))));
        }) out i.outs;
        ins = tt;
        h_kept = λ f e. let o = i.h_kept f e in record {
          frame = o.frame;
          aged = λ v r x. absurd (both_ways (host_fv s f) v (o.frame.early l));
          pressed = λ v r. absurd (both_ways (host_fv s f) v (o.frame.early l));
        };
        d_kept = λ f e. absurd (none_some e);
        h_answer = i.h_answer;
        d_frame = λ f e. absurd (none_some e);
        d_pressed = λ f e. absurd (none_some e);
        pressed_h = i.pressed_h;
        pressed_d = λ e r. absurd (both_ways H.stop e (w.h_stop l));
      }

  -- the device takes the frame of the next number
  pub moves : (i : Inv m s tr H D out inn) (f : List ℕ) → i.joined ≡ true → i.h ≡ i.d + 1 → H.kept ≡ Some f → Inv m s tr H (device_advanced D f) (without_restarts out) inn
  moves i f jt hd kf =
      let w = i.stand in
      record {
        h = i.h;
        d = i.d + 1;
        joined = i.joined;
        stand = record {
          h_number = w.h_number;
          h_previous = w.h_previous;
          h_up = w.h_up;
          h_down = w.h_down;
          h_stop = w.h_stop;
          h_none = w.h_none;
          h_ticks = w.h_ticks;
          d_number = ap following w.d_number ∙ num_next i.d;
          d_ticks = omega (arith, w.d_ticks);
          near = λ _. omega arith;
          low = λ e. absurd (both_ways i.joined e jt);
          away = λ e r. absurd (both_ways i.joined e jt);
        };
        outs = all_without _ _ (λ e o z. record {
          index = o.index;
          frame = o.frame;
          number = o.number;
          age = o.age;
          young = o.young;
          current = o.current;
          old = o.old;
          old_at = λ x j. absurd (z (o.number ∙ ap num x ∙ num_zero));
          pressed = o.pressed;
        }) out i.outs;
        ins = All-weaker _ _ (λ e o. let be : i.joined ≡ true → o.index ≤ i.d + 1 = λ j. omega (arith, o.below j) in search) inn i.ins;
        h_kept = λ g e. let o = i.h_kept g e in record {
          frame = o.frame;
          aged = λ v r x. absurd (omega arith);
          pressed = o.pressed;
        };
        d_kept = λ g e. absurd (none_some e);
        h_answer = i.h_answer;
        d_frame = λ g e r v. carried_more _ (omega (arith, w.d_ticks)) ((i.h_kept g (kf ∙ e)).aged v r hd);
        d_pressed = λ g e r v. (i.h_kept g (kf ∙ e)).pressed v r;
        pressed_h = i.pressed_h;
        pressed_d = i.pressed_d;
      }

  -- the host composes a frame and keeps it
  pub keeps : (i : Inv m s tr H D out inn) (g : List ℕ) → H.kept ≡ None → HostFrame m s g i.h → (host_fv s g ≡ false → H.stop ≡ false)
      → (host_fv s g ≡ false → Carried device (host_data_of s g) (D.ticks + 1) tr) → Inv m s tr (host_keeping H g) D out inn
  keeps i g kn hf st ca =
      let w = i.stand in
      record {
        h = i.h;
        d = i.d;
        joined = i.joined;
        stand = search;
        outs = All-weaker _ _ (λ e o. record {
          index = o.index;
          frame = o.frame;
          number = o.number;
          age = o.age;
          young = o.young;
          current = λ x. absurd (none_some (sym kn ∙ o.current x));
          old = o.old;
          old_at = o.old_at;
          pressed = o.pressed;
        }) out i.outs;
        ins = i.ins;
        h_kept = λ f e. subst (HostKept m s tr D.ticks (device_runs D.phase) i.h i.d) (some_same e) (record {
          frame = hf;
          aged = λ v r x. ca v;
          pressed = λ v r. i.pressed_d (st v) r;
        });
        d_kept = i.d_kept;
        h_answer = i.h_answer;
        d_frame = i.d_frame;
        d_pressed = i.d_pressed;
        pressed_h = i.pressed_h;
        pressed_d = i.pressed_d;
      }

  -- the host writes its kept frame
  pub writes : (i : Inv m s tr H D out inn) (f : List ℕ) → H.kept ≡ Some f → Inv m s tr H D (record { frame = f; number = H.number; begun = 0 } ∷ out) inn
  writes i f kf =
      let w = i.stand in
      let o = i.h_kept f kf in
      let e : Outward m s tr H.kept (device_runs D.phase) i.h i.d i.joined (record { frame = f; number = H.number; begun = 0 }) = record {
        index = i.h;
        frame = o.frame;
        number = w.h_number;
        age = omega arith;
        young = omega arith;
        current = λ _. kf;
        old = λ x. omega arith;
        old_at = λ x j. omega (arith, w.near j);
        pressed = o.pressed;
      } in
      let all : AllByRecursion (Outward m s tr H.kept (device_runs D.phase) i.h i.d i.joined) (record { frame = f; number = H.number; begun = 0 } ∷ out) = (e, i.outs) in
      search

  -- the device composes an answer and keeps it
  pub keeps_answer : (i : Inv m s tr H D out inn) (g : List ℕ) → DeviceFrame m s g i.d → (device_fv s g ≡ false → Carried host (device_data_of s g) (H.ticks + 1) tr)
      → Inv m s tr H (device_keeping D g) out inn
  keeps_answer i g df ca =
      let k : DeviceKept m s tr H.ticks i.h i.d i.joined g = record { frame = df; aged = λ j x v. ca v } in
      let all : (f : List ℕ) → Some g ≡ Some f → DeviceKept m s tr H.ticks i.h i.d i.joined f = λ f e. subst (DeviceKept m s tr H.ticks i.h i.d i.joined) (some_same e) k in
      let w : Where s H (device_keeping D g) i.h i.d i.joined = search in
      search

  -- the device writes a frame
  pub writes_answer : (i : Inv m s tr H D out inn) (f : List ℕ) (n : ℕ) → DeviceKept m s tr H.ticks i.h i.d i.joined f → (i.joined ≡ false → confirms s f ≡ false)
      → Inv m s tr H D out (record { frame = f; number = n; begun = 0 } ∷ inn)
  writes_answer i f n o quiet =
      let w = i.stand in
      let e : Inward m s tr H.ticks i.h i.d i.joined (record { frame = f; number = n; begun = 0 }) = record {
        index = i.d;
        frame = o.frame;
        below = λ j. omega arith;
        age = λ j. omega (arith, w.near j);
        young = omega arith;
        aged = o.aged;
        mute = quiet;
      } in
      let all : AllByRecursion (Inward m s tr H.ticks i.h i.d i.joined) (record { frame = f; number = n; begun = 0 } ∷ inn) = (e, i.ins) in
      search

  -- a press is taken
  pub clears : (i : Inv m s tr H D out inn) → 2 ≤ i.h → Pressed host tr → Pressed device tr → Inv m s tr (host_released H) D out inn
  clears i l ph pd =
      let w = i.stand in
      let st : i.h ≤ 1 → false ≡ true = λ x. absurd (omega arith) in
      let a : false ≡ false → Pressed host tr = λ _. ph in
      let b : false ≡ false → device_runs D.phase ≡ true → Pressed device tr = λ _ _. pd in
      let st' : Where s (host_released H) D i.h i.d i.joined = search in
      search

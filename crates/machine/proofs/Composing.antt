-- The frames that the ends compose, in the terms of the invariant.
use Rattle.std.proofs.Common.{◌≡◌, ℕ, ◌<◌, Bool, true, false, cond, ◌&&◌, eqb, List, length, is_some, sym, refl, ap, ◌∙◌, subst, lit<}
use Rattle.std.proofs.lemmas.Bool.{true≢false, both_ways, cond-false, or_left, or_parts, eqb-true, eq-eqb}
use Rattle.signature.specs.Kind.{Model}
use Rattle.signature.specs.Laws.{Laws, Octets}
use Rattle.machine.specs.declared.phase.HostPhase.{HostPhase}
use Rattle.machine.specs.declared.phase.DevicePhase.{DevicePhase}
use Rattle.block.specs.declared.setup.Setup.{Setup}
use Rattle.machine.specs.Frames.{has, zeros, composed, octet_of}
use Rattle.machine.specs.HostEnd.{HostState, host_safe, host_control, host_data, host_composed}
use Rattle.machine.specs.DeviceEnd.{DeviceState, device_runs, flags_fault, device_safe, device_status, device_data, device_composed}
use Rattle.machine.specs.Statement.{Checked}
use Rattle.machine.proofs.Numbers.{num, num_zero, num_small, num_none}
use Rattle.machine.proofs.Cases.{by_host_phase, by_device_phase}
use Rattle.machine.proofs.Octets.{composed_fits, composed_only, composed_octet, composed_data, zeros_octets, zeros_length, Bits, control_bits, status_bits, waiting_bits}
use Rattle.machine.proofs.Invariant.{host_fv, device_fv, confirms, host_data_of, device_data_of, Composed, HostFrame, DeviceFrame, Where}

octets_either : (b : Bool) (n : ℕ) (v : List ℕ) → Octets v → Octets (cond b (zeros n) v)
octets_either true n v o = zeros_octets n
octets_either false n v o = o

length_either : (b : Bool) (n : ℕ) (v : List ℕ) → length v ≡ n → length (cond b (zeros n) v) ≡ n
length_either true n v e = zeros_length n
length_either false n v e = e

-- a host frame g of index h, made from the values v
pub record HostMade (m : Model) (s : Setup) (h : ℕ) (stop : Bool) (v g : List ℕ) : Type 0 where
  pub frame : HostFrame m s g h
  pub stopped : host_fv s g ≡ false → stop ≡ false
  pub values : host_fv s g ≡ false → host_data_of s g ≡ v

-- a device frame g of index d, made from the values v
pub record DeviceMade (m : Model) (s : Setup) (d : ℕ) (running : Bool) (v g : List ℕ) : Type 0 where
  pub frame : DeviceFrame m s g d
  pub values : device_fv s g ≡ false → device_data_of s g ≡ v
  pub waits : running ≡ false → (device_fv s g ≡ true) × (confirms s g ≡ false)

module _ (m : Model) (laws : Laws m) (s : Setup) (checked : Checked s) {H : HostState} {D : DeviceState} {h d : ℕ} {j : Bool} (w : Where s H D h d j) where
  is_composed : (i n : ℕ) (v : List ℕ) (o : ℕ) → n ≡ num i → Octets v → o < 256 → Composed m s (composed m s.crc n v o) (num i)
  is_composed i n v o e ov oo =
      subst (Composed m s (composed m s.crc n v o)) e
      (record { fitting = composed_fits m s.crc n v o; only = composed_only m s.crc n v o laws checked.small (rw e (num_small i)) ov oo })

  -- a bit of the octet of a composed frame
  bit_of : (len mask n : ℕ) (v : List ℕ) (o : ℕ) (b : Bool) → length v ≡ len → has o mask ≡ b → has (octet_of len (composed m s.crc n v o)) mask ≡ b
  bit_of len mask n v o b l e = ap (λ x. has x mask) (composed_octet m s.crc n v o len l) ∙ e

  pub host_made : (v : List ℕ) (wish : ℕ) → Octets v → length v ≡ s.out_len → HostMade m s h H.stop v (host_composed m s H v wish)
  host_made v wish ov lv = by_host_phase P H.phase (λ _. rests) (λ _. runs)
    where
      P : HostPhase → Type 0
      P p = HostMade m s h H.stop v (composed m s.crc H.number (host_data p s H v wish) (host_control p H wish))

      rests : P HostPhase.Restart
      rests =
          let fv : host_fv s (composed m s.crc H.number (zeros s.out_len) 0x14) ≡ true = bit_of s.out_len 0x10 H.number (zeros s.out_len) 0x14 true (zeros_length s.out_len) refl in
          record {
            frame = record { composed = is_composed h H.number (zeros s.out_len) 0x14 w.h_number (zeros_octets s.out_len) (lit< tt); early = λ _. fv };
            stopped = λ e. absurd (both_ways _ e fv);
            values = λ e. absurd (both_ways _ e fv);
          }

      runs : P HostPhase.Run
      runs =
          let safe = host_safe H wish in
          let sent = cond safe (zeros s.out_len) v in
          let o = host_control HostPhase.Run H wish in
          let bits : Bits o safe false = control_bits (H.stop && is_some H.answer) safe H.toggle in
          let l : length sent ≡ s.out_len = length_either safe s.out_len v lv in
          let fv : host_fv s (composed m s.crc H.number sent o) ≡ safe = bit_of s.out_len 0x10 H.number sent o safe l bits.safe in
          record {
            frame = record {
              composed = is_composed h H.number sent o w.h_number (octets_either safe s.out_len v ov) bits.octet;
              early = λ x. fv ∙ or_left H.stop (eqb wish 1) (w.h_stop x);
            };
            stopped = λ e. (or_parts H.stop (eqb wish 1) (sym fv ∙ e)).0;
            values = λ e. composed_data m s.crc H.number sent o s.out_len l ∙ cond-false safe (zeros s.out_len) v (sym fv ∙ e);
          }

  pub device_made : (v : List ℕ) (flags : ℕ) → Octets v → length v ≡ s.in_len → DeviceMade m s d (device_runs D.phase) v (device_composed m s D v flags)
  device_made v flags ov lv = by_device_phase P D.phase (λ _. waits) (λ _. runs)
    where
      P : DevicePhase → Type 0
      P p = DeviceMade m s d (device_runs p) v (composed m s.crc D.number (device_data p s D v flags) (device_status p D flags))

      waits : P DevicePhase.Waiting
      waits =
          let sent = zeros s.in_len in
          let o = device_status DevicePhase.Waiting D flags in
          let bits : Bits o true false = waiting_bits (flags_fault flags) D.cause D.toggle in
          let l : length sent ≡ s.in_len = zeros_length s.in_len in
          let fv : device_fv s (composed m s.crc D.number sent o) ≡ true = bit_of s.in_len 0x10 D.number sent o true l bits.safe in
          let no : confirms s (composed m s.crc D.number sent o) ≡ false = bit_of s.in_len 0x40 D.number sent o false l bits.zero in
          record {
            frame = record {
              composed = is_composed d D.number sent o w.d_number (zeros_octets s.in_len) bits.octet;
              first = λ _. fv;
              cons = λ e. absurd (both_ways _ no e);
            };
            values = λ e. absurd (both_ways _ e fv);
            waits = λ _. (fv, no);
          }

      runs : P DevicePhase.Run
      runs =
          let safe = device_safe D flags in
          let sent = cond safe (zeros s.in_len) v in
          let o = device_status DevicePhase.Run D flags in
          let bits : Bits o safe (eqb D.number 0) = status_bits (flags_fault flags) safe D.toggle (eqb D.number 0) in
          let l : length sent ≡ s.in_len = length_either safe s.in_len v lv in
          let fv : device_fv s (composed m s.crc D.number sent o) ≡ safe = bit_of s.in_len 0x10 D.number sent o safe l bits.safe in
          let co : confirms s (composed m s.crc D.number sent o) ≡ eqb D.number 0 = bit_of s.in_len 0x40 D.number sent o (eqb D.number 0) l bits.zero in
          record {
            frame = record {
              composed = is_composed d D.number sent o w.d_number (octets_either safe s.in_len v ov) bits.octet;
              first = λ e. fv ∙ or_left (eqb D.number 0) _ (eq-eqb D.number 0 (w.d_number ∙ ap num e ∙ num_zero));
              cons = λ e. num_none d (sym w.d_number ∙ eqb-true D.number 0 (sym co ∙ e));
            };
            values = λ e. composed_data m s.crc D.number sent o s.in_len l ∙ cond-false safe (zeros s.in_len) v (sym fv ∙ e);
            waits = λ e. absurd (true≢false e);
          }

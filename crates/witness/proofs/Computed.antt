-- The run under each kind: what does not depend on the signatures once, the rest computed.
use Rattle.std.proofs.Common.{◌≡◌, ℕ, ◌-◌, ◌*◌, ◌<◌, true, List, [], ◌∷◌, take, Ok, refl, inl, lit<}
use Rattle.signature.specs.Rule.{bit_step, feed_bits}
use Rattle.signature.specs.Kind.{Model, octets, signature, fits_number}
use Rattle.signature.specs.Laws.{Octets}
use Rattle.kinds.specs.Kinds.{s3, c3}
use Rattle.machine.specs.declared.outcome.Outcome.TheVariants.{Fresh, Process}
use Rattle.machine.specs.Lines.{On}
use Rattle.machine.specs.Calls.{Call, host_offer, to_device, device_offer, host_ticks, device_ticks, press, host_read, device_read, happens, after, history, Admissible}
use Rattle.machine.specs.Events.{host, device, reads_host, reads_device, offers_host, offers_device}
use Rattle.machine.specs.Statement.{Checked}
use Rattle.witness.specs.Reached.{HandsOutAged}
use Rattle.witness.specs.Runs.{setup, Frames, begun, asked, taken, host_reads, run, s3_frames, c3_frames, ReachedByS3, ReachedByC3}

checked : Checked setup
checked = record { watched = lit< tt; small = lit< tt }

module _ (m : Model) (f : Frames) where
  -- the calls before the host's reading, and before the device's
  abbrev before_host : List Call
  before_host = host_ticks 99 ∷ (host_offer (1 ∷ (2 ∷ [])) 0 6 ∷ (press true ∷ taken f))

  abbrev before_device : List Call
  before_device = device_ticks 99 ∷ (to_device f.second ∷ (device_ticks 99 ∷ host_reads f))

  -- each frame is on its line when it is handed in
  allowed : On f.restart (after m setup (host_offer (0 ∷ (0 ∷ [])) 0 6 ∷ [])).outward
      → On f.confirm (after m setup (device_offer (9 ∷ []) 0 5 ∷ (to_device f.restart ∷ (host_offer (0 ∷ (0 ∷ [])) 0 6 ∷ [])))).inward
      → On f.first (after m setup (host_offer (0 ∷ (0 ∷ [])) 0 6 ∷ begun f)).outward
      → On f.answer (after m setup (host_ticks 99 ∷ (device_offer (5 ∷ []) 0 5 ∷ asked f))).inward
      → On f.second (after m setup (device_ticks 99 ∷ host_reads f)).outward → Admissible m setup (run f)
  allowed on_restart on-confirm on-first on-answer on-second =
      let two : (a b : ℕ) → a < 256 → b < 256 → Octets (a ∷ (b ∷ [])) = λ a b ha hb. (ha, (hb, tt)) in
      let one : (a : ℕ) → a < 256 → Octets (a ∷ []) = λ a ha. (ha, tt) in
      let a-begun : Admissible m setup (begun f) = ((((tt, two 0 0 (lit< tt) (lit< tt)), inl on_restart), one 9 (lit< tt)), inl on-confirm) in
      let a-asked : Admissible m setup (asked f) = ((a-begun, two 0 0 (lit< tt) (lit< tt)), inl on-first) in
      let a-taken : Admissible m setup (taken f) = (((a-asked, one 5 (lit< tt)), tt), inl on-answer) in
      let a-reads : Admissible m setup (host_reads f) = ((((a-taken, tt), two 1 2 (lit< tt) (lit< tt)), tt), tt) in
      ((((a-reads, tt), inl on-second), tt), tt)

  host_stands : (happens m setup (after m setup before_host) (host_read 1)).answer ≡ Ok Process → (happens m setup (after m setup before_host) (host_read 1)).octets ≡ 5 ∷ []
      → (happens m setup (after m setup (asked f)) (device_offer (5 ∷ []) 0 5)).answer ≡ Ok Fresh → HandsOutAged m setup host (5 ∷ []) (2 * setup.watch - 2) (run f)
  host_stands process values fresh = record {
    newer = device_read 2 ∷ (device_ticks 99 ∷ (to_device f.second ∷ (device_ticks 99 ∷ [])));
    call = host_read 1;
    older = before_host;
    split = refl;
    reads = reads_host;
    process = process;
    octets = values;
    since = take 5 (history m setup before_host);
    offer = happens m setup (after m setup (asked f)) (device_offer (5 ∷ []) 0 5);
    earlier = history m setup (asked f);
    past = refl;
    offers = offers_device;
    fresh = fresh;
    once = refl;
    age = refl;
  }

  device_stands : (happens m setup (after m setup before_device) (device_read 2)).answer ≡ Ok Process → (happens m setup (after m setup before_device) (device_read 2)).octets ≡ 1 ∷ (2 ∷ [])
      → (happens m setup (after m setup (press true ∷ taken f)) (host_offer (1 ∷ (2 ∷ [])) 0 6)).answer ≡ Ok Fresh → HandsOutAged m setup device (1 ∷ (2 ∷ [])) (2 * setup.watch - 2) (run f)
  device_stands process values fresh = record {
    newer = [];
    call = device_read 2;
    older = before_device;
    split = refl;
    reads = reads_device;
    process = process;
    octets = values;
    since = take 5 (history m setup before_device);
    offer = happens m setup (after m setup (press true ∷ taken f)) (host_offer (1 ∷ (2 ∷ [])) 0 6);
    earlier = history m setup (press true ∷ taken f);
    past = refl;
    offers = offers_host;
    fresh = fresh;
    once = refl;
    age = refl;
  }

pub s3_reached : ReachedByS3
unfolding bit_step feed_bits octets signature fits_number
s3_reached = record {
  checked = checked;
  admissible = allowed s3 s3_frames (inl refl) (inl refl) (inl refl) (inl refl) (inl refl);
  at_host = host_stands s3 s3_frames refl refl refl;
  at_device = device_stands s3 s3_frames refl refl refl;
}

pub c3_reached : ReachedByC3
unfolding octets signature fits_number
c3_reached = record {
  checked = checked;
  admissible = allowed c3 c3_frames (inl refl) (inl refl) (inl refl) (inl refl) (inl refl);
  at_host = host_stands c3 c3_frames refl refl refl;
  at_device = device_stands c3 c3_frames refl refl refl;
}

-- A run of seventeen calls under two signature kinds, in which each end hands out values of the greatest age.
use Rattle.std.specs.Prelude.{ℕ, ◌-◌, ◌*◌, true, List, [], ◌∷◌}
use Rattle.signature.specs.Kind.{Model}
use Rattle.kinds.specs.Kinds.{s3, c3}
use Rattle.block.specs.declared.setup.Setup.{Setup}
use Rattle.machine.specs.Calls.{Call, host_offer, to_device, device_offer, to_host, host_ticks, device_ticks, press, host_read, device_read, Admissible}
use Rattle.machine.specs.Events.{host, device}
use Rattle.machine.specs.Statement.{Checked}
use Rattle.witness.specs.Reached.{HandsOutAged}

-- two octets out to the device, one in to the host, and a watch time of 100 ticks
abbrev pub setup : Setup
setup = record { crc = 0xC357; watch = 100; out_len = 2; in_len = 1 }

-- the frames that the ends write in the run: three of the host, numbers 0 to 2, and two of the device, numbers 0 and 1
pub record Frames : Type 0 where
  pub restart : List ℕ
  pub first : List ℕ
  pub second : List ℕ
  pub confirm : List ℕ
  pub answer : List ℕ

-- The run in parts, the newest call first. The host begins number 1.
abbrev pub begun : Frames → List Call
begun f = to_host f.confirm ∷ (device_offer (9 ∷ []) 0 5 ∷ (to_device f.restart ∷ (host_offer (0 ∷ (0 ∷ [])) 0 6 ∷ [])))

-- the device takes number 1 and is asked for its answer
abbrev pub asked : Frames → List Call
asked f = to_device f.first ∷ (host_offer (0 ∷ (0 ∷ [])) 0 6 ∷ begun f)

-- the host takes that answer with one tick left
abbrev pub taken : Frames → List Call
taken f = to_host f.answer ∷ (host_ticks 99 ∷ (device_offer (5 ∷ []) 0 5 ∷ asked f))

-- a press, then values for the device; the host reads with one tick left
abbrev pub host_reads : Frames → List Call
host_reads f = host_read 1 ∷ (host_ticks 99 ∷ (host_offer (1 ∷ (2 ∷ [])) 0 6 ∷ (press true ∷ taken f)))

-- the device takes number 2 with one tick left, and reads with one tick left
abbrev pub run : Frames → List Call
run f = device_read 2 ∷ (device_ticks 99 ∷ (to_device f.second ∷ (device_ticks 99 ∷ host_reads f)))

abbrev pub s3_frames : Frames
s3_frames = record {
  restart = 0x00 ∷ (0x00 ∷ (0x14 ∷ (0xED ∷ (0xDE ∷ (0xB9 ∷ [])))));
  first = 0x00 ∷ (0x00 ∷ (0x30 ∷ (0xBD ∷ (0x32 ∷ (0xA8 ∷ [])))));
  second = 0x01 ∷ (0x02 ∷ (0x00 ∷ (0x4E ∷ (0xDA ∷ (0x67 ∷ [])))));
  confirm = 0x00 ∷ (0x50 ∷ (0x4B ∷ (0x1C ∷ (0x39 ∷ []))));
  answer = 0x05 ∷ (0x20 ∷ (0x80 ∷ (0xE8 ∷ (0x41 ∷ []))));
}

abbrev pub c3_frames : Frames
c3_frames = record {
  restart = 0x00 ∷ (0x00 ∷ (0x14 ∷ (0x00 ∷ (0xC3 ∷ (0x43 ∷ [])))));
  first = 0x00 ∷ (0x00 ∷ (0x30 ∷ (0x00 ∷ (0xC3 ∷ (0x66 ∷ [])))));
  second = 0x01 ∷ (0x02 ∷ (0x00 ∷ (0x01 ∷ (0xC1 ∷ (0x55 ∷ [])))));
  confirm = 0x00 ∷ (0x50 ∷ (0x57 ∷ (0x00 ∷ (0x93 ∷ []))));
  answer = 0x05 ∷ (0x20 ∷ (0x56 ∷ (0x05 ∷ (0xE3 ∷ []))));
}

-- The lines allow the run, and both ends hand out process values whose age is twice the watch time less two ticks.
pub record Reached (m : Model) (f : Frames) : Type 0 where
  pub checked : Checked setup
  pub admissible : Admissible m setup (run f)
  pub at_host : HandsOutAged m setup host (5 ∷ []) (2 * setup.watch - 2) (run f)
  pub at_device : HandsOutAged m setup device (1 ∷ (2 ∷ [])) (2 * setup.watch - 2) (run f)

abbrev pub ReachedByS3 : Type 0
ReachedByS3 = Reached s3 s3_frames

abbrev pub ReachedByC3 : Type 0
ReachedByC3 = Reached c3 c3_frames

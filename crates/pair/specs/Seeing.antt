-- What is to be seen of a pair from outside, and how it is printed.
use Rattle.std.specs.Prelude.{List, ℕ, ◌++◌, codes, decimal}
use Rattle.block.specs.declared.setup.Setup.{Setup}
use Rattle.machine.specs.Answers.{read_says}
use Rattle.machine.specs.declared.outcome.Outcome.{Outcome}
use Rattle.machine.specs.declared.outcome.Outcome.TheVariants.{Fresh, Repeat, Waiting, Ignored, Fault, Restart, Quiet, Taken, Process, FailSafe}
use Rattle.machine.specs.declared.phase.HostPhase.{HostPhase}
use Rattle.machine.specs.declared.phase.HostPhase.TheVariants as hostPhase
use Rattle.machine.specs.declared.phase.DevicePhase.{DevicePhase}
use Rattle.machine.specs.declared.phase.DevicePhase.TheVariants as devicePhase
use Rattle.machine.specs.HostEnd.{HostState, host_values}
use Rattle.machine.specs.DeviceEnd.{DeviceState, device_values}
use Rattle.pair.specs.declared.pair.seen.Seen.{Seen}

-- what is to be seen of two ends, each under its setup
abbrev pub seen_at : Setup → Setup → HostState → DeviceState → Seen
seen_at s t h d = record {
  host_phase = h.phase;
  host_number = h.number;
  device_phase = d.phase;
  device_number = d.number;
  host_reads = read_says (host_values s h);
  device_reads = read_says (device_values t d);
}

-- R in restart, N in run
abbrev pub host_phase_letter : HostPhase → List ℕ
host_phase_letter hostPhase.Restart = codes "R"
host_phase_letter hostPhase.Run = codes "N"

-- W while waiting, N in run
abbrev pub device_phase_letter : DevicePhase → List ℕ
device_phase_letter devicePhase.Waiting = codes "W"
device_phase_letter devicePhase.Run = codes "N"

-- P where process values would be handed out, else F
abbrev pub reading_letter : Outcome → List ℕ
reading_letter Fresh = codes "F"
reading_letter Repeat = codes "F"
reading_letter Waiting = codes "F"
reading_letter Ignored = codes "F"
reading_letter Fault = codes "F"
reading_letter Restart = codes "F"
reading_letter Quiet = codes "F"
reading_letter Taken = codes "F"
reading_letter Process = codes "P"
reading_letter FailSafe = codes "F"

abbrev pub saw : Seen → List ℕ
saw x =
    host_phase_letter x.host_phase ++ (decimal x.host_number ++ (codes " " ++ (device_phase_letter x.device_phase ++ (decimal x.device_number ++ (codes " " ++ (reading_letter x.host_reads ++ reading_letter x.device_reads))))))

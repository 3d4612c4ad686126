-- The device end: what it keeps, and for each call what it answers, its next state and the octets that it writes.
use Rattle.std.specs.Prelude.{ℕ, ◌+◌, Bool, true, false, cond, not, ◌&&◌, ◌||◌, List, [], length, is_some, Some, None, Ok, Option, ◌==◌, bit_or, nat_lt}
use Rattle.std.specs.Bool.{beq}
use Rattle.refusal.specs.declared.reason.Reason.{Reason}
use Rattle.refusal.specs.declared.reason.Reason.TheVariants.{FrameLength, ValuesLength, InputRange, BufferLength}
use Rattle.signature.specs.Kind.{Model, fits_number}
use Rattle.machine.specs.declared.outcome.Outcome.{Outcome}
use Rattle.machine.specs.declared.phase.DevicePhase.{DevicePhase}
use Rattle.machine.specs.declared.phase.DevicePhase.TheVariants.{Waiting, Run}
use Rattle.machine.specs.declared.phase.Cause.{Cause}
use Rattle.machine.specs.declared.phase.Cause.TheVariants.{Start, Signature, Time, Told}
use Rattle.machine.specs.declared.judged.DeviceJudged.{DeviceJudged}
use Rattle.block.specs.declared.setup.Setup.{Setup}
use Rattle.signature.specs.Numbers.{following}
use Rattle.machine.specs.Watch.{expired}
use Rattle.machine.specs.Frames.{R_cons_nr, activate_FV, Toggle_h, Device_Fault, CE_CRC, WD_timeout, FV_activated, Toggle_d, cons_nr_R, has, flag, zeros, composed, frame_length, data_of, octet_of}
use Rattle.machine.specs.Answers.{Answer, answered, unless, read_refused, read_says, read_values}

-- A kept answer is the frame that was composed under the present number; the frame is the last host frame that was
-- taken.
pub record DeviceState : Type 0 where
  pub phase : DevicePhase
  pub number : ℕ
  pub toggle : Bool
  pub ticks : ℕ
  pub kept : Option (List ℕ)
  pub frame : Option (List ℕ)
  pub cause : Cause

-- a device that starts: it waits for a restart frame
abbrev pub device_started : DeviceState
device_started =
    record { phase = Waiting; number = 0; toggle = false; ticks = 0; kept = None; frame = None; cause = Start }

-- a device that has taken a restart frame
abbrev pub device_restarted : DeviceState
device_restarted =
    record { phase = Run; number = 0; toggle = false; ticks = 0; kept = None; frame = None; cause = Start }

-- a device that notes a fault: number, toggle and ticks stay
abbrev pub device_faulted : DeviceState → Cause → DeviceState
device_faulted d cause =
    record { phase = Waiting; number = d.number; toggle = d.toggle; ticks = d.ticks; kept = None; frame = None; cause = cause }

abbrev pub device_runs : DevicePhase → Bool
device_runs Waiting = false
device_runs Run = true

-- a host frame fits a number
abbrev pub device_fits : Model → Setup → ℕ → List ℕ → Bool
device_fits m s n f = fits_number m s.crc n f

-- Offer: values for the host and flags, 1 for a fault of the device, 2 for fail-safe values, 3 for both.

abbrev pub flags_fault : ℕ → Bool
flags_fault flags = has flags 1

abbrev pub flags_safe : ℕ → Bool
flags_safe flags = has flags 2

-- in run: fail-safe values go out
abbrev pub device_safe : DeviceState → ℕ → Bool
device_safe d flags = d.number == 0 || flags_safe flags

-- while waiting: the fault that the device noted
abbrev pub cause_bit : Cause → ℕ
cause_bit Start = 0
cause_bit Signature = CE_CRC
cause_bit Time = WD_timeout
cause_bit Told = 0

abbrev pub device_status : DevicePhase → DeviceState → ℕ → ℕ
device_status Waiting d flags =
    bit_or (bit_or (bit_or (flag (flags_fault flags) Device_Fault) (cause_bit d.cause)) FV_activated) (flag d.toggle Toggle_d)
device_status Run d flags =
    bit_or (bit_or (bit_or (flag (flags_fault flags) Device_Fault) (flag (device_safe d flags) FV_activated)) (flag d.toggle Toggle_d)) (flag (d.number == 0) cons_nr_R)

abbrev pub device_data : DevicePhase → Setup → DeviceState → List ℕ → ℕ → List ℕ
device_data Waiting s d values flags = zeros s.in_len
device_data Run s d values flags = cond (device_safe d flags) (zeros s.in_len) values

-- the frame that an offer composes
abbrev pub device_composed : Model → Setup → DeviceState → List ℕ → ℕ → List ℕ
device_composed m s d values flags =
    composed m s.crc d.number (device_data d.phase s d values flags) (device_status d.phase d flags)

abbrev pub device_frame_from : DevicePhase → Option (List ℕ) → Model → Setup → DeviceState → List ℕ → ℕ → List ℕ
device_frame_from Waiting kept m s d values flags = device_composed m s d values flags
device_frame_from Run None m s d values flags = device_composed m s d values flags
device_frame_from Run (Some kept) m s d values flags = kept

-- the frame that an offer writes: in run the kept answer if there is one, else one that it composes
abbrev pub device_frame : Model → Setup → DeviceState → List ℕ → ℕ → List ℕ
device_frame m s d values flags = device_frame_from d.phase d.kept m s d values flags

abbrev pub device_offer_refused : Model → Setup → DeviceState → List ℕ → ℕ → ℕ → Option Reason
device_offer_refused m s d values flags room =
    cond (not (length values == s.in_len)) (Some ValuesLength)
    (cond (nat_lt 3 flags) (Some InputRange) (cond (nat_lt room (length (device_frame m s d values flags))) (Some BufferLength) None))

abbrev pub device_offer_says : DevicePhase → DeviceState → Outcome
device_offer_says Waiting d = Outcome.Waiting
device_offer_says Run d = cond (is_some d.kept) Outcome.Repeat Outcome.Fresh

abbrev pub device_keeping : DeviceState → List ℕ → DeviceState
device_keeping d f =
    record { phase = d.phase; number = d.number; toggle = d.toggle; ticks = d.ticks; kept = Some f; frame = d.frame; cause = d.cause }

abbrev pub device_offered_in : DevicePhase → DeviceState → List ℕ → DeviceState
device_offered_in Waiting d f = d
device_offered_in Run d f = device_keeping d f

abbrev pub device_offer_answer : Model → Setup → DeviceState → List ℕ → ℕ → ℕ → Answer
device_offer_answer m s d values flags room =
    answered (device_offer_refused m s d values flags room) (device_offer_says d.phase d)

abbrev pub device_offer_next : Model → Setup → DeviceState → List ℕ → ℕ → ℕ → DeviceState
device_offer_next m s d values flags room =
    unless (device_offer_refused m s d values flags room) d (device_offered_in d.phase d (device_frame m s d values flags))

abbrev pub device_offer_octets : Model → Setup → DeviceState → List ℕ → ℕ → ℕ → List ℕ
device_offer_octets m s d values flags room =
    unless (device_offer_refused m s d values flags room) [] (device_frame m s d values flags)

-- Take: a frame handed in.

abbrev pub device_control : Setup → List ℕ → ℕ
device_control s f = octet_of s.out_len f

abbrev pub asks_restart : Setup → List ℕ → Bool
asks_restart s f = has (device_control s f) R_cons_nr

abbrev pub turns_toggle : Setup → DeviceState → List ℕ → Bool
turns_toggle s d f = not (beq (has (device_control s f) Toggle_h) d.toggle)

-- the number that a frame handed in is held against
abbrev pub device_held_against : Setup → DeviceState → List ℕ → ℕ
device_held_against s d f = cond (asks_restart s f) 0 (cond (turns_toggle s d f) (following d.number) d.number)

-- a frame that fits the number it is held against is a restart frame, one of the next number or one of this number
abbrev pub device_judged : Model → Setup → DeviceState → List ℕ → DeviceJudged
device_judged m s d f =
    cond (not (device_fits m s (device_held_against s d f) f)) DeviceJudged.Unfit
    (cond (asks_restart s f) DeviceJudged.Zero (cond (turns_toggle s d f) DeviceJudged.Next DeviceJudged.Same))

-- the frame is taken, and its number and toggle hold
abbrev pub device_advanced : DeviceState → List ℕ → DeviceState
device_advanced d f =
    record { phase = d.phase; number = following d.number; toggle = not d.toggle; ticks = 0; kept = None; frame = Some f; cause = d.cause }

abbrev pub device_taken_in : DevicePhase → DeviceJudged → DeviceState → List ℕ → DeviceState
device_taken_in Waiting DeviceJudged.Unfit d f = d
device_taken_in Waiting DeviceJudged.Zero d f = device_restarted
device_taken_in Waiting DeviceJudged.Next d f = d
device_taken_in Waiting DeviceJudged.Same d f = d
device_taken_in Run DeviceJudged.Unfit d f = device_faulted d Signature
device_taken_in Run DeviceJudged.Zero d f = cond (d.number == 0) d device_restarted
device_taken_in Run DeviceJudged.Next d f = device_advanced d f
device_taken_in Run DeviceJudged.Same d f = d

abbrev pub device_take_says : DevicePhase → DeviceJudged → DeviceState → Outcome
device_take_says Waiting DeviceJudged.Unfit d = Outcome.Ignored
device_take_says Waiting DeviceJudged.Zero d = Outcome.Restart
device_take_says Waiting DeviceJudged.Next d = Outcome.Ignored
device_take_says Waiting DeviceJudged.Same d = Outcome.Ignored
device_take_says Run DeviceJudged.Unfit d = Outcome.Fault
device_take_says Run DeviceJudged.Zero d = cond (d.number == 0) Outcome.Repeat Outcome.Restart
device_take_says Run DeviceJudged.Next d = Outcome.Fresh
device_take_says Run DeviceJudged.Same d = Outcome.Repeat

abbrev pub device_take_refused : Model → Setup → List ℕ → Option Reason
device_take_refused m s f = cond (not (length f == frame_length m s.out_len)) (Some FrameLength) None

abbrev pub device_take_answer : Model → Setup → DeviceState → List ℕ → Answer
device_take_answer m s d f = answered (device_take_refused m s f) (device_take_says d.phase (device_judged m s d f) d)

abbrev pub device_take_next : Model → Setup → DeviceState → List ℕ → DeviceState
device_take_next m s d f = unless (device_take_refused m s f) d (device_taken_in d.phase (device_judged m s d f) d f)

-- Ticks: they count in run.

abbrev pub device_counted : DeviceState → ℕ → DeviceState
device_counted d n =
    record { phase = d.phase; number = d.number; toggle = d.toggle; ticks = d.ticks + n; kept = d.kept; frame = d.frame; cause = d.cause }

abbrev pub device_ticks_says : DevicePhase → Setup → DeviceState → ℕ → Outcome
device_ticks_says Waiting s d n = Outcome.Quiet
device_ticks_says Run s d n = cond (expired s (d.ticks + n)) Outcome.Fault Outcome.Quiet

abbrev pub device_ticked_in : DevicePhase → Setup → DeviceState → ℕ → DeviceState
device_ticked_in Waiting s d n = d
device_ticked_in Run s d n = cond (expired s (d.ticks + n)) (device_faulted d Time) (device_counted d n)

abbrev pub device_ticks_answer : Setup → DeviceState → ℕ → Answer
device_ticks_answer s d n = Ok (device_ticks_says d.phase s d n)

abbrev pub device_ticks_next : Setup → DeviceState → ℕ → DeviceState
device_ticks_next s d n = device_ticked_in d.phase s d n

-- Reading: the taken frame's data in run, if the host did not send fail-safe values.

abbrev pub device_usable : Setup → DeviceState → List ℕ → Bool
device_usable s d f = device_runs d.phase && not (has (device_control s f) activate_FV)

abbrev pub device_values_from : Option (List ℕ) → Setup → DeviceState → Option (List ℕ)
device_values_from None s d = None
device_values_from (Some f) s d = cond (device_usable s d f) (Some (data_of s.out_len f)) None

-- the process values that may be handed out, if any
abbrev pub device_values : Setup → DeviceState → Option (List ℕ)
device_values s d = device_values_from d.frame s d

abbrev pub device_read_answer : Setup → DeviceState → ℕ → Answer
device_read_answer s d room = answered (read_refused s.out_len room) (read_says (device_values s d))

abbrev pub device_read_octets : Setup → DeviceState → ℕ → List ℕ
device_read_octets s d room = unless (read_refused s.out_len room) [] (read_values (device_values s d) s.out_len)

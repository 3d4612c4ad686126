-- The host end: what it keeps, and for each call what it answers, its next state and the octets that it writes.
use Rattle.std.specs.Prelude.{ℕ, ◌+◌, Bool, true, false, cond, not, ◌&&◌, ◌||◌, List, [], ◌∷◌, length, is_some, Some, None, Ok, Err, Option, ◌==◌, bit_or, nat_lt}
use Rattle.std.specs.Bool.{beq}
use Rattle.refusal.specs.declared.reason.Reason.{Reason}
use Rattle.refusal.specs.declared.reason.Reason.TheVariants.{FrameLength, ValuesLength, InputRange, BufferLength, NoPressAwaited}
use Rattle.refusal.specs.Refusals.{refusal_at}
use Rattle.signature.specs.Kind.{Model, fits_number}
use Rattle.machine.specs.declared.outcome.Outcome.{Outcome}
use Rattle.machine.specs.declared.outcome.Outcome.TheVariants.{Fresh, Repeat, Ignored, Fault, Quiet, Taken}
use Rattle.machine.specs.declared.phase.HostPhase.{HostPhase}
use Rattle.machine.specs.declared.phase.HostPhase.TheVariants.{Restart, Run}
use Rattle.machine.specs.declared.phase.Cause.{Cause}
use Rattle.machine.specs.declared.phase.Cause.TheVariants.{Signature, Time, Told}
use Rattle.machine.specs.declared.judged.HostJudged.{HostJudged}
use Rattle.block.specs.declared.setup.Setup.{Setup}
use Rattle.signature.specs.Numbers.{following}
use Rattle.machine.specs.Watch.{expired}
use Rattle.machine.specs.Frames.{OA_Req, activate_FV, Toggle_h, Device_Fault, CE_CRC, WD_timeout, FV_activated, Toggle_d, cons_nr_R, has, flag, zeros, composed, frame_length, data_of, octet_of}
use Rattle.machine.specs.Answers.{Answer, answered, unless, read_refused, read_says, read_values}

-- The stop mark stands until the operator's press is taken. A kept frame waits for its answer; the answer is the
-- last device frame that was taken.
pub record HostState : Type 0 where
  pub phase : HostPhase
  pub number : ℕ
  pub previous : ℕ
  pub toggle : Bool
  pub ticks : ℕ
  pub stop : Bool
  pub kept : Option (List ℕ)
  pub answer : Option (List ℕ)
  pub cause : Cause

-- a host that starts, or restarts on a fault
abbrev pub host_started : Cause → HostState
host_started cause =
    record { phase = Restart; number = 0; previous = 0; toggle = false; ticks = 0; stop = true; kept = None; answer = None; cause = cause }

abbrev pub host_runs : HostPhase → Bool
host_runs Restart = false
host_runs Run = true

-- a device frame fits a number
abbrev pub host_fits : Model → Setup → ℕ → List ℕ → Bool
host_fits m s n f = fits_number m s.crc n f

-- Offer: values for the device and a wish, 1 for fail-safe values.

-- fail-safe values go out
abbrev pub host_safe : HostState → ℕ → Bool
host_safe h wish = h.stop || wish == 1

-- in restart R_cons_nr and activate_FV
abbrev pub host_control : HostPhase → HostState → ℕ → ℕ
host_control Restart h wish = 0x14
host_control Run h wish =
    bit_or (bit_or (flag (h.stop && is_some h.answer) OA_Req) (flag (host_safe h wish) activate_FV)) (flag h.toggle Toggle_h)

abbrev pub host_data : HostPhase → Setup → HostState → List ℕ → ℕ → List ℕ
host_data Restart s h values wish = zeros s.out_len
host_data Run s h values wish = cond (host_safe h wish) (zeros s.out_len) values

-- the frame that a fresh offer composes
abbrev pub host_composed : Model → Setup → HostState → List ℕ → ℕ → List ℕ
host_composed m s h values wish =
    composed m s.crc h.number (host_data h.phase s h values wish) (host_control h.phase h wish)

abbrev pub host_frame_from : Option (List ℕ) → Model → Setup → HostState → List ℕ → ℕ → List ℕ
host_frame_from None m s h values wish = host_composed m s h values wish
host_frame_from (Some kept) m s h values wish = kept

-- the frame that an offer writes: the kept one, else one that it composes
abbrev pub host_frame : Model → Setup → HostState → List ℕ → ℕ → List ℕ
host_frame m s h values wish = host_frame_from h.kept m s h values wish

abbrev pub host_offer_refused : Model → Setup → HostState → List ℕ → ℕ → ℕ → Option Reason
host_offer_refused m s h values wish room =
    cond (not (length values == s.out_len)) (Some ValuesLength)
    (cond (nat_lt 1 wish) (Some InputRange) (cond (nat_lt room (length (host_frame m s h values wish))) (Some BufferLength) None))

abbrev pub host_offer_says : HostState → Outcome
host_offer_says h = cond (is_some h.kept) Repeat Fresh

abbrev pub host_keeping : HostState → List ℕ → HostState
host_keeping h f =
    record { phase = h.phase; number = h.number; previous = h.previous; toggle = h.toggle; ticks = h.ticks; stop = h.stop; kept = Some f; answer = h.answer; cause = h.cause }

abbrev pub host_offer_answer : Model → Setup → HostState → List ℕ → ℕ → ℕ → Answer
host_offer_answer m s h values wish room = answered (host_offer_refused m s h values wish room) (host_offer_says h)

abbrev pub host_offer_next : Model → Setup → HostState → List ℕ → ℕ → ℕ → HostState
host_offer_next m s h values wish room =
    unless (host_offer_refused m s h values wish room) h (host_keeping h (host_frame m s h values wish))

abbrev pub host_offer_octets : Model → Setup → HostState → List ℕ → ℕ → ℕ → List ℕ
host_offer_octets m s h values wish room = unless (host_offer_refused m s h values wish room) [] (host_frame m s h values wish)

-- Take: a frame handed in.

abbrev pub host_status : Setup → List ℕ → ℕ
host_status s f = octet_of s.in_len f

-- the device tells of a fault that it noted
abbrev pub tells_fault : Setup → List ℕ → Bool
tells_fault s f = has (host_status s f) CE_CRC || has (host_status s f) WD_timeout

abbrev pub same_toggle : Setup → HostState → List ℕ → Bool
same_toggle s h f = beq (has (host_status s f) Toggle_d) h.toggle

-- in restart: the answer that leads to run
abbrev pub opens : Model → Setup → HostState → List ℕ → Bool
opens m s h f =
    is_some h.kept && (host_fits m s 0 f && (has (host_status s f) cons_nr_R && (not (has (host_status s f) Toggle_d) && not (tells_fault s f))))

-- in run: the answer to the kept frame
abbrev pub answers_kept : Model → Setup → HostState → List ℕ → Bool
answers_kept m s h f = host_fits m s h.number f && (same_toggle s h f && is_some h.kept)

-- in run: an answer to the frame before
abbrev pub answers_previous : Model → Setup → HostState → List ℕ → Bool
answers_previous m s h f = host_fits m s h.previous f && not (same_toggle s h f)

-- the first rule that applies decides
abbrev pub host_judged_in : HostPhase → Model → Setup → HostState → List ℕ → HostJudged
host_judged_in Restart m s h f = cond (opens m s h f) HostJudged.Current HostJudged.Unfit
host_judged_in Run m s h f =
    cond (not (answers_kept m s h f) && not (answers_previous m s h f)) HostJudged.Unfit
    (cond (tells_fault s f) HostJudged.Told (cond (host_fits m s h.previous f) HostJudged.Earlier HostJudged.Current))

abbrev pub host_judged : Model → Setup → HostState → List ℕ → HostJudged
host_judged m s h f = host_judged_in h.phase m s h f

-- from restart to run, with number 1
abbrev pub host_opened : HostState → HostState
host_opened h =
    record { phase = Run; number = 1; previous = 0; toggle = true; ticks = 0; stop = h.stop; kept = None; answer = h.answer; cause = h.cause }

-- the frame is taken as the answer, and the next number begins
abbrev pub host_advanced : HostState → List ℕ → HostState
host_advanced h f =
    record { phase = h.phase; number = following h.number; previous = h.number; toggle = not h.toggle; ticks = 0; stop = h.stop; kept = None; answer = Some f; cause = h.cause }

abbrev pub host_taken_in : HostPhase → HostJudged → HostState → List ℕ → HostState
host_taken_in Restart HostJudged.Unfit h f = h
host_taken_in Restart HostJudged.Told h f = h
host_taken_in Restart HostJudged.Earlier h f = h
host_taken_in Restart HostJudged.Current h f = host_opened h
host_taken_in Run HostJudged.Unfit h f = host_started Signature
host_taken_in Run HostJudged.Told h f = host_started Told
host_taken_in Run HostJudged.Earlier h f = h
host_taken_in Run HostJudged.Current h f = host_advanced h f

abbrev pub host_take_says : HostPhase → HostJudged → Outcome
host_take_says Restart HostJudged.Unfit = Ignored
host_take_says Restart HostJudged.Told = Ignored
host_take_says Restart HostJudged.Earlier = Ignored
host_take_says Restart HostJudged.Current = Fresh
host_take_says Run HostJudged.Unfit = Fault
host_take_says Run HostJudged.Told = Fault
host_take_says Run HostJudged.Earlier = Repeat
host_take_says Run HostJudged.Current = Fresh

abbrev pub host_take_refused : Model → Setup → List ℕ → Option Reason
host_take_refused m s f = cond (not (length f == frame_length m s.in_len)) (Some FrameLength) None

abbrev pub host_take_answer : Model → Setup → HostState → List ℕ → Answer
host_take_answer m s h f = answered (host_take_refused m s f) (host_take_says h.phase (host_judged m s h f))

abbrev pub host_take_next : Model → Setup → HostState → List ℕ → HostState
host_take_next m s h f = unless (host_take_refused m s f) h (host_taken_in h.phase (host_judged m s h f) h f)

-- the numbers that a frame handed in is held against
abbrev pub host_held_in : HostPhase → HostState → List ℕ
host_held_in Restart h = 0 ∷ []
host_held_in Run h = h.number ∷ (h.previous ∷ [])

abbrev pub host_held_against : HostState → List ℕ
host_held_against h = host_held_in h.phase h

-- Ticks: they count in run.

abbrev pub host_counted : HostState → ℕ → HostState
host_counted h n =
    record { phase = h.phase; number = h.number; previous = h.previous; toggle = h.toggle; ticks = h.ticks + n; stop = h.stop; kept = h.kept; answer = h.answer; cause = h.cause }

abbrev pub host_ticks_says : HostPhase → Setup → HostState → ℕ → Outcome
host_ticks_says Restart s h n = Quiet
host_ticks_says Run s h n = cond (expired s (h.ticks + n)) Fault Quiet

abbrev pub host_ticked_in : HostPhase → Setup → HostState → ℕ → HostState
host_ticked_in Restart s h n = h
host_ticked_in Run s h n = cond (expired s (h.ticks + n)) (host_started Time) (host_counted h n)

abbrev pub host_ticks_answer : Setup → HostState → ℕ → Answer
host_ticks_answer s h n = Ok (host_ticks_says h.phase s h n)

abbrev pub host_ticks_next : Setup → HostState → ℕ → HostState
host_ticks_next s h n = host_ticked_in h.phase s h n

-- Press: whether one is passed on.

abbrev pub press_awaited : HostState → Bool
press_awaited h = host_runs h.phase && (h.stop && is_some h.answer)

abbrev pub host_released : HostState → HostState
host_released h =
    record { phase = h.phase; number = h.number; previous = h.previous; toggle = h.toggle; ticks = h.ticks; stop = false; kept = h.kept; answer = h.answer; cause = h.cause }

abbrev pub host_press_answer : HostState → Bool → Answer
host_press_answer h given = cond given (cond (press_awaited h) (Ok Taken) (Err (refusal_at NoPressAwaited 0))) (Ok Quiet)

abbrev pub host_press_next : HostState → Bool → HostState
host_press_next h given = cond given (cond (press_awaited h) (host_released h) h) h

-- Reading: the answer's data in run, without stop mark, if the device neither sent fail-safe values nor has a fault.

abbrev pub host_usable : Setup → HostState → List ℕ → Bool
host_usable s h f =
    host_runs h.phase && (not h.stop && (not (has (host_status s f) FV_activated) && not (has (host_status s f) Device_Fault)))

abbrev pub host_values_from : Option (List ℕ) → Setup → HostState → Option (List ℕ)
host_values_from None s h = None
host_values_from (Some f) s h = cond (host_usable s h f) (Some (data_of s.in_len f)) None

-- the process values that may be handed out, if any
abbrev pub host_values : Setup → HostState → Option (List ℕ)
host_values s h = host_values_from h.answer s h

abbrev pub host_read_answer : Setup → HostState → ℕ → Answer
host_read_answer s h room = answered (read_refused s.in_len room) (read_says (host_values s h))

abbrev pub host_read_octets : Setup → HostState → ℕ → List ℕ
host_read_octets s h room = unless (read_refused s.in_len room) [] (read_values (host_values s h) s.in_len)

-- The safety statement of a pair: what holds for every list of calls that the lines allow, at every place in it.
use Rattle.std.specs.Prelude.{◌≡◌, ℕ, ◌*◌, ◌^◌, ◌<◌, true, false, ◌⊎◌, List, [], ◌∷◌, ◌++◌, Ok}
use Rattle.signature.specs.Kind.{Model, fits_number}
use Rattle.signature.specs.Laws.{Laws, Octets, Burst}
use Rattle.machine.specs.declared.outcome.Outcome.TheVariants.{Fresh, Waiting, Process, FailSafe}
use Rattle.block.specs.declared.setup.Setup.{Setup}
use Rattle.machine.specs.Frames.{zeros}
use Rattle.machine.specs.Answers.{refused}
use Rattle.machine.specs.Calls.{Call, Event, Pair, happens, after, history, Admissible}
use Rattle.machine.specs.Events.{End, host, device, Reads, Offers, Faults, PressTaken, FreshOffer}

-- what a checked block guarantees of a setup
pub record Checked (s : Setup) : Type 0 where
  pub watched : 0 < s.watch
  pub small : s.crc < 2 ^ 16

-- P holds at every place of a list: of each call c in it, made after the calls older
abbrev pub Everywhere : List Call → (List Call → Call → Type 0) → Type 0
Everywhere calls P = (newer : List Call) (c : Call) (older : List Call) → calls ≡ newer ++ (c ∷ older) → P older c

-- ---- values

-- how many octets an end reads
abbrev pub read_length : Setup → End → ℕ
read_length s host = s.in_len
read_length s device = s.out_len

-- A reading of the end e, after the events past, hands out the octets of one fresh offer at the other end, young by
-- the reader's own ticks, or fail-safe values, which are zeros; or it is refused and writes nothing.
pub data HandsOut (s : Setup) (e : End) (past : List Event) (ev : Event) : Type 0 where
  process_values : ev.answer ≡ Ok Process → FreshOffer s e ev.octets past → HandsOut s e past ev
  fail_safe_values : ev.answer ≡ Ok FailSafe → ev.octets ≡ zeros (read_length s e) → HandsOut s e past ev
  nothing : refused ev.answer ≡ true → ev.octets ≡ [] → HandsOut s e past ev

abbrev pub Values : Model → Setup → List Call → Type 0
Values m s calls =
    Everywhere calls (λ older c. (e : End) → Reads e c → HandsOut s e (history m s older) (happens m s (after m s older) c))

-- ---- fail-safe until a press

-- Since its start, and since every fault that the end e has noted, the host has taken a press.
pub record Acknowledged (e : End) (past : List Event) : Type 0 where
  pub since_start : PressTaken past
  pub since_faults : (since : List Event) (ev : Event) (earlier : List Event) → past ≡ since ++ (ev ∷ earlier) → Faults e ev → PressTaken since

-- an end that hands out process values is acknowledged, so before that it hands out fail-safe values only
abbrev pub FailSafeUntilPress : Model → Setup → List Call → Type 0
FailSafeUntilPress m s calls =
    Everywhere calls (λ older c. (e : End) → Reads e c → (happens m s (after m s older) c).answer ≡ Ok Process → Acknowledged e (history m s older))

-- ---- frames

abbrev pub number_at : Pair → End → ℕ
number_at p host = p.host.number
number_at p device = p.device.number

-- an offer that composes a frame, and does not repeat one
pub record Composes (e : End) (f : List ℕ) (c : Call) (ev : Event) : Type 0 where
  pub values : List ℕ
  pub offers : Offers e values c
  pub new : (ev.answer ≡ Ok Fresh) ⊎ (ev.answer ≡ Ok Waiting)
  pub writes : ev.octets ≡ f

-- in these calls an offer composed the frame f when the end had the number n
pub record ComposedUnder (m : Model) (s : Setup) (e : End) (f : List ℕ) (n : ℕ) (calls : List Call) : Type 0 where
  pub newer : List Call
  pub offer : Call
  pub older : List Call
  pub split : calls ≡ newer ++ (offer ∷ older)
  pub composes : Composes e f offer (happens m s (after m s older) offer)
  pub number : number_at (after m s older) e ≡ n

-- every frame written fits the number it was composed under
abbrev pub FramesFit : Model → Setup → List Call → Type 0
FramesFit m s calls =
    Everywhere calls (λ older c. (e : End) (values : List ℕ) → Offers e values c → refused (happens m s (after m s older) c).answer ≡ false
    → (n : ℕ) × ComposedUnder m s e (happens m s (after m s older) c).octets n (c ∷ older) × (fits_number m s.crc n (happens m s (after m s older) c).octets ≡ true))

-- no frame fits two numbers
abbrev pub OneNumber : Model → Setup → Type 0
OneNumber m s =
    (f : List ℕ) → Octets f → (a b : ℕ) → a < 2 ^ 24 → b < 2 ^ 24
    → fits_number m s.crc a f ≡ true → fits_number m s.crc b f ≡ true → a ≡ b

-- a frame that fits a number does not fit it after a burst no longer than the signature
abbrev pub BurstsSeen : Model → Setup → Type 0
BurstsSeen m s =
    (f g : List ℕ) → Octets f → Octets g → Burst (8 * m.width) f g → (n : ℕ) → n < 2 ^ 24
    → fits_number m s.crc n f ≡ true → fits_number m s.crc n g ≡ false

-- ---- the whole

-- what holds of a pair in a list of calls
pub record Safe (m : Model) (s : Setup) (calls : List Call) : Type 0 where
  pub values : Values m s calls
  pub fail_safe : FailSafeUntilPress m s calls
  pub frames_fit : FramesFit m s calls
  pub one_number : OneNumber m s
  pub bursts_seen : BurstsSeen m s

-- for every signature kind that keeps the laws, every checked block, and every list of calls that the lines allow
abbrev pub Statement : Type 0
Statement = (m : Model) → Laws m → (s : Setup) → Checked s → (calls : List Call) → Admissible m s calls → Safe m s calls

-- The two lines: which frames may still come out of each, and what takes them off.
use Rattle.std.specs.Prelude.{◌≡◌, ℕ, ◌+◌, Bool, false, cond, not, ◌&&◌, ◌||◌, ◌⊎◌, List, [], ◌∷◌, ◌==◌, nat_lt}
use Rattle.std.specs.Str.{bytes_eq}
use Rattle.machine.specs.declared.outcome.Outcome.TheVariants.{Fresh, Fault, Restart}
use Rattle.machine.specs.Answers.{Answer, refused, answers}

-- a frame on a line, the number it was composed under, and how many numbers have begun since its offer
pub record Entry : Type 0 where
  pub frame : List ℕ
  pub number : ℕ
  pub begun : ℕ

-- the line may bring these octets
abbrev pub On : List ℕ → List Entry → Type 0
On f [] = ⊥
On f (e ∷ line) = (e.frame ≡ f) ⊎ On f line

-- an accepted offer adds the frame that it wrote
abbrev pub offered : Answer → List ℕ → ℕ → List Entry → List Entry
offered a octets number line = cond (refused a) line (record { frame = octets; number = number; begun = 0 } ∷ line)

-- how many numbers may begin before a frame goes
abbrev pub lifetime : ℕ
lifetime = 16000000

abbrev pub older : Entry → Entry
older e = record { frame = e.frame; number = e.number; begun = e.begun + 1 }

-- a number begins
abbrev pub number_begun : List Entry → List Entry
number_begun [] = []
number_begun (e ∷ line) = cond (nat_lt (e.begun + 1) lifetime) (older e ∷ number_begun line) (number_begun line)

-- at the host, a fault empties both lines, and an answer taken as fresh begins a number
abbrev pub host_changed : Answer → List Entry → List Entry
host_changed a line = cond (answers a Fault) [] (cond (answers a Fresh) (number_begun line) line)

-- the octets are a frame on the line with a number above 0
abbrev pub numbered : List ℕ → List Entry → Bool
numbered f [] = false
numbered f (e ∷ line) = (bytes_eq e.frame f && not (e.number == 0)) || numbered f line

abbrev pub without_restarts : List Entry → List Entry
without_restarts [] = []
without_restarts (e ∷ line) = cond (e.number == 0) (without_restarts line) (e ∷ without_restarts line)

-- the line to the device, once such a frame is handed over: the restart frames go
abbrev pub handed_over : Answer → List ℕ → List Entry → List Entry
handed_over a f line = cond (refused a) line (cond (numbered f line) (without_restarts line) line)

-- the line to the host: a restart of the device empties it
abbrev pub device_changed : Answer → List Entry → List Entry
device_changed a line = cond (answers a Restart) [] line

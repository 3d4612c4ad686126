-- The octets that a frame in fixed memory holds.
use Rattle.std.specs.Prelude.{ℕ, List, Option, take}
use Rattle.std.specs.Option.{option_map}
use Rattle.machine.specs.Frames.{data_of}
use Rattle.frame.specs.declared.frame.Frame.{Frame}

abbrev pub framed : Frame → List ℕ
framed f = take f.size f.octets

-- the data of a frame, if there is one
abbrev pub data_in : ℕ → Option Frame → Option (List ℕ)
data_in len frame = option_map (λ f. data_of len (framed f)) frame

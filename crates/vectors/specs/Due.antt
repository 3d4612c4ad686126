-- What the definitions answer to a vector.
use Rattle.std.specs.Prelude.{ℕ, cond, List, [], ◌∷◌, vec_items}
use Rattle.signature.specs.Kind.{Model, feed, fits_number, octets, signature}
use Rattle.signature.specs.Numbers.{numeral}
use Rattle.kinds.specs.Names.{model_of}
use Rattle.vectors.specs.declared.table.Asked.{Asked}
use Rattle.vectors.specs.declared.table.Asked.TheVariants.{Sign, Fits, Run}
use Rattle.vectors.specs.declared.table.Vector.{Vector}

-- the signature of the octets; 1 if they are a frame that fits, else 0; the register after them
abbrev pub answered : Model → Asked → List ℕ → List ℕ
answered m (Sign s) os = signature m s.crc (numeral s.number) os
answered m (Fits s) os = cond (fits_number m s.crc (numeral s.number) os) (1 ∷ []) (0 ∷ [])
answered m (Run start) os = octets m.width (feed m start os)

abbrev pub due : Vector → List ℕ
due v = answered (model_of v.kind) v.asked (vec_items v.octets)

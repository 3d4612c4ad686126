-- What a signature kind is as mathematics, what it signs, and which frames fit a number.
use Rattle.std.specs.Prelude.{ℕ, zero, suc, ◌-◌, ◌/◌, ◌%◌, Bool, ◌&&◌, List, [], ◌∷◌, ◌++◌, length, take, drop, fold, nat_le}
use Rattle.std.specs.Str.{bytes_eq}

-- A register has `width` octets, and `step r o` is the register that the octet o makes of the register r.
-- Two types of the code may share one model.
pub record Model : Type 0 where
  pub width : ℕ
  pub step : ℕ → ℕ → ℕ

-- the register after some octets
abbrev pub feed : Model → ℕ → List ℕ → ℕ
feed m r os = fold m.step r os

-- the n lowest octets of a number, the highest first
unfoldable pub octets : ℕ → ℕ → List ℕ
octets zero x = []
octets (suc n) x = octets n (x / 256) ++ ((x % 256) ∷ [])

-- The register that signs the octets os under the number n: the start, which is the block's check value crc, is
-- fed the number's three octets and then os.
abbrev pub signed : Model → ℕ → ℕ → List ℕ → ℕ
signed m crc n os = feed m (feed m crc (octets 3 n)) os

-- the signature: the whole register, the highest octet first
unfoldable pub signature : Model → ℕ → ℕ → List ℕ → List ℕ
signature m crc n os = octets m.width (signed m crc n os)

-- A frame fits a number if its last octets are the signature, under that number, of the octets before them.
unfoldable pub fits_number : Model → ℕ → ℕ → List ℕ → Bool
fits_number m crc n f =
    nat_le m.width (length f) && bytes_eq (drop (length f - m.width) f) (signature m crc n (take (length f - m.width) f))

-- What a signature tells of a frame, under every lawful kind.
use Rattle.std.specs.Prelude.{◌≡◌, ℕ, ◌*◌, ◌^◌, ◌<◌, true, List, ◌++◌, ◌≢◌}
use Rattle.signature.specs.Kind.{Model, signature, fits_number}
use Rattle.signature.specs.Laws.{Octets, Burst}

-- octets with their signature under a number fit that number
abbrev pub SignedFits : Model → Type 0
SignedFits m = (crc n : ℕ) (os : List ℕ) → fits_number m crc n (os ++ signature m crc n os) ≡ true

-- no frame fits two numbers
abbrev pub OneNumber : Model → Type 0
OneNumber m = (crc a b : ℕ) (f : List ℕ) → crc < 2 ^ 16 → a < 2 ^ 24 → b < 2 ^ 24 → Octets f
    → fits_number m crc a f ≡ true → fits_number m crc b f ≡ true → a ≡ b

-- a frame that fits a number does not fit it after a change within one run of bits, no longer than the signature
abbrev pub NoBurst : Model → Type 0
NoBurst m = (crc n : ℕ) (f g : List ℕ) → crc < 2 ^ 16 → n < 2 ^ 24 → Octets f → Octets g
    → Burst (8 * m.width) f g → fits_number m crc n f ≡ true → fits_number m crc n g ≢ true

-- Octets as hexadecimal text.
use Rattle.std.specs.Prelude.{◌≡◌, ℕ, ◌/◌, ◌%◌, List, [], ◌∷◌, length}
use Rattle.std.specs.Char.{digit_char}
use Rattle.std.specs.List.{flat_map}
use Rattle.signature.specs.Laws.{Octets}

-- the two digits of an octet, the higher first
abbrev pub pair : ℕ → List ℕ
pair o = digit_char (o / 16 % 16) ∷ digit_char (o % 16) ∷ []

abbrev pub hex_text : List ℕ → List ℕ
hex_text os = flat_map pair os

-- so many octets
abbrev pub AreOctets : ℕ → List ℕ → Type 0
AreOctets n os = (length os ≡ n) × Octets os

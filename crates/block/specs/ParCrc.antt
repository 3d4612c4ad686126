-- F_Par_CRC, the check value of a parameter block: a register of 16 bits that follows the bit rule.
use Rattle.std.specs.Prelude.{ℕ, List, fold}
use Rattle.signature.specs.Rule.{feed_bits}

-- an octet's eight bits, with the polynomial 4EABh
abbrev pub par_step : ℕ → ℕ → ℕ
par_step r o = feed_bits 15 0x4EAB r 8 o

-- the register after some octets, from 0
abbrev pub par_crc : List ℕ → ℕ
par_crc os = fold par_step 0 os

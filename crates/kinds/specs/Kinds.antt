-- The three signature kinds as mathematics: S3 and S4 follow the bit rule, C3 rotates.
use Rattle.std.specs.Prelude.{ℕ, ◌+◌, ◌-◌, ◌*◌, ◌/◌, ◌%◌, ◌^◌, bit_and, bit_xor}
use Rattle.signature.specs.Rule.{feed_bits}
use Rattle.signature.specs.Kind.{Model}

-- the bit rule at w octets with a polynomial, an octet's eight bits at a time
abbrev pub ruled : ℕ → ℕ → Model
ruled w p = record { width = w; step = λ r o. feed_bits (8 * w - 1) p r 8 o }

abbrev pub s3 : Model
s3 = ruled 3 0x5D6DCB

abbrev pub s4 : Model
s4 = ruled 4 0xF4ACFB13

-- The bench kind: a register of three octets rotates left by one octet, and the octet is xored into the lowest.
abbrev pub c3 : Model
c3 = record { width = 3; step = λ r o. bit_xor (r % 2 ^ 16 * 256 + r / 2 ^ 16 % 256) o }

-- a step of the bench kind by masks and shifts
abbrev pub rotated : ℕ → ℕ → ℕ
rotated r o = bit_xor (bit_xor (bit_and r 65535 * 256 % 2 ^ 32) (bit_and (r / 65536) 255)) o

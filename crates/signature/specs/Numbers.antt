-- The numbers that frames are composed under: 24 bits, and 1 after the largest.
use Rattle.std.specs.Prelude.{ℕ, ◌+◌, ◌*◌, cond, nat_lt}
use Rattle.signature.specs.declared.number.Number.{Number}

-- a number by its three octets
abbrev pub numeral : Number → ℕ
numeral n = n.high * 65536 + n.middle * 256 + n.low

-- The number after n. 0 belongs to restarts, so that the number after the largest is 1.
abbrev pub following : ℕ → ℕ
following n = cond (nat_lt n 0xffffff) (n + 1) 1

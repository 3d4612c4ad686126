-- The bit rule of a register, for any polynomial. The register's highest bit has the place `top`.
use Rattle.std.specs.Prelude.{ℕ, zero, suc, ◌*◌, ◌/◌, ◌%◌, ◌^◌, cond, ◌==◌, bit_xor}

-- One bit b: the register shifts left and loses its top bit; where that top bit and b differ, it is xored with
-- the polynomial p.
unfoldable pub bit_step : ℕ → ℕ → ℕ → ℕ → ℕ
bit_step top p r b = cond (bit_xor (r / 2 ^ top % 2) b == 1) (bit_xor (r * 2 % 2 ^ suc top) p) (r * 2 % 2 ^ suc top)

-- the n lowest bits of x, the highest of them first
unfoldable pub feed_bits : ℕ → ℕ → ℕ → ℕ → ℕ → ℕ
feed_bits top p r zero x = r
feed_bits top p r (suc n) x = bit_step top p (feed_bits top p r n (x / 2)) (x % 2)

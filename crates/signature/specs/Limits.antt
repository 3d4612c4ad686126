-- How many data octets a signature kind may allow.
use Rattle.std.specs.Prelude.{ℕ, cond, ◌==◌}

-- with signatures of three octets, and of four
abbrev pub most_data : ℕ → ℕ
most_data width = cond (width == 3) 12 123

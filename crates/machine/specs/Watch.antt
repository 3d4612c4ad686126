-- The watch time of both ends, and the age below which a value is still handed out.
use Rattle.std.specs.Prelude.{ℕ, ◌*◌, ◌<◌, Bool, nat_le}
use Rattle.block.specs.declared.setup.Setup.{Setup}

-- the ticks counted since the last new frame have reached the watch time
abbrev pub expired : Setup → ℕ → Bool
expired s ticks = nat_le s.watch ticks

-- a value's age in ticks is less than twice the watch time
abbrev pub Young : Setup → ℕ → Type 0
Young s age = age < 2 * s.watch

-- A refused call leaves both ends, the button and the lines alone, and writes nothing.
use Rattle.std.specs.Prelude.{◌≡◌, true, []}
use Rattle.signature.specs.Kind.{Model}
use Rattle.block.specs.declared.setup.Setup.{Setup}
use Rattle.machine.specs.Answers.{refused}
use Rattle.machine.specs.Calls.{Call, Pair, happens, step}

abbrev pub RefusedChangesNothing : Type 0
RefusedChangesNothing =
    (m : Model) (s : Setup) (p : Pair) (c : Call) → refused (happens m s p c).answer ≡ true → (step m s p c ≡ p) × ((happens m s p c).octets ≡ [])

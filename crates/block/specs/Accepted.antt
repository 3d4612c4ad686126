-- What a checked block holds.
use Rattle.std.specs.Prelude.{Ok, Err, Result}
use Rattle.refusal.specs.declared.refused.Refusal.{Refusal}
use Rattle.signature.specs.declared.kind.SignatureKind.{Ghosts}
use Rattle.block.specs.declared.block.CheckedBlock.{CheckedBlock}
use Rattle.block.specs.declared.setup.Setup.{Setup}

-- an answer of the check, with the setup of the accepted block in its place
abbrev pub setups : {K : Type 0} {g : Ghosts K} → Result (CheckedBlock K g) Refusal → Result Setup Refusal
setups (Ok b) = Ok b.setup
setups (Err e) = Err e

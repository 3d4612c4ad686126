-- Each follows from the laws of the kind.
use Rattle.signature.proofs.Given.{one_number, signed_fits}
use Rattle.signature.proofs.signing.frames_tell.Goals as goal

pub returns : goal.returns
returns g c =
    let m = g.K.SignatureKind.model in
    let laws = g.met.K.SignatureKind.lawful in
    record { signed_fits = signed_fits m; one_number = one_number m laws; no_burst = laws.bursts }

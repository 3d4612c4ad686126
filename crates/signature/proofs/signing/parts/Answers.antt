-- A frame in its two parts.
use Rattle.std.proofs.Common.{List, ap, ◌∙◌, arith}
use Rattle.signature.specs.Kind.{fits_number}
use Rattle.signature.proofs.Given.{fits_short, fits_append}
use Rattle.signature.proofs.signing.parts.Goals as goal

pub returns-then-frame-width : goal.returns-then-frame-width
returns-then-frame-width g c crc n = fits_short g.K.SignatureKind.model crc n c.args.frame.now (omega arith)

pub returns : goal.returns
returns g c crc n =
    let m = g.K.SignatureKind.model in
    let body = c.split_at.result.0.now in
    let last = c.split_at.result.1.now in
    ap (λ (f : List _). fits_number m crc n f) c.split_at.ensures.by_index.0 ∙ fits_append m crc n body last (omega arith)

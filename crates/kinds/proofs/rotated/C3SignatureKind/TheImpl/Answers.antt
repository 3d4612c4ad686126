-- C3 keeps the laws, and masks and shifts rotate.
use Rattle.std.proofs.Common.{◌∙◌}
use Rattle.kinds.specs.Steps.{rotated_is}
use Rattle.kinds.proofs.rotated.C3SignatureKind.TheImpl.Goals as goal

pub step-tells : goal.step-tells
step-tells c = c.ensures ∙ rotated_is c.args.register c.args.octet

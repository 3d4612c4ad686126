-- The check is computed.
use Rattle.std.proofs.Common.{refl}
use Rattle.signature.specs.Rule.{bit_step, feed_bits}
use Rattle.signature.specs.Kind.{octets, signature, fits_number}
use Rattle.examples.specs.Known.{entries_known, signatures_known, restart_known, ticks_known}
use Rattle.examples.proofs.figures_are_known.Goals as goal

pub returns : goal.returns
unfolding entries_known signatures_known restart_known ticks_known bit_step feed_bits octets signature fits_number
returns c = refl

-- The ends, the answers and the buffer so far are the machine's after the calls before this one.
use Rattle.std.proofs.Common.{◌≡◌, take, vec_items}
use Rattle.pair.specs.Views.{ends}
use Rattle.pair.proofs.Along.{Going}
use Rattle.pair.proofs.runner.run.Given as goal

abbrev pub invariant-loop-call : goal.invariant-loop-call
invariant-loop-call g l =
    (l.pair.host.setup ≡ l.initial.pair.host.setup)
    × (l.pair.device.setup ≡ l.initial.pair.device.setup)
    × (g.D.SignatureKind.model ≡ g.H.SignatureKind.model → l.initial.pair.device.setup ≡ l.initial.pair.host.setup
    → Going g.H.SignatureKind.model l.initial.pair.host.setup l.initial.buffer (take l.call-index l.calls) (ends l.pair) (vec_items l.answers) l.buffer)

-- A part of zeros is zeros.
use Rattle.std.proofs.Common.{ℕ, replicate, ap, ◌∙◌, arith}
use Rattle.std.proofs.lemmas.List.{take-replicate}
use Rattle.frame.proofs.frame.Frame.zeros.Goals as goal

pub returns-clause-zeros : goal.returns-clause-zeros
returns-clause-zeros c = take-replicate c.from.result 260 0 (omega arith) ∙ ap (λ (n : ℕ). replicate n 0) c.from.ensures

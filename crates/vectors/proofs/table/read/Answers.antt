use Rattle.std.proofs.Common.{rules, ◌≡◌, ℕ, List, sym, ◌∙◌}
use Rattle.vectors.specs.Hex.{hex_text}
use Rattle.vectors.specs.Lines.{spaced, written}
use Rattle.vectors.specs.declared.table.Asked.{Asked}
use Rattle.kinds.specs.declared.name.KindName.{KindName}
use Rattle.vectors.proofs.Heads.{past_opening}
use Rattle.vectors.proofs.table.read.Goals as goal

pub returns : goal.returns
returns c =
    let no : ((os answer : List ℕ) → c.in-Some.rest.now ≡ spaced (hex_text os) (hex_text answer) → ⊥) → (k : KindName) (a : Asked) (os answer : List ℕ) → c.args.line.now ≡ written k a os answer → ⊥ =
    λ none k a os answer e. none os answer (past_opening c.in-Some.kind k c.in-Some.asked a c.in-Some.rest.now (spaced (hex_text os) (hex_text answer)) (sym c.in-Some.ensures ∙ e)) in
    search rules

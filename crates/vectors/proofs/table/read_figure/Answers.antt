-- Why a text does not begin with a figure.
use Rattle.std.proofs.Common.{◌≡◌, ℕ, List, length, ◌∙◌, rules}
use Rattle.vectors.specs.Hex.{hex_text}
use Rattle.vectors.specs.Lines.{spaced}
use Rattle.vectors.proofs.Cuts.{same_cut, hex_lacks}
use Rattle.vectors.proofs.table.read_figure.Goals as goal

pub returns-in_err-octets : goal.returns-in_err-octets
returns-in_err-octets g c =
    let both = c.in_ok-field.ensures in
    let none = c.in_err-octets.ensures in
    let no : (os rest : List ℕ) → length os ≡ g.row.N → c.args.text.now ≡ spaced (hex_text os) rest → ⊥ =
    λ os rest many e.
    let same = same_cut c.args.text.now c.in_ok-field.field.now c.in_ok-field.rest.now both.0 both.1 (hex_text os) rest e (hex_lacks os) in
    none os many (c.as_bytes.ensures.value ∙ same.0) in
    search rules

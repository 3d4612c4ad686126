-- Why a text does not begin with what a frame is signed under.
use Rattle.std.proofs.Common.{◌≡◌, ℕ, List, sym, ap, ◌∙◌, rules}
use Rattle.signature.specs.Kind.{octets}
use Rattle.signature.specs.Numbers.{numeral}
use Rattle.signature.specs.declared.signing.Signing.{Signing}
use Rattle.signature.proofs.Given.{length_octets}
use Rattle.vectors.specs.Hex.{hex_text}
use Rattle.vectors.specs.Lines.{signed_under, spaced}
use Rattle.vectors.proofs.Cuts.{past_field}
use Rattle.vectors.proofs.Figures.{two, three}
use Rattle.vectors.proofs.table.read_signing.Goals as goal

pub returns-in_err-crc : goal.returns-in_err-crc
returns-in_err-crc c =
    let none = c.in_err-crc.ensures in
    let no : (s : Signing) (rest : List ℕ) → c.args.text.now ≡ signed_under s rest → ⊥ =
    λ s rest e. none (octets 2 s.crc) (spaced (hex_text (octets 3 (numeral s.number))) rest) (length_octets 2 s.crc) e in
    search rules

pub returns-in_err-high : goal.returns-in_err-high
returns-in_err-high c =
    let none = c.in_err-high.ensures in
    let no : (s : Signing) (rest : List ℕ) → c.args.text.now ≡ signed_under s rest → ⊥ =
    λ s rest e.
    let after = past_field c.in_ok-crc.crc (octets 2 s.crc) c.in_ok-crc.after.now (spaced (hex_text (octets 3 (numeral s.number))) rest) (sym c.in_ok-crc.ensures.0 ∙ e) in
    none (octets 3 (numeral s.number)) rest (length_octets 3 (numeral s.number)) after in
    search rules

pub returns : goal.returns
returns c =
    let crc : octets 2 c.from_be_bytes-crc.result ≡ c.in_ok-crc.crc = ap (λ (x : ℕ). octets 2 x) c.from_be_bytes-crc.ensures ∙ two c.in_ok-crc.crc c.in_ok-crc.ensures.1 in
    let number = three c.in_ok-high.field-0-0 c.in_ok-high.ensures.1 in
    rw (crc, number) (c.in_ok-crc.ensures.0 ∙ ap (λ (x : List ℕ). spaced (hex_text c.in_ok-crc.crc) x) c.in_ok-high.ensures.0)

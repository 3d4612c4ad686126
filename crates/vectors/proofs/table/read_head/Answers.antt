-- Why a line does not open as that of a vector.
use Rattle.std.proofs.Common.{◌≡◌, List, ℕ, rules}
use Rattle.kinds.specs.Names.{kind_word}
use Rattle.vectors.specs.Lines.{headed, opened}
use Rattle.vectors.specs.declared.table.Asked.{Asked}
use Rattle.kinds.specs.declared.name.KindName.{KindName}
use Rattle.vectors.proofs.Heads.{past_form, past_kind}
use Rattle.vectors.proofs.table.read_head.Goals as goal

pub returns-in_err-word : goal.returns-in_err-word
returns-in_err-word c =
    let one = c.in_ok-form.ensures in
    let none = c.in_err-word.ensures in
    let no : (k : KindName) (a : Asked) (rest : List ℕ) → c.args.line.now ≡ opened k a rest → ⊥ =
    λ k a rest e.
    let p = past_form k a rest c.args.line.now c.in_ok-form.form.now c.in_ok-form.after_form.now e one.0 one.1 in
    none (kind_word k) (headed a rest) p.1 in
    search rules

pub returns-in_err-kind : goal.returns-in_err-kind
returns-in_err-kind c =
    let one = c.in_ok-form.ensures in
    let two = c.in_ok-word.ensures in
    let no : (k : KindName) (a : Asked) (rest : List ℕ) → c.args.line.now ≡ opened k a rest → ⊥ =
    λ k a rest e.
    let p = past_kind k a rest c.args.line.now c.in_ok-form.form.now c.in_ok-form.after_form.now e one.0 one.1 c.in_ok-word.word.now c.in_ok-word.after_kind.now two.0 two.1 in
    search rules in
    search rules

pub returns-in_err-asked : goal.returns-in_err-asked
returns-in_err-asked c =
    let one = c.in_ok-form.ensures in
    let two = c.in_ok-word.ensures in
    let none = c.in_err-asked.ensures in
    let no : (k : KindName) (a : Asked) (rest : List ℕ) → c.args.line.now ≡ opened k a rest → ⊥ =
    λ k a rest e.
    let p = past_form k a rest c.args.line.now c.in_ok-form.form.now c.in_ok-form.after_form.now e one.0 one.1 in
    let q = past_kind k a rest c.args.line.now c.in_ok-form.form.now c.in_ok-form.after_form.now e one.0 one.1 c.in_ok-word.word.now c.in_ok-word.after_kind.now two.0 two.1 in
    none a rest p.0 q.1 in
    search rules

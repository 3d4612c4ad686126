-- The first fields of a line are those of one vector only.
use Rattle.std.proofs.Common.{◌≡◌, ℕ, List, length, refl, arith}
use Rattle.std.specs.Prelude.{codes}
use Rattle.std.specs.Str.Iter.{LacksByte}
use Rattle.std.specs.List.{AllByRecursion}
use Rattle.std.proofs.ByRecursion.{All-get_or}
use Rattle.signature.specs.Kind.{octets}
use Rattle.signature.specs.Numbers.{numeral}
use Rattle.signature.specs.declared.signing.Signing.{Signing}
use Rattle.signature.proofs.Given.{length_octets}
use Rattle.vectors.specs.Hex.{hex_text}
use Rattle.kinds.specs.Names.{kind_word}
use Rattle.vectors.specs.Lines.{form_word, headed, opened, signed_under, spaced}
use Rattle.vectors.specs.declared.table.Asked.{Asked}
use Rattle.vectors.specs.declared.table.Asked.TheVariants.{Sign, Fits, Run}
use Rattle.kinds.specs.declared.name.KindName.{KindName}
use Rattle.kinds.specs.declared.name.KindName.TheVariants.{S3, S4, C3}
use Rattle.vectors.proofs.Cuts.{past_field, same_cut}

abbrev NoSpace : ℕ → Type 0
NoSpace x = x ≡ 32 → ⊥

word_lacks : (word : List ℕ) → AllByRecursion NoSpace word → LacksByte 32 word
word_lacks word all k h = All-get_or NoSpace word k 0 h all

form_lacks : (a : Asked) → LacksByte 32 (form_word a)
form_lacks (Sign s) = word_lacks (form_word (Sign s)) (λ e. omega arith, (λ e. omega arith, (λ e. omega arith, (λ e. omega arith, tt))))
form_lacks (Fits s) = word_lacks (form_word (Fits s)) (λ e. omega arith, (λ e. omega arith, (λ e. omega arith, (λ e. omega arith, tt))))
form_lacks (Run r) = word_lacks (form_word (Run r)) (λ e. omega arith, (λ e. omega arith, (λ e. omega arith, tt)))

kind_lacks : (k : KindName) → LacksByte 32 (kind_word k)
kind_lacks S3 = word_lacks (kind_word S3) (λ e. omega arith, (λ e. omega arith, tt))
kind_lacks S4 = word_lacks (kind_word S4) (λ e. omega arith, (λ e. omega arith, tt))
kind_lacks C3 = word_lacks (kind_word C3) (λ e. omega arith, (λ e. omega arith, tt))

past_signing : (s t : Signing) (x y : List ℕ) → signed_under s x ≡ signed_under t y → x ≡ y
past_signing s t x y e =
    past_field (octets 3 (numeral s.number)) (octets 3 (numeral t.number)) x y
    (past_field (octets 2 s.crc) (octets 2 t.crc) (spaced (hex_text (octets 3 (numeral s.number))) x) (spaced (hex_text (octets 3 (numeral t.number))) y) e)

-- after what a form asks, the rest is the same
past_head : (a b : Asked) (x y : List ℕ) → form_word a ≡ form_word b → headed a x ≡ headed b y → x ≡ y
past_head (Sign s) (Sign t) x y f e = past_signing s t x y e
past_head (Fits s) (Fits t) x y f e = past_signing s t x y e
past_head (Run r) (Run q) x y f e = past_field (octets 4 r) (octets 4 q) x y e
past_head (Sign s) (Fits t) x y f e = let z : ◌≡◌ {A = ℕ} 115 102 = cc in absurd (omega arith)
past_head (Fits s) (Sign t) x y f e = let z : ◌≡◌ {A = ℕ} 115 102 = cc in absurd (omega arith)
past_head (Sign s) (Run q) x y f e = let z : ◌≡◌ {A = ℕ} 115 114 = cc in absurd (omega arith)
past_head (Run r) (Sign t) x y f e = let z : ◌≡◌ {A = ℕ} 115 114 = cc in absurd (omega arith)
past_head (Fits s) (Run q) x y f e = let z : ◌≡◌ {A = ℕ} 102 114 = cc in absurd (omega arith)
past_head (Run r) (Fits t) x y f e = let z : ◌≡◌ {A = ℕ} 102 114 = cc in absurd (omega arith)

-- a text that begins with no register is not that of a run
pub no_run : (form text : List ℕ) → form ≡ codes "run" → ((os rest : List ℕ) → length os ≡ 4 → text ≡ spaced (hex_text os) rest → ⊥)
    → (a : Asked) (rest : List ℕ) → form ≡ form_word a → text ≡ headed a rest → ⊥
no_run form text is none (Sign s) rest f e = let z : ◌≡◌ {A = ℕ} 114 115 = cc in absurd (omega arith)
no_run form text is none (Fits s) rest f e = let z : ◌≡◌ {A = ℕ} 114 102 = cc in absurd (omega arith)
no_run form text is none (Run r) rest f e = none (octets 4 r) rest (length_octets 4 r) e

-- a line that is cut once, and twice
module _ (k : KindName) (a : Asked) (more line form rest : List ℕ) (e : line ≡ opened k a more) (h : line ≡ spaced form rest) (l : LacksByte 32 form) where
  pub past_form : (form ≡ form_word a) × (rest ≡ spaced (kind_word k) (headed a more))
  past_form = same_cut line form rest h l (form_word a) (spaced (kind_word k) (headed a more)) e (form_lacks a)

  pub past_kind : (word after : List ℕ) → rest ≡ spaced word after → LacksByte 32 word
      → (word ≡ kind_word k) × (after ≡ headed a more)
  past_kind word after i m =
      same_cut rest word after i m (kind_word k) (headed a more) past_form.1 (kind_lacks k)

-- after what a line opens with, the rest is the same
pub past_opening : (k q : KindName) (a b : Asked) (x y : List ℕ) → opened k a x ≡ opened q b y → x ≡ y
past_opening k q a b x y e =
    let form = past_form q b y (opened k a x) (form_word a) (spaced (kind_word k) (headed a x)) e refl (form_lacks a) in
    let kind = past_kind q b y (opened k a x) (form_word a) (spaced (kind_word k) (headed a x)) e refl (form_lacks a) (kind_word k) (headed a x) refl (kind_lacks k) in
    past_head a b x y form.0 kind.1

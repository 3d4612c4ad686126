-- How a vector is written as a line of the table.
use Rattle.std.specs.Prelude.{ℕ, List, ◌∷◌, ◌++◌, vec_items, codes}
use Rattle.signature.specs.Kind.{octets}
use Rattle.signature.specs.Numbers.{numeral}
use Rattle.signature.specs.declared.signing.Signing.{Signing}
use Rattle.kinds.specs.Names.{kind_word}
use Rattle.kinds.specs.declared.name.KindName.{KindName}
use Rattle.vectors.specs.Hex.{hex_text}
use Rattle.vectors.specs.declared.table.Asked.{Asked}
use Rattle.vectors.specs.declared.table.Asked.TheVariants.{Sign, Fits, Run}
use Rattle.vectors.specs.declared.table.Vector.{Vector}

-- a field, a space, and what follows
abbrev pub spaced : List ℕ → List ℕ → List ℕ
spaced field rest = field ++ (32 ∷ rest)

abbrev pub form_word : Asked → List ℕ
form_word (Sign s) = codes "sign"
form_word (Fits s) = codes "fits"
form_word (Run start) = codes "run"

-- a block's check value and a number
abbrev pub signed_under : Signing → List ℕ → List ℕ
signed_under s rest = spaced (hex_text (octets 2 s.crc)) (spaced (hex_text (octets 3 (numeral s.number))) rest)

-- the fields that a frame is signed under, or the register that a run starts from
abbrev pub headed : Asked → List ℕ → List ℕ
headed (Sign s) rest = signed_under s rest
headed (Fits s) rest = signed_under s rest
headed (Run start) rest = spaced (hex_text (octets 4 start)) rest

-- how a line opens: form, kind, and the fields above
abbrev pub opened : KindName → Asked → List ℕ → List ℕ
opened k a rest = spaced (form_word a) (spaced (kind_word k) (headed a rest))

-- the line of a vector: the opening, octets, and the answer that it states
abbrev pub written : KindName → Asked → List ℕ → List ℕ → List ℕ
written k a os answer = opened k a (spaced (hex_text os) (hex_text answer))

abbrev pub line_of : Vector → List ℕ
line_of v = written v.kind v.asked (vec_items v.octets) (vec_items v.answer)

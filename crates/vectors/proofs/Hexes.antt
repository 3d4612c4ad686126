-- How far the reading of hexadecimal text has come.
use Rattle.std.proofs.Common.{◌≡◌, ℕ, ◌*◌, ◌<◌, Bool, true, false, ◌==◌, List, [], ◌∷◌, ◌++◌, length, MatchOption, sym, refl, ap, ◌∙◌, append_assoc, append-nil, arith, rules}
use Rattle.std.specs.Bool.{then_some}
use Rattle.std.proofs.lemmas.List.{flat_map_more, length-append, nil_from_length}
use Rattle.vectors.specs.Hex.{AreOctets, pair, hex_text}

-- the octets so far are written before what is left, and if the whole is the text of octets, so is what is left
pub record Reading (text done left : List ℕ) : Type 0 where
  pub so_far : text ≡ hex_text done ++ left
  pub on : (os : List ℕ) → text ≡ hex_text os → (ys : List ℕ) × (left ≡ hex_text ys)

pub whole : (text done left : List ℕ) → length left ≡ 0 → Reading text done left → text ≡ hex_text done
whole text done left e r =
    r.so_far ∙ ap (λ (l : List ℕ). hex_text done ++ l) (nil_from_length left e) ∙ append-nil (hex_text done)

-- what follows the first octet of a text of octets is one too
past_one : (o : ℕ) (rest ys : List ℕ) → pair o ++ rest ≡ hex_text ys → (zs : List ℕ) × (rest ≡ hex_text zs)
past_one o rest [] e = let z : ◌≡◌ {A = ℕ} 0 1 = cc in absurd (omega arith)
past_one o rest (y ∷ ys) e = (ys, cc)

pub one_more : (text done left : List ℕ) (o : ℕ) (rest : List ℕ) → left ≡ pair o ++ rest → Reading text done left
    → Reading text (done ++ (o ∷ [])) rest
one_more text done left o rest e r = record {
  so_far =
      r.so_far
      ∙ ap (λ (l : List ℕ). hex_text done ++ l) e
      ∙ sym (append_assoc (hex_text done) (pair o) rest)
      ∙ ap (λ (l : List ℕ). l ++ rest) (flat_map_more pair [] done o);
  on = λ os h. let ys = r.on os h in past_one o rest ys.0 (sym e ∙ ys.1);
}

-- what is left begins with no octet
no_octet : (text done left : List ℕ) → ((o : ℕ) (rest : List ℕ) → left ≡ pair o ++ rest → ⊥) → 0 < length left
    → Reading text done left → (os : List ℕ) → text ≡ hex_text os → ⊥
no_octet text done left none some r os h = let ys = r.on os h in refuted ys.0 ys.1
  where
    refuted : (ys : List ℕ) → left ≡ hex_text ys → ⊥
    refuted [] e = omega (arith, ap length e)
    refuted (y ∷ ys) e = none y (hex_text ys) e

-- the text is read to its end, or goes on with no octet
pub read_out : {A : Type 0} (items : A → List ℕ) (text : List ℕ) (v : A) (left : List ℕ) (b : Bool) → b ≡ (length left == 0)
    → ((o : ℕ) (rest : List ℕ) → left ≡ pair o ++ rest → ⊥) → Reading text (items v) left
    → MatchOption (then_some b v) ((os : List ℕ) → text ≡ hex_text os → ⊥) (λ w. text ≡ hex_text (items w))
read_out items text v left true e none r = whole text (items v) left (search rules) r
read_out items text v left false e none r = no_octet text (items v) left none (search rules) r

length_hex : (os : List ℕ) → length (hex_text os) ≡ 2 * length os
length_hex [] = refl
length_hex (o ∷ os) = omega (arith, length_hex os)

-- a text of octets writes as many as any other list of octets that it writes
pub as_many : (text os ys : List ℕ) → text ≡ hex_text os → text ≡ hex_text ys → length os ≡ length ys
as_many text os ys e h = omega (arith, length_hex os, length_hex ys, ap length e, ap length h)

-- a text of more octets than there are so far goes on with one
pub goes_on : (text done left : List ℕ) → ((o : ℕ) (rest : List ℕ) → left ≡ pair o ++ rest → ⊥) → Reading text done left
    → (os : List ℕ) → length done < length os → text ≡ hex_text os → ⊥
goes_on text done left none r os less h = let ys = r.on os h in refuted ys.0 ys.1
  where
    refuted : (ys : List ℕ) → left ≡ hex_text ys → ⊥
    refuted [] e =
        let many = as_many text done os (whole text done left (ap length e) r) h in
        absurd (omega arith)
    refuted (y ∷ ys) e = none y (hex_text ys) e

-- a text of as many octets as there are so far is read to its end
pub as_many_read : (n : ℕ) (text done left : List ℕ) (b : Bool) → b ≡ (length left == 0) → AreOctets n done → Reading text done left
    → MatchOption (then_some b done) ((os : List ℕ) → length os ≡ n → text ≡ hex_text os → ⊥) (λ w. (text ≡ hex_text w) × AreOctets n w)
as_many_read n text done left true e are r = (whole text done left (search rules) r, are)
as_many_read n text done left false e are r = λ os same h.
    let more : 0 < length left = search rules in
    absurd (omega (arith, length_hex os, length_hex done, ap length h, ap length r.so_far, length-append (hex_text done) left))

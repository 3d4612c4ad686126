-- What a composed frame is, octet by octet: it fits its number and no other, and gives its octet and its data back.
use Rattle.std.proofs.Common.{◌≡◌, ℕ, zero, suc, ◌^◌, ◌<◌, Bool, true, false, ◌&&◌, ltb, List, [], ◌∷◌, ◌++◌, length, refl, append_assoc, lit<, take_at}
use mathlib.Core.Bool.{beq}
use lib.Bits.{bit_or}
use lib.ListN.{length-replicate}
use lib.Seq.{get_or_at}
use Rattle.std.proofs.ByRecursion.{All-append, All-push}
use Rattle.std.proofs.lemmas.Bool.{false≢true, and_parts, ltb-true}
use Rattle.signature.specs.Kind.{Model, signature, fits_number}
use Rattle.signature.specs.Laws.{Laws, Octets}
use Rattle.signature.proofs.Given.{signed_fits, signature_octets, one_number}
use Rattle.machine.specs.declared.phase.Cause.{Cause}
use Rattle.machine.specs.declared.phase.Cause.TheVariants.{Start, Signature, Time, Told}
use Rattle.machine.specs.Frames.{has, flag, zeros, composed, data_of, octet_of}
use Rattle.machine.specs.DeviceEnd.{cause_bit}

module _ (m : Model) (crc n : ℕ) (v : List ℕ) (o : ℕ) where
  pub composed_fits : fits_number m crc n (composed m crc n v o) ≡ true
  composed_fits = signed_fits m crc n (v ++ (o ∷ []))

  pub composed_only : Laws m → crc < 2 ^ 16 → n < 2 ^ 24 → Octets v → o < 256 → (a : ℕ) → a < 2 ^ 24
      → fits_number m crc a (composed m crc n v o) ≡ true → a ≡ n
  composed_only laws hc hn ov oo a ha fa =
      one_number m laws crc a n (composed m crc n v o) hc ha hn
      (All-append (λ x. x < 256) (v ++ (o ∷ [])) _ (All-push (λ x. x < 256) v o ov oo) (signature_octets m crc n (v ++ (o ∷ []))))
      fa composed_fits

  pub composed_octet : (len : ℕ) → length v ≡ len → octet_of len (composed m crc n v o) ≡ o
  composed_octet len e = rw append_assoc (get_or_at v o (signature m crc n (v ++ (o ∷ []))) 0 len e)

  pub composed_data : (len : ℕ) → length v ≡ len → data_of len (composed m crc n v o) ≡ v
  composed_data len e = rw append_assoc (take_at v (o ∷ signature m crc n (v ++ (o ∷ []))) len e)

pub zeros_octets : (n : ℕ) → Octets (zeros n)
zeros_octets zero = tt
zeros_octets (suc n) = (lit< tt, zeros_octets n)

pub zeros_length : (n : ℕ) → length (zeros n) ≡ n
zeros_length n = length-replicate n 0

-- ---- a test that holds of every choice of bits

abbrev both : (Bool → Bool) → Bool
both P = P true && P false

both_all : (P : Bool → Bool) → both P ≡ true → (b : Bool) → P b ≡ true
both_all P h true = (and_parts (P true) (P false) h).0
both_all P h false = (and_parts (P true) (P false) h).1

four : (P : Bool → Bool → Bool → Bool → Bool) → both (λ a. both (λ b. both (λ c. both (λ d. P a b c d)))) ≡ true → (a b c d : Bool) → P a b c d ≡ true
four P h a b c d =
    both_all (λ d. P a b c d)
    (both_all (λ c. both (λ d. P a b c d)) (both_all (λ b. both (λ c. both (λ d. P a b c d))) (both_all (λ a. both (λ b. both (λ c. both (λ d. P a b c d)))) h a) b) c)
    d

beq_same : (a b : Bool) → beq a b ≡ true → a ≡ b
beq_same true true e = refl
beq_same true false e = absurd (false≢true e)
beq_same false true e = absurd (false≢true e)
beq_same false false e = refl

-- the octet x has 8 bits, of which bit 4 is fv and bit 6 is cons
pub record Bits (x : ℕ) (fv cons : Bool) : Type 0 where
  pub safe : has x 0x10 ≡ fv
  pub zero : has x 0x40 ≡ cons
  pub octet : x < 256

abbrev tested : ℕ → Bool → Bool → Bool
tested x fv cons = beq (has x 0x10) fv && (beq (has x 0x40) cons && ltb x 256)

bits_from : (x : ℕ) (fv cons : Bool) → tested x fv cons ≡ true → Bits x fv cons
bits_from x fv cons h =
    let a = and_parts (beq (has x 0x10) fv) (beq (has x 0x40) cons && ltb x 256) h in
    let b = and_parts (beq (has x 0x40) cons) (ltb x 256) a.1 in
    record { safe = beq_same (has x 0x10) fv a.0; zero = beq_same (has x 0x40) cons b.0; octet = ltb-true x 256 b.1 }

pub control_bits : (ack fv toggle : Bool) → Bits (bit_or (bit_or (flag ack 0x02) (flag fv 0x10)) (flag toggle 0x20)) fv false
control_bits ack fv toggle =
    bits_from _ fv false (four (λ a b c d. tested (bit_or (bit_or (flag a 0x02) (flag b 0x10)) (flag c 0x20)) b false) refl ack fv toggle true)

pub status_bits : (fault fv toggle cons : Bool) → Bits (bit_or (bit_or (bit_or (flag fault 0x02) (flag fv 0x10)) (flag toggle 0x20)) (flag cons 0x40)) fv cons
status_bits fault fv toggle cons =
    bits_from _ fv cons
    (four (λ a b c d. tested (bit_or (bit_or (bit_or (flag a 0x02) (flag b 0x10)) (flag c 0x20)) (flag d 0x40)) b d) refl fault fv toggle cons)

abbrev waiting_octet : Bool → ℕ → Bool → ℕ
waiting_octet fault bit toggle = bit_or (bit_or (bit_or (flag fault 0x02) bit) 0x10) (flag toggle 0x20)

pub waiting_bits : (fault : Bool) (cause : Cause) (toggle : Bool) → Bits (waiting_octet fault (cause_bit cause) toggle) true false
waiting_bits fault Start toggle = bits_from _ true false (four (λ a b c d. tested (waiting_octet a 0 b) true false) refl fault toggle true true)
waiting_bits fault Signature toggle = bits_from _ true false (four (λ a b c d. tested (waiting_octet a 0x04 b) true false) refl fault toggle true true)
waiting_bits fault Time toggle = bits_from _ true false (four (λ a b c d. tested (waiting_octet a 0x08 b) true false) refl fault toggle true true)
waiting_bits fault Told toggle = bits_from _ true false (four (λ a b c d. tested (waiting_octet a 0 b) true false) refl fault toggle true true)

-- What the laws give of any kind: registers stay in range, a frame fits one number at most, a signed frame fits.
use Rattle.std.proofs.Common.{◌≡◌, ℕ, zero, suc, ◌+◌, ◌-◌, ◌*◌, ◌/◌, ◌%◌, ◌^◌, ◌<◌, ◌≤◌, true, false, ◌&&◌, leb, List, [], ◌∷◌, ◌++◌, length, take, drop, sym, refl, ap, ◌∙◌, ap₂, ⊎_elim, pow-suc, arith, pow-add}
use Rattle.std.specs.Str.{bytes_eq}
use Rattle.std.proofs.lemmas.Slice.Eq.{bytes_eq-Decides}
use Rattle.std.proofs.ByRecursion.{All-take, All-push}
use Rattle.std.proofs.lemmas.List.{take_at, drop_at, length-append, length_push, same_from_push}
use Rattle.std.proofs.lemmas.Bool.{and_parts, and_left, leb-true, le-leb, lt-leb}
use Rattle.signature.specs.Kind.{Model, feed, octets, signed, signature, fits_number}
use Rattle.signature.specs.Laws.{Laws, Octets, registers}

pub length_octets : (n x : ℕ) → length (octets n x) ≡ n
unfolding octets
length_octets zero x = refl
length_octets (suc n) x =
    length_push (octets n (x / 256)) (x % 256) ∙ ap (λ (k : ℕ). k + 1) (length_octets n (x / 256)) ∙ omega arith

pub octets_are : (n x : ℕ) → Octets (octets n x)
unfolding octets
octets_are zero x = tt
octets_are (suc n) x = All-push (λ o. o < 256) (octets n (x / 256)) (x % 256) (octets_are n (x / 256)) (omega arith)

pub feed_append : (m : Model) (r : ℕ) (xs ys : List ℕ) → feed m r (xs ++ ys) ≡ feed m (feed m r xs) ys
feed_append m r [] ys = refl
feed_append m r (x ∷ xs) ys = feed_append m (m.step r x) xs ys

-- registers by the powers of 256
pub registers_are : (n : ℕ) → registers n ≡ 256 ^ n
registers_are zero = refl
registers_are (suc n) =
    ap (λ (k : ℕ). 2 ^ k) (omega arith) ∙ pow-add 2 (8 * n) 8 ∙ ap (λ (x : ℕ). x * 256) (registers_are n) ∙ sym (pow-suc 256 n)

-- octets tell their number
pub octets_inj : (n x y : ℕ) → x < registers n → y < registers n → octets n x ≡ octets n y → x ≡ y
unfolding octets
octets_inj zero x y hx hy e = omega arith
octets_inj (suc n) x y hx hy e =
    let parts = same_from_push (octets n (x / 256)) (octets n (y / 256)) (x % 256) (y % 256) e in
    let low : x % 256 ≡ y % 256 = parts.1 in
    let less : (z : ℕ) → z < registers (suc n) → z / 256 < registers n =
    λ z h. omega (arith, registers_are n, registers_are (suc n), pow-suc 256 n) in
    let high : x / 256 ≡ y / 256 = octets_inj n (x / 256) (y / 256) (less x hx) (less y hy) parts.0 in
    omega arith

pub signature_length : (m : Model) (crc n : ℕ) (os : List ℕ) → length (signature m crc n os) ≡ m.width
unfolding signature
signature_length m crc n os = length_octets m.width (signed m crc n os)

pub signature_octets : (m : Model) (crc n : ℕ) (os : List ℕ) → Octets (signature m crc n os)
unfolding signature
signature_octets m crc n os = octets_are m.width (signed m crc n os)

-- a frame that fits ends in its signature
pub fits_parts : (m : Model) (crc n : ℕ) (f : List ℕ) → fits_number m crc n f ≡ true
    → (m.width ≤ length f) × (drop (length f - m.width) f ≡ signature m crc n (take (length f - m.width) f))
unfolding fits_number
fits_parts m crc n f e =
    let last = drop (length f - m.width) f in
    let due = signature m crc n (take (length f - m.width) f) in
    let parts = and_parts (leb m.width (length f)) (bytes_eq last due) e in
    (leb-true m.width (length f) parts.0, (bytes_eq-Decides last due).0 parts.1)

-- a frame that is shorter than a signature fits no number
pub fits_short : (m : Model) (crc n : ℕ) (f : List ℕ) → length f < m.width → fits_number m crc n f ≡ false
unfolding fits_number
fits_short m crc n f h =
    and_left (leb m.width (length f)) (bytes_eq (drop (length f - m.width) f) (signature m crc n (take (length f - m.width) f)))
    (lt-leb m.width (length f) h)

-- a frame by its parts: whether it fits is whether the last one is the signature of the first
pub fits_append : (m : Model) (crc n : ℕ) (body last : List ℕ) → length last ≡ m.width
    → fits_number m crc n (body ++ last) ≡ bytes_eq last (signature m crc n body)
unfolding fits_number
fits_append m crc n body last wide =
    let f = body ++ last in
    let whole : length f ≡ length body + length last = length-append body last in
    let cut : length body ≡ length f - m.width = omega arith in
    let long : leb m.width (length f) ≡ true = le-leb m.width (length f) (omega arith) in
    ap₂ ◌&&◌ long
    (ap₂ (λ x y. bytes_eq x (signature m crc n y)) (drop_at body last (length f - m.width) cut) (take_at body last (length f - m.width) cut))

-- a frame that was signed under a number fits it
pub signed_fits : (m : Model) (crc n : ℕ) (os : List ℕ) → fits_number m crc n (os ++ signature m crc n os) ≡ true
signed_fits m crc n os =
    let s = signature m crc n os in
    fits_append m crc n os s (signature_length m crc n os) ∙ (bytes_eq-Decides s s).1 refl

module _ (m : Model) (laws : Laws m) where
  -- a check value is a register of every kind
  pub crc_register : (crc : ℕ) → crc < 2 ^ 16 → crc < registers m.width
  crc_register crc h = ⊎_elim (λ e. rw e (omega arith)) (λ e. rw e (omega arith)) laws.wide

  pub feed_closed : (r : ℕ) (os : List ℕ) → r < registers m.width → Octets os → feed m r os < registers m.width
  feed_closed r [] hr h = hr
  feed_closed r (o ∷ os) hr h = feed_closed (m.step r o) os (laws.closed r o hr h.0) h.1

  pub feed_apart : (r s : ℕ) (os : List ℕ) → r < registers m.width → s < registers m.width → Octets os
      → feed m r os ≡ feed m s os → r ≡ s
  feed_apart r s [] hr hs h e = e
  feed_apart r s (o ∷ os) hr hs h e =
      laws.apart r s o hr hs h.0
      (feed_apart (m.step r o) (m.step s o) os (laws.closed r o hr h.0) (laws.closed s o hs h.0) h.1 e)

  -- the register that signs, before the frame's own octets
  numbered : (crc n : ℕ) → crc < 2 ^ 16 → feed m crc (octets 3 n) < registers m.width
  numbered crc n h = feed_closed crc (octets 3 n) (crc_register crc h) (octets_are 3 n)

  pub signed_register : (crc n : ℕ) (os : List ℕ) → crc < 2 ^ 16 → Octets os → signed m crc n os < registers m.width
  signed_register crc n os h are = feed_closed (feed m crc (octets 3 n)) os (numbered crc n h) are

  -- no frame fits two numbers
  pub one_number : (crc a b : ℕ) (f : List ℕ) → crc < 2 ^ 16 → a < 2 ^ 24 → b < 2 ^ 24 → Octets f
      → fits_number m crc a f ≡ true → fits_number m crc b f ≡ true → a ≡ b
  unfolding signature
  one_number crc a b f h ha hb are ea eb =
      let body = take (length f - m.width) f in
      let those : Octets body = All-take (λ o. o < 256) (length f - m.width) f are in
      let same : octets m.width (signed m crc a body) ≡ octets m.width (signed m crc b body) =
      sym (fits_parts m crc a f ea).1 ∙ (fits_parts m crc b f eb).1 in
      let one : signed m crc a body ≡ signed m crc b body =
      octets_inj m.width (signed m crc a body) (signed m crc b body) (signed_register crc a body h those) (signed_register crc b body h those) same in
      laws.numbers crc a b (crc_register crc h) ha hb
      (feed_apart (feed m crc (octets 3 a)) (feed m crc (octets 3 b)) body (numbered crc a h) (numbered crc b h) those one)

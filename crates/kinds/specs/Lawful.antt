-- The bit rule keeps the laws, at each polynomial whose lowest bit is 1, and with it the three kinds.
use Rattle.std.specs.Prelude.{◌≡◌, ℕ, suc, ◌-◌, ◌*◌, ◌%◌, ◌^◌, ◌<◌, ◌≤◌, true, ◌⊎◌, List, length, take, drop, ◌≢◌, bit_xor, refl}
use Rattle.std.proofs.Math.Path.{sym, ap, ap₂}
use Rattle.std.proofs.Common.{◌∙◌, subst, inl, inr, ⊎_elim, arith, take-append-drop, length-drop}
use Rattle.std.specs.Int.Bits.{xor_self}
use Rattle.std.proofs.lemmas.Nat.{xor_lt}
use Rattle.std.proofs.ByRecursion.{All-take, All-drop}
use Rattle.signature.specs.Rule.{feed_bits}
use Rattle.signature.specs.Kind.{Model, feed, octets, signature, fits_number}
use Rattle.signature.specs.Laws.{Laws, Octets, Burst, registers}
use Rattle.signature.proofs.Given.{length_octets, octets_are, feed_append, fits_parts}
use Rattle.signature.proofs.Linear.{feed_xor, feed_lt}
use Rattle.signature.proofs.Kernel.{zeros, kernel, burst, own_bits}
use Rattle.signature.proofs.Xor.{xor_zero}
use Rattle.kinds.specs.Kinds.{ruled, s3, s4, c3}
use Rattle.kinds.specs.ValuesLemmas.{value, value_octets, value_below, bits_are_fed}
use Rattle.kinds.specs.Bursts.{changed}
use Rattle.kinds.specs.Steps.{rotates}
use Rattle.kinds.specs.Agreed.{agreed}

-- feeds that end equal differ by a feed of the differences that ends at 0
differ : (top p n r s x y : ℕ) → feed_bits top p r n x ≡ feed_bits top p s n y → feed_bits top p (bit_xor r s) n (bit_xor x y) ≡ 0
differ top p n r s x y e =
    feed_xor top p n r s x y ∙ ap (λ (z : ℕ). bit_xor z (feed_bits top p s n y)) e ∙ xor_self (feed_bits top p s n y)

module _ (w p : ℕ) (wide : (w ≡ 3) ⊎ (w ≡ 4)) (odd : p % 2 ≡ 1) (hp : p < registers w) where
  size : 8 * w ≡ suc (8 * w - 1)
  size = ⊎_elim (λ e. omega arith) (λ e. omega arith) wide

  -- a register, by the place of its top bit
  narrow : {r : ℕ} → r < registers w → r < 2 ^ suc (8 * w - 1)
  narrow {r} h = subst (λ (k : ℕ). r < 2 ^ k) size h

  same_octet : (r s o : ℕ) → r < registers w → s < registers w → feed_bits (8 * w - 1) p r 8 o ≡ feed_bits (8 * w - 1) p s 8 o → r ≡ s
  same_octet r s o hr hs e =
      let top : ℕ = 8 * w - 1 in
      xor_zero r s (zeros top p odd (narrow hp) 8 (bit_xor r s) (xor_lt (suc top) r s (narrow hr) (narrow hs))
      (ap (feed_bits top p (bit_xor r s) 8) (sym (xor_self o)) ∙ differ top p 8 r s o o e))

  fed_number : (r a : ℕ) → a < 2 ^ 24 → feed (ruled w p) r (octets 3 a) ≡ feed_bits (8 * w - 1) p r 24 a
  fed_number r a h =
      bits_are_fed (8 * w - 1) p r (octets 3 a) (octets_are 3 a)
      ∙ ap₂ (λ (k x : ℕ). feed_bits (8 * w - 1) p r (8 * k) x) (length_octets 3 a) (value_octets 3 a h)

  same_number : (r a b : ℕ) → a < 2 ^ 24 → b < 2 ^ 24 → feed_bits (8 * w - 1) p r 24 a ≡ feed_bits (8 * w - 1) p r 24 b → a ≡ b
  same_number r a b ha hb e =
      let top : ℕ = 8 * w - 1 in
      let room : 24 ≤ suc top = ⊎_elim (λ e. omega arith) (λ e. omega arith) wide in
      xor_zero a b (kernel top p odd 24 (bit_xor a b) room (xor_lt 24 a b ha hb)
      (ap (λ (x : ℕ). x % 2 ^ 24) (ap (λ (z : ℕ). feed_bits top p z 24 (bit_xor a b)) (sym (xor_self r)) ∙ differ top p 24 r r a b e)))

  fed_below : (r : ℕ) (os : List ℕ) → r < registers w → Octets os → feed (ruled w p) r os < registers w
  fed_below r os hr h =
      subst (λ (k : ℕ). feed (ruled w p) r os < 2 ^ k) (sym size)
      (subst (λ (x : ℕ). x < 2 ^ suc (8 * w - 1)) (sym (bits_are_fed (8 * w - 1) p r os h))
      (feed_lt (8 * w - 1) p (8 * length os) r (value os) (narrow hp) (narrow hr)))

  start_below : (crc n : ℕ) → crc < 2 ^ 16 → feed (ruled w p) crc (octets 3 n) < registers w
  start_below crc n h =
      fed_below crc (octets 3 n) (⊎_elim (λ e. rw e (omega arith)) (λ e. rw e (omega arith)) wide) (octets_are 3 n)

  -- a whole frame that fits, fed with its signature, leaves 0
  fits_zero : (crc n : ℕ) (f : List ℕ) → crc < 2 ^ 16 → Octets f → fits_number (ruled w p) crc n f ≡ true
      → feed_bits (8 * w - 1) p (feed (ruled w p) crc (octets 3 n)) (8 * length f) (value f) ≡ 0
  unfolding signature
  fits_zero crc n f h of e =
      let top : ℕ = 8 * w - 1 in
      let m : Model = ruled w p in
      let u : ℕ = feed m crc (octets 3 n) in
      let b : ℕ = length f - w in
      let s : ℕ = feed m u (take b f) in
      let parts = fits_parts m crc n f e in
      let long : w ≤ length f = parts.0 in
      let below : s < registers w = fed_below u (take b f) (start_below crc n h) (All-take (λ o. o < 256) b f of) in
      let sig : value (drop b f) ≡ s = ap value parts.1 ∙ value_octets w s below in
      let count : 8 * length (drop b f) ≡ suc top = ap (λ (k : ℕ). 8 * k) (length-drop b f ∙ omega arith) ∙ size in
      sym (bits_are_fed top p u f of)
      ∙ ap (feed m u) (sym (take-append-drop b f)) ∙ feed_append m u (take b f) (drop b f)
      ∙ bits_are_fed top p s (drop b f) (All-drop (λ o. o < 256) b f of)
      ∙ ap₂ (feed_bits top p s) count sig
      ∙ own_bits top p s (narrow below)

  no_burst : (crc n : ℕ) (f g : List ℕ) → crc < 2 ^ 16 → Octets f → Octets g → Burst (8 * w) f g
      → fits_number (ruled w p) crc n f ≡ true → fits_number (ruled w p) crc n g ≢ true
  no_burst crc n f g h of og burst' ef eg =
      let top : ℕ = 8 * w - 1 in
      let u : ℕ = feed (ruled w p) crc (octets 3 n) in
      let L : ℕ = 8 * length f in
      let c = changed (8 * w) f g of og burst' in
      let zf : feed_bits top p u L (value f) ≡ 0 = fits_zero crc n f h of ef in
      let zg : feed_bits top p u L (value g) ≡ 0 =
      ap (λ (k : ℕ). feed_bits top p u (8 * k) (value g)) (sym burst'.same_length) ∙ fits_zero crc n g h og eg in
      let d : feed_bits top p 0 L (c.pattern * 2 ^ c.after) ≡ 0 =
      ap₂ (λ (r x : ℕ). feed_bits top p r L x) (sym (xor_self u)) (sym c.change) ∙ differ top p L u u (value f) (value g) (zf ∙ sym zg) in
      let vg : value g < 2 ^ L = subst (λ (k : ℕ). value g < 2 ^ (8 * k)) burst'.same_length (value_below g og) in
      let inside : c.pattern * 2 ^ c.after < 2 ^ L = subst (λ (x : ℕ). x < 2 ^ L) c.change (xor_lt L (value f) (value g) (value_below f of) vg) in
      let none : c.pattern ≡ 0 = burst top p odd (narrow hp) L c.pattern c.after (narrow c.short) inside d in
      omega (arith, c.some)

  pub ruled_laws : Laws (ruled w p)
  ruled_laws = record {
    wide = wide;
    closed = λ r o hr ho. subst (λ (k : ℕ). feed_bits (8 * w - 1) p r 8 o < 2 ^ k) (sym size) (feed_lt (8 * w - 1) p 8 r o (narrow hp) (narrow hr));
    apart = λ r s o hr hs ho e. same_octet r s o hr hs e;
    numbers = λ r a b hr ha hb e. same_number r a b ha hb (sym (fed_number r a ha) ∙ e ∙ fed_number r b hb);
    bursts = λ crc n f g h hn of og c ef eg. no_burst crc n f g h of og c ef eg;
  }

pub s3_laws : Laws s3
s3_laws = ruled_laws 3 0x5D6DCB (inl refl) refl (omega arith)

pub s4_laws : Laws s4
s4_laws = ruled_laws 4 0xF4ACFB13 (inr refl) refl (omega arith)

pub c3_laws : Laws c3
c3_laws = agreed (ruled 3 1) (ruled_laws 3 1 (inl refl) refl (omega arith)) c3.step (λ r o hr ho. rotates r o ho)

-- The laws pass to a step that agrees at registers and octets.
use Rattle.std.specs.Prelude.{◌≡◌, ℕ, ◌-◌, ◌^◌, ◌<◌, ◌&&◌, List, [], ◌∷◌, length, take, drop, fold, nat_le, refl}
use Rattle.std.proofs.Common.{sym, ◌∙◌, subst}
use Rattle.std.proofs.Math.Path.{ap}
use Rattle.std.specs.Str.{bytes_eq}
use Rattle.std.proofs.ByRecursion.{All-take}
use Rattle.signature.specs.Kind.{Model, feed, octets, signature, fits_number}
use Rattle.signature.specs.Laws.{Laws, Octets, registers}
use Rattle.signature.proofs.Given.{crc_register, octets_are}

module _ (m : Model) (laws : Laws m) (f : ℕ → ℕ → ℕ) (agree : (r o : ℕ) → r < registers m.width → o < 256 → f r o ≡ m.step r o) where
  feeds : (r : ℕ) (os : List ℕ) → r < registers m.width → Octets os
      → (fold f r os ≡ feed m r os) × (feed m r os < registers m.width)
  feeds r [] hr h = (refl, hr)
  feeds r (o ∷ os) hr h =
      let next = feeds (m.step r o) os (laws.closed r o hr h.0) h.1 in
      (ap (λ (x : ℕ). fold f x os) (agree r o hr h.0) ∙ next.0, next.1)

  same_fits : (crc n : ℕ) (s : List ℕ) → crc < 2 ^ 16 → Octets s → fits_number (record { width = m.width; step = f }) crc n s ≡ fits_number m crc n s
  unfolding fits_number signature
  same_fits crc n s h os =
      let b : ℕ = length s - m.width in
      let first = feeds crc (octets 3 n) (crc_register m laws crc h) (octets_are 3 n) in
      ap (λ (x : ℕ). nat_le m.width (length s) && bytes_eq (drop b s) (octets m.width x))
      (ap (λ (x : ℕ). fold f x (take b s)) first.0 ∙ (feeds (feed m crc (octets 3 n)) (take b s) first.1 (All-take (λ o. o < 256) b s os)).0)

  pub agreed : Laws (record { width = m.width; step = f })
  agreed = record {
    wide = laws.wide;
    closed = λ r o hr ho. subst (λ (x : ℕ). x < registers m.width) (sym (agree r o hr ho)) (laws.closed r o hr ho);
    apart = λ r s o hr hs ho e. laws.apart r s o hr hs ho (sym (agree r o hr ho) ∙ e ∙ agree s o hs ho);
    numbers = λ r a b hr ha hb e.
        laws.numbers r a b hr ha hb (sym (feeds r (octets 3 a) hr (octets_are 3 a)).0 ∙ e ∙ (feeds r (octets 3 b) hr (octets_are 3 b)).0);
    bursts = λ crc n s t h hn os ot c es et.
        laws.bursts crc n s t h hn os ot c (sym (same_fits crc n s h os) ∙ es) (sym (same_fits crc n t h ot) ∙ et);
  }

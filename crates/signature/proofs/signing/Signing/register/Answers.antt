-- The start, fed the number's octets and then the frame's.
use Rattle.std.proofs.Common.{◌≡◌, ℕ, List, sym, ap, ◌∙◌, arith}
use Rattle.signature.specs.Kind.{feed, octets, signature, signed}
use Rattle.signature.specs.Numbers.{numeral}
use Rattle.signature.proofs.Octets.{octets_numeral}
use Rattle.signature.proofs.signing.Signing.register.Goals as goal

pub returns : goal.returns
unfolding signature
returns g c =
    let m = g.K.SignatureKind.model in
    let n = c.args.self.number in
    let three = octets_numeral n (omega arith) (omega arith) (omega arith) in
    let numbered : c.register_after-numbered.result ≡ feed m c.args.self.crc (octets 3 (numeral n)) =
    c.register_after-numbered.ensures ∙ ap (λ (r : ℕ). m.step (m.step (m.step r n.high) n.middle) n.low) c.start.ensures
    ∙ ap (λ (os : List ℕ). feed m c.args.self.crc os) (sym three) in
    let all : c.register_after.result ≡ signed m c.args.self.crc (numeral n) c.args.body.now =
    c.register_after.ensures ∙ ap (λ (r : ℕ). feed m r c.args.body.now) numbered in
    record { register = all; signature = ap (octets m.width) all }

-- The octets of a register, as the divisions by 256 and its powers give them.
use Rattle.std.proofs.Common.{◌≡◌, ℕ, ◌-◌, List, [], ◌∷◌, get_or, take, drop, replicate, sym, refl, ap, ◌∙◌, subst, arith}
use Rattle.signature.specs.Kind.{octets}
use Rattle.signature.proofs.Octets.{octets_three, octets_four}
use Rattle.signature.proofs.kind.lowest_octets.Goals as goal

-- what holds at a count n holds at a count that equals it
moved : (n k x : ℕ) (os : List ℕ) → n ≡ k → take n os ≡ octets n x → drop n os ≡ replicate (4 - n) 0
    → (take k os ≡ octets k x) × (drop k os ≡ replicate (4 - k) 0)
moved n k x os e front rest =
    (subst (λ (i : ℕ). take i os ≡ octets i x) e front, subst (λ (i : ℕ). drop i os ≡ replicate (4 - i) 0) e rest)

pub returns-then-count-eq3 : goal.returns-then-count-eq3
returns-then-count-eq3 c =
    let os : List ℕ = c.to_be_bytes.result in
    let three : 3 ≡ c.args.count = omega arith in
    let front : get_or os 1 0 ∷ get_or os 2 0 ∷ get_or os 3 0 ∷ [] ≡ octets 3 c.args.register =
    ap (λ (xs : List ℕ). get_or xs 1 0 ∷ get_or xs 2 0 ∷ get_or xs 3 0 ∷ []) c.to_be_bytes.ensures ∙ sym (octets_three c.args.register) in
    let both = moved 3 c.args.count c.args.register (get_or os 1 0 ∷ get_or os 2 0 ∷ get_or os 3 0 ∷ 0 ∷ []) three front refl in
    record { octets = both.0; rest = both.1 }

pub returns-else-count-eq3 : goal.returns-else-count-eq3
returns-else-count-eq3 c =
    let os : List ℕ = c.to_be_bytes.result in
    let four : 4 ≡ c.args.count = omega arith in
    let front : get_or os 0 0 ∷ get_or os 1 0 ∷ get_or os 2 0 ∷ get_or os 3 0 ∷ [] ≡ octets 4 c.args.register =
    ap (λ (xs : List ℕ). get_or xs 0 0 ∷ get_or xs 1 0 ∷ get_or xs 2 0 ∷ get_or xs 3 0 ∷ []) c.to_be_bytes.ensures
    ∙ sym (octets_four c.args.register) in
    let both = moved 4 c.args.count c.args.register (get_or os 0 0 ∷ get_or os 1 0 ∷ get_or os 2 0 ∷ get_or os 3 0 ∷ []) four front refl in
    record { octets = both.0; rest = both.1 }

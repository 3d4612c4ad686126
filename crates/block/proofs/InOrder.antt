-- The first condition of a numbered list that fails decides.
use Rattle.std.proofs.Common.{◌≡◌, ℕ, zero, suc, ◌+◌, ◌-◌, ◌<◌, Bool, true, false, List, [], ◌∷◌, map, get_or, Ok, Err, Result, sym, refl, ◌∙◌, subst, le_of_suc-le-suc, not-suc-le-zero, add-zero, arith}
use Rattle.std.proofs.lemmas.Bool.{cond_both}
use Rattle.refusal.specs.declared.reason.Reason.{Reason}
use Rattle.refusal.specs.declared.refused.Refusal.{Refusal}
use Rattle.refusal.specs.Reasons.{number_of}
use Rattle.refusal.specs.Refusals.{refusal_at}
use Rattle.block.specs.declared.setup.Setup.{Setup}
use Rattle.block.specs.Checks.{conditions, checked, verdict, wrong_flag, setup_of}
use Rattle.block.specs.Order.{Lowest, ChecksInOrder}

at : List (Reason × Bool) → ℕ → Bool
at cs k = get_or (map (λ c. c.1) cs) k true

-- the reasons of a list are numbered from i on
Numbered : ℕ → List (Reason × Bool) → Type 0
Numbered i [] = Unit {0}
Numbered i (c ∷ cs) = (number_of c.0 ≡ i) × Numbered (suc i) cs

-- what an answer says of a list whose reasons are numbered from i on
First : ℕ → List (Reason × Bool) → Result Setup Refusal → Type 0
First i cs (Ok s) = (k : ℕ) → at cs k ≡ true
First i cs (Err x) = (k : ℕ) × (number_of x.reason ≡ i + k) × (at cs k ≡ false) × ((j : ℕ) → j < k → at cs j ≡ true)

-- one condition more in front, that holds
front : (c : Reason × Bool) (cs : List (Reason × Bool)) (k : ℕ) → c.1 ≡ true → ((j : ℕ) → j < k → at cs j ≡ true)
    → (j : ℕ) → j < suc k → at (c ∷ cs) j ≡ true
unfolding at
front c cs k e h zero l = e
front c cs k e h (suc j) l = h j (le_of_suc-le-suc l)

later : (i : ℕ) (c : Reason × Bool) (cs : List (Reason × Bool)) (r : Result Setup Refusal) → c.1 ≡ true
    → First (suc i) cs r → First i (c ∷ cs) r
unfolding First at
later i c cs (Ok s) e h = λ k. front c cs k e (λ j l. h j) k (omega arith)
later i c cs (Err x) e h = (suc h.0, h.1 ∙ omega arith, h.2, front c cs h.0 e h.3)

first : (cs : List (Reason × Bool)) (i : ℕ) → Numbered i cs → (found : ℕ) (s : Setup) → First i cs (verdict cs found s)
unfolding First Numbered at
first [] i n found s = λ k. refl
first (c ∷ cs) i n found s =
    cond_both c.1 (verdict cs found s) (Err (refusal_at c.0 found)) (First i (c ∷ cs))
    (λ e. later i c cs (verdict cs found s) e (first cs (suc i) n.1 found s))
    (λ e. (0, n.0 ∙ sym (add-zero i), e, λ j l. absurd (not-suc-le-zero l)))

-- conditions numbered from 1
lowest : (cs : List (Reason × Bool)) (r : Result Setup Refusal) → First 1 cs r → Lowest cs r
unfolding First at
lowest cs (Ok s) h = λ n p. h (n - 1)
lowest cs (Err x) h =
    let number : number_of x.reason ≡ 1 + h.0 = h.1 in
    let place : h.0 ≡ number_of x.reason - 1 = omega arith in
    (subst (λ (k : ℕ). at cs k ≡ false) place h.2, λ n p l. h.3 (n - 1) (omega arith))

pub in_order : ChecksInOrder
unfolding Numbered
in_order width limit o own =
    let cs = conditions width limit o own in
    let numbered : Numbered 1 cs = (refl, (refl, (refl, (refl, (refl, (refl, (refl, (refl, (refl, tt))))))))) in
    lowest cs (checked width limit o own) (first cs 1 numbered (wrong_flag o) (setup_of o own))

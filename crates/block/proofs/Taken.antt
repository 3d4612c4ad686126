-- What an accepted block has: the setup that it says, a watch time, and a check value of 16 bits.
use Rattle.std.proofs.Common.{◌≡◌, ℕ, ◌^◌, ◌<◌, Bool, true, List, [], ◌∷◌, take, Ok, Err, fold, Result, sym, subst, arith}
use Rattle.std.proofs.lemmas.Bool.{cond_both, ltb-true, eqb-true}
use Rattle.refusal.specs.declared.reason.Reason.{Reason}
use Rattle.refusal.specs.declared.refused.Refusal.{Refusal}
use Rattle.refusal.specs.Refusals.{refusal_at}
use Rattle.signature.proofs.Linear.{feed_lt}
use Rattle.block.specs.declared.setup.Own.{Own}
use Rattle.block.specs.declared.setup.Setup.{Setup}
use Rattle.block.specs.ParCrc.{par_crc, par_step}
use Rattle.block.specs.Fields.{watch_time, check_value}
use Rattle.block.specs.Checks.{conditions, checked, verdict, wrong_flag, setup_of}
use Rattle.block.specs.Order.{Lowest, holds}
use Rattle.block.proofs.InOrder.{in_order}

same_setup : (cs : List (Reason × Bool)) (found : ℕ) (s t : Setup) → verdict cs found s ≡ Ok t → s ≡ t
same_setup [] found s t e = cc
same_setup (c ∷ cs) found s t e =
    cond_both c.1 (verdict cs found s) (Err (refusal_at c.0 found)) (λ (r : Result Setup Refusal). r ≡ Ok t → s ≡ t)
    (λ _ h. same_setup cs found s t h)
    (λ _ h. let z : ◌≡◌ {A = ℕ} 0 1 = cc in absurd (omega arith))
    e

pub crc_lt : (os : List ℕ) (r : ℕ) → r < 2 ^ 16 → fold par_step r os < 2 ^ 16
crc_lt [] r h = h
crc_lt (o ∷ os) r h = crc_lt os (par_step r o) (feed_lt 15 0x4EAB 8 r o (omega arith) h)

-- the setup is the one that the octets say
pub setup_said : (width limit : ℕ) (o : List ℕ) (own : Own) (s : Setup) → checked width limit o own ≡ Ok s → s ≡ setup_of o own
setup_said width limit o own s e = sym (same_setup (conditions width limit o own) (wrong_flag o) (setup_of o own) s e)

pub setup_good : (width limit : ℕ) (o : List ℕ) (own : Own) (s : Setup) → checked width limit o own ≡ Ok s → (0 < s.watch) × (s.crc < 2 ^ 16)
setup_good width limit o own s e =
    let said = setup_said width limit o own s e in
    let all : (n : ℕ) → 0 < n → holds (conditions width limit o own) n ≡ true = subst (λ (r : Result Setup Refusal). Lowest (conditions width limit o own) r) e (in_order width limit o own) in
    let watched : 0 < watch_time o = ltb-true 0 (watch_time o) (all 7 (omega arith)) in
    let signed : check_value o ≡ par_crc (take 8 o) = eqb-true (check_value o) (par_crc (take 8 o)) (all 2 (omega arith)) in
    let small : check_value o < 2 ^ 16 = subst (λ (x : ℕ). x < 2 ^ 16) (sym signed) (crc_lt (take 8 o) 0 (omega arith)) in
    subst (λ (t : Setup). (0 < t.watch) × (t.crc < 2 ^ 16)) (sym said) (watched, small)

-- The number of the i-th frame since a start: 0, then 1 to FFFFFFh over and over.
use Rattle.std.proofs.Common.{◌≡◌, ℕ, ◌+◌, ◌-◌, ◌%◌, ◌^◌, ◌<◌, ◌≤◌, min, ltb, refl, arith}
use Rattle.std.proofs.lemmas.Bool.{ltb-true, ltb-false, cond_both}
use Rattle.signature.specs.Numbers.{following}

pub num : ℕ → ℕ
num i = min i ((i - 1) % 16777215 + 1)

pub num_zero : num 0 ≡ 0
unfolding num
num_zero = refl

pub num_one : num 1 ≡ 1
unfolding num
num_one = refl

pub num_small : (i : ℕ) → num i < 2 ^ 24
unfolding num
num_small i = omega arith

pub num_none : (i : ℕ) → num i ≡ 0 → i ≡ 0
unfolding num
num_none i e = omega arith

-- numbers less than a cycle apart differ
pub num_apart : (i j : ℕ) → i ≤ j → j < i + 16777215 → num i ≡ num j → i ≡ j
unfolding num
num_apart i j a b e = omega arith

pub num_next : (i : ℕ) → following (num i) ≡ num (i + 1)
unfolding num
num_next i =
    cond_both (ltb (num i) 0xffffff) (num i + 1) 1 (λ x. x ≡ num (i + 1))
    (λ e. omega (arith, ltb-true (num i) 0xffffff e)) (λ e. omega (arith, ltb-false (num i) 0xffffff e))

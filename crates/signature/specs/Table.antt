-- The test that a table follows the bit rule: each entry is what the bits of its place make of the register 0.
use Rattle.std.specs.Prelude.{ℕ, zero, suc, ◌*◌, ◌/◌, ◌%◌, ◌^◌, Bool, true, cond, ◌&&◌, List, [], ◌∷◌, ◌==◌, bit_xor}

-- the n lowest bits of x fed to the register 0, by the bit rule, in a form that the check of a table computes
abbrev pub computed : ℕ → ℕ → ℕ → ℕ → ℕ
computed top p zero x = 0
computed top p (suc n) x =
    let r = computed top p n (x / 2) in
    cond (bit_xor (r / 2 ^ top % 2) (x % 2) == 1) (bit_xor (r * 2 % 2 ^ suc top) p) (r * 2 % 2 ^ suc top)

-- whether each entry, counted from i, is what f gives for its place
abbrev pub every : (ℕ → ℕ) → ℕ → List ℕ → Bool
every f i [] = true
every f i (x ∷ xs) = x == f i && every f (suc i) xs

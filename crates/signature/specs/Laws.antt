-- The laws that every signature kind keeps.
use Rattle.std.specs.Prelude.{◌≡◌, ℕ, ◌+◌, ◌-◌, ◌*◌, ◌/◌, ◌%◌, ◌^◌, ◌<◌, ◌≤◌, true, ◌⊎◌, List, length, ◌≢◌, slice_index}
use Rattle.std.specs.List.{AllByRecursion}
use Rattle.signature.specs.Kind.{Model, feed, octets, fits_number}

abbrev pub Octets : List ℕ → Type 0
Octets os = AllByRecursion (λ o. o < 256) os

-- how many registers of n octets there are
abbrev pub registers : ℕ → ℕ
registers n = 2 ^ (8 * n)

-- the bit at place i, from 0: octets in order, the highest bit of each first
abbrev pub bit_at : List ℕ → ℕ → ℕ
bit_at f i = slice_index f (i / 8) / 2 ^ (7 - i % 8) % 2

-- g is f after a change whose first and last changed bit span at most n bits
pub record Burst (n : ℕ) (f g : List ℕ) : Type 0 where
  pub same_length : length g ≡ length f
  pub first : ℕ
  pub last : ℕ
  pub ordered : first ≤ last
  pub within : last < 8 * length f
  pub starts : bit_at g first ≡ bit_at f first → ⊥
  pub ends : bit_at g last ≡ bit_at f last → ⊥
  pub before : (i : ℕ) → i < first → bit_at g i ≡ bit_at f i
  pub after : (i : ℕ) → last < i → bit_at g i ≡ bit_at f i
  pub short : last + 1 ≤ first + n

pub record Laws (m : Model) : Type 0 where
  pub wide : (m.width ≡ 3) ⊎ (m.width ≡ 4)
  -- registers stay within the width
  pub closed : (r o : ℕ) → r < registers m.width → o < 256 → m.step r o < registers m.width
  -- different registers stay different when fed the same octet
  pub apart : (r s o : ℕ) → r < registers m.width → s < registers m.width → o < 256 → m.step r o ≡ m.step s o → r ≡ s
  -- different numbers fed to one register leave different registers
  pub numbers : (r a b : ℕ) → r < registers m.width → a < 2 ^ 24 → b < 2 ^ 24
      → feed m r (octets 3 a) ≡ feed m r (octets 3 b) → a ≡ b
  -- a frame that fits a number does not fit it after a burst no longer than the signature
  pub bursts : (crc n : ℕ) (f g : List ℕ) → crc < 2 ^ 16 → n < 2 ^ 24 → Octets f → Octets g
      → Burst (8 * m.width) f g → fits_number m crc n f ≡ true → fits_number m crc n g ≢ true

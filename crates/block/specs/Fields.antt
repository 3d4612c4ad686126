-- The fields of a parameter block of ten octets, and what the bits of its two flag octets mean.
use Rattle.std.specs.Prelude.{ℕ, ◌+◌, ◌*◌, ◌/◌, ◌%◌, Bool, cond, ◌&&◌, List, ◌==◌, slice_index}

-- F_Prm_Flag1 and F_Prm_Flag2
abbrev pub flag1 : List ℕ → ℕ
flag1 o = slice_index o 0

abbrev pub flag2 : List ℕ → ℕ
flag2 o = slice_index o 1

-- a field of two octets, the higher first
abbrev pub field : List ℕ → ℕ → ℕ
field o at = slice_index o at * 256 + slice_index o (at + 1)

-- F_Source_Add, F_Dest_Add, F_WD_Time and F_Par_CRC
abbrev pub source : List ℕ → ℕ
source o = field o 2

abbrev pub destination : List ℕ → ℕ
destination o = field o 4

abbrev pub watch_time : List ℕ → ℕ
watch_time o = field o 6

abbrev pub check_value : List ℕ → ℕ
check_value o = field o 8

-- In F_Prm_Flag1, F_Check_iPar (bit 1) and the reserved bits 7 and 6 are 0. F_Check_SeqNr (bit 0) is not read.
abbrev pub good_flag1 : ℕ → Bool
good_flag1 f = f / 2 % 2 == 0 && f / 64 == 0

-- In F_Prm_Flag2, the reserved bits 2 to 0 are 0, F_Block_ID (bits 5 to 3) is 0 and F_Par_Version (bits 7 and 6) is 1.
abbrev pub good_flag2 : ℕ → Bool
good_flag2 f = f % 8 == 0 && (f / 8 % 8 == 0 && f / 64 == 1)

-- F_SIL, bits 3 and 2 of F_Prm_Flag1, as a rank: 1, 2, 3, and 0 for none
abbrev pub rank_of : ℕ → ℕ
rank_of f = cond (f / 4 % 4 == 0) 1 (cond (f / 4 % 4 == 1) 2 (cond (f / 4 % 4 == 2) 3 0))

-- F_CRC_Length, bits 5 and 4 of F_Prm_Flag1, as octets of a signature: three, two, four, and 0 for none
abbrev pub width_of : ℕ → ℕ
width_of f = cond (f / 16 % 4 == 0) 3 (cond (f / 16 % 4 == 1) 2 (cond (f / 16 % 4 == 2) 4 0))

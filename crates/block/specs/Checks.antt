-- What a parameter block must meet before it can start an end, and what checking it answers.
use Rattle.std.specs.Prelude.{ℕ, Bool, cond, not, ◌&&◌, ◌||◌, List, [], ◌∷◌, length, take, Ok, Err, Result, ◌==◌, nat_le, nat_lt}
use Rattle.refusal.specs.declared.reason.Reason.{Reason}
use Rattle.refusal.specs.declared.reason.Reason.TheVariants.{BlockLength, BlockSignature, BlockFlags, SourceAddress, DestinationAddress, OtherDestination, NoWatchTime, SilRank, WidthOrLimit}
use Rattle.refusal.specs.declared.refused.Refusal.{Refusal}
use Rattle.refusal.specs.Refusals.{refusal_at}
use Rattle.block.specs.declared.setup.Own.{Own}
use Rattle.block.specs.declared.setup.Setup.{Setup}
use Rattle.block.specs.ParCrc.{par_crc}
use Rattle.block.specs.Fields.{flag1, flag2, source, destination, watch_time, check_value, good_flag1, good_flag2, rank_of, width_of}

abbrev pub is_address : ℕ → Bool
is_address a = not (a == 0 || a == 0xffff)

-- The nine conditions in the order of the checks, each with the reason for a refusal where it fails. The signature
-- kind gives width and limit, `own` is what the end is: its address and SIL rank, and the data octets out and in.
abbrev pub conditions : ℕ → ℕ → List ℕ → Own → List (Reason × Bool)
conditions width limit o own =
    (BlockLength, (length o == 10))
    ∷ (BlockSignature, (check_value o == par_crc (take 8 o)))
    ∷ (BlockFlags, good_flag1 (flag1 o) && good_flag2 (flag2 o))
    ∷ (SourceAddress, is_address (source o))
    ∷ (DestinationAddress, is_address (destination o))
    ∷ (OtherDestination, (destination o == own.address))
    ∷ (NoWatchTime, nat_lt 0 (watch_time o))
    ∷ (SilRank, nat_le (rank_of (flag1 o)) own.rank)
    ∷ (WidthOrLimit, (width_of (flag1 o) == width) && (nat_le own.out_len limit && nat_le own.in_len limit))
    ∷ []

-- the first wrong flag octet
abbrev pub wrong_flag : List ℕ → ℕ
wrong_flag o = cond (good_flag1 (flag1 o)) 1 0

-- what an end takes from an accepted block
abbrev pub setup_of : List ℕ → Own → Setup
setup_of o own = record { crc = check_value o; watch = watch_time o; out_len = own.out_len; in_len = own.in_len }

-- the first condition that fails decides
abbrev pub verdict : List (Reason × Bool) → ℕ → Setup → Result Setup Refusal
verdict [] found s = Ok s
verdict (c ∷ cs) found s = cond c.1 (verdict cs found s) (Err (refusal_at c.0 found))

abbrev pub checked : ℕ → ℕ → List ℕ → Own → Result Setup Refusal
checked width limit o own = verdict (conditions width limit o own) (wrong_flag o) (setup_of o own)

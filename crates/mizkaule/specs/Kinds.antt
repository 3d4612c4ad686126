-- What is judged, signed and fitted under it.
use Rattle.std.specs.Prelude.{ℕ, ◌^◌, Bool, cond, List, [], Ok, Err, Result, nat_lt}
use Rattle.refusal.specs.declared.reason.Reason.TheVariants.{BufferLength}
use Rattle.refusal.specs.declared.refused.Refusal.{Refusal}
use Rattle.refusal.specs.Refusals.{refusal_at}
use Rattle.signature.specs.Kind.{Model, signature, fits_number}
use Rattle.kinds.specs.Kinds.{s3, s4, c3}
use Rattle.kinds.specs.Names.{by_kind}
use Rattle.block.specs.declared.setup.Own.{Own}
use Rattle.block.specs.declared.setup.Setup.{Setup}
use Rattle.block.specs.Checks.{checked}
use Rattle.mizkaule.specs.declared.answer.Failure.TheVariants.{TurnedDown, NoSuch}
use Rattle.mizkaule.specs.Answers.{Verdict}

-- ---- a block

abbrev pub judged_so : Result Setup Refusal → Verdict
judged_so (Ok s) = Ok 0
judged_so (Err e) = Err (TurnedDown e 0)

abbrev pub judged : ℕ → ℕ → List ℕ → Own → Verdict
judged width limit block own = judged_so (checked width limit block own)

abbrev pub judged_by : ℕ → List ℕ → Own → Verdict
judged_by kind block own =
    by_kind kind (judged 3 12 block own) (judged 4 123 block own) (judged 3 12 block own) (Err NoSuch)

-- ---- a signature

-- a number has 24 bits
abbrev pub is_number : ℕ → Bool
is_number n = nat_lt n (2 ^ 24)

-- a signature written to a buffer of `room` octets
abbrev pub signs : Model → ℕ → ℕ → Verdict
signs m n room =
    cond (is_number n) (cond (nat_lt room m.width) (Err (TurnedDown (refusal_at BufferLength 0) m.width)) (Ok m.width)) (Err NoSuch)

abbrev pub signs_octets : Model → ℕ → ℕ → List ℕ → ℕ → List ℕ
signs_octets m crc n octets room = cond (is_number n) (cond (nat_lt room m.width) [] (signature m crc n octets)) []

abbrev pub signs_by : ℕ → ℕ → ℕ → Verdict
signs_by kind n room = by_kind kind (signs s3 n room) (signs s4 n room) (signs c3 n room) (Err NoSuch)

abbrev pub signs_octets_by : ℕ → ℕ → ℕ → List ℕ → ℕ → List ℕ
signs_octets_by kind crc n octets room =
    by_kind kind (signs_octets s3 crc n octets room) (signs_octets s4 crc n octets room) (signs_octets c3 crc n octets room) []

-- ---- a frame that fits: 1, or 0 if it does not

abbrev pub fitted : Model → ℕ → ℕ → List ℕ → Verdict
fitted m crc n frame = cond (is_number n) (Ok (cond (fits_number m crc n frame) 1 0)) (Err NoSuch)

abbrev pub fitted_by : ℕ → ℕ → ℕ → List ℕ → Verdict
fitted_by kind crc n frame = by_kind kind (fitted s3 crc n frame) (fitted s4 crc n frame) (fitted c3 crc n frame) (Err NoSuch)

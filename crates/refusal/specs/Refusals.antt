-- The place of a refusal, and the refusal that a reason gives.
use Rattle.std.specs.Prelude.{ℕ, List, ◌++◌, codes, decimal}
use Rattle.refusal.specs.declared.reason.Reason.{Reason}
use Rattle.refusal.specs.declared.reason.Reason.TheVariants.{BlockLength, BlockSignature, BlockFlags, SourceAddress, DestinationAddress, OtherDestination, NoWatchTime, SilRank, WidthOrLimit, FrameLength, ValuesLength, InputRange, BufferLength, NoPressAwaited, BookHead, RecordLength, RecordKind, RecordOrder}
use Rattle.refusal.specs.declared.refused.Refusal.{Refusal}
use Rattle.refusal.specs.Reasons.{number_of, layer_of, layer_name, text_of}

-- In a block the place is the first octet of the field that is wrong: of the flags, the first wrong flag octet,
-- which the check finds. In a book it is the octet where the record begins, which the reader or writer finds.
-- Where nothing but the whole can be wrong it is 0.
abbrev pub place_of : Reason → ℕ → ℕ
place_of BlockLength found = 0
place_of BlockSignature found = 8
place_of BlockFlags found = found
place_of SourceAddress found = 2
place_of DestinationAddress found = 4
place_of OtherDestination found = 4
place_of NoWatchTime found = 6
place_of SilRank found = 0
place_of WidthOrLimit found = 0
place_of FrameLength found = 0
place_of ValuesLength found = 0
place_of InputRange found = 0
place_of BufferLength found = 0
place_of NoPressAwaited found = 0
place_of BookHead found = 0
place_of RecordLength found = found
place_of RecordKind found = found
place_of RecordOrder found = found

abbrev pub refusal_at : Reason → ℕ → Refusal
refusal_at e found = record { reason = e; place = place_of e found }

-- the line for people
abbrev pub refusal_text : Refusal → List ℕ
refusal_text x =
    layer_name (layer_of x.reason) ++ (codes " refusal " ++ (decimal (number_of x.reason) ++ (codes " at octet " ++ (decimal x.place ++ (codes ": " ++ text_of x.reason)))))

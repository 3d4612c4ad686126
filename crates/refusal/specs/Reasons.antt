-- The eighteen reasons for a refusal: the number, the layer and the text of each.
use Rattle.std.specs.Prelude.{◌≡◌, ℕ, List, codes}
use Rattle.refusal.specs.declared.reason.Layer.{Layer}
use Rattle.refusal.specs.declared.reason.Layer.TheVariants.{Block, End, Book}
use Rattle.refusal.specs.declared.reason.Reason.{Reason}
use Rattle.refusal.specs.declared.reason.Reason.TheVariants.{BlockLength, BlockSignature, BlockFlags, SourceAddress, DestinationAddress, OtherDestination, NoWatchTime, SilRank, WidthOrLimit, FrameLength, ValuesLength, InputRange, BufferLength, NoPressAwaited, BookHead, RecordLength, RecordKind, RecordOrder}

abbrev pub number_of : Reason → ℕ
number_of BlockLength = 1
number_of BlockSignature = 2
number_of BlockFlags = 3
number_of SourceAddress = 4
number_of DestinationAddress = 5
number_of OtherDestination = 6
number_of NoWatchTime = 7
number_of SilRank = 8
number_of WidthOrLimit = 9
number_of FrameLength = 10
number_of ValuesLength = 11
number_of InputRange = 12
number_of BufferLength = 13
number_of NoPressAwaited = 14
number_of BookHead = 15
number_of RecordLength = 16
number_of RecordKind = 17
number_of RecordOrder = 18

-- no two reasons have one number
abbrev pub OneReason : Type 0
OneReason = (a b : Reason) → number_of a ≡ number_of b → a ≡ b

-- 1 to 9 are a block's, 10 to 14 an end's, the others a book's
abbrev pub layer_of : Reason → Layer
layer_of BlockLength = Block
layer_of BlockSignature = Block
layer_of BlockFlags = Block
layer_of SourceAddress = Block
layer_of DestinationAddress = Block
layer_of OtherDestination = Block
layer_of NoWatchTime = Block
layer_of SilRank = Block
layer_of WidthOrLimit = Block
layer_of FrameLength = End
layer_of ValuesLength = End
layer_of InputRange = End
layer_of BufferLength = End
layer_of NoPressAwaited = End
layer_of BookHead = Book
layer_of RecordLength = Book
layer_of RecordKind = Book
layer_of RecordOrder = Book

abbrev pub layer_name : Layer → List ℕ
layer_name Block = codes "block"
layer_name End = codes "end"
layer_name Book = codes "book"

abbrev pub text_of : Reason → List ℕ
text_of BlockLength = codes "the parameter block has not ten octets"
text_of BlockSignature = codes "F_Par_CRC is not the check value of the block"
text_of BlockFlags = codes "a flag octet has a version, a block kind or a bit that is not allowed"
text_of SourceAddress = codes "F_Source_Add is 0 or 65535"
text_of DestinationAddress = codes "F_Dest_Add is 0 or 65535"
text_of OtherDestination = codes "F_Dest_Add is another device's address"
text_of NoWatchTime = codes "F_WD_Time is 0"
text_of SilRank = codes "F_SIL asks for a higher rank than the end has"
text_of WidthOrLimit = codes "F_CRC_Length or a data length does not go with the signature kind"
text_of FrameLength = codes "the frame has the wrong length"
text_of ValuesLength = codes "the values have the wrong length"
text_of InputRange = codes "a wish or a reading is above 1, or flags are above 3"
text_of BufferLength = codes "the caller's buffer is too short"
text_of NoPressAwaited = codes "no press is awaited"
text_of BookHead = codes "the book is empty, above 65535 octets or of another version"
text_of RecordLength = codes "a record's length is cut, 0 or past the end of the book"
text_of RecordKind = codes "a record's kind is unknown, or its body has the wrong length"
text_of RecordOrder = codes "a record stands before the accepted block, or a block after it"

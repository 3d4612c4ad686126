-- Frames: data, one control or status octet, and the signature of both; the bits of that octet.
use Rattle.std.specs.Prelude.{ℕ, ◌+◌, Bool, cond, not, List, [], ◌∷◌, ◌++◌, take, replicate, ◌==◌, bit_and, slice_index}
use Rattle.signature.specs.Kind.{Model, signature}

-- the control octet, from the host
abbrev pub OA_Req : ℕ
OA_Req = 0x02

abbrev pub R_cons_nr : ℕ
R_cons_nr = 0x04

abbrev pub activate_FV : ℕ
activate_FV = 0x10

abbrev pub Toggle_h : ℕ
Toggle_h = 0x20

-- the status octet, from the device
abbrev pub Device_Fault : ℕ
Device_Fault = 0x02

abbrev pub CE_CRC : ℕ
CE_CRC = 0x04

abbrev pub WD_timeout : ℕ
WD_timeout = 0x08

abbrev pub FV_activated : ℕ
FV_activated = 0x10

abbrev pub Toggle_d : ℕ
Toggle_d = 0x20

abbrev pub cons_nr_R : ℕ
cons_nr_R = 0x40

-- an octet has the bit of a mask; bits without a name here are never looked at
abbrev pub has : ℕ → ℕ → Bool
has octet mask = not (bit_and octet mask == 0)

-- the bit of a mask, if b; octets are made of these, so bits without a name are 0
abbrev pub flag : Bool → ℕ → ℕ
flag b mask = cond b mask 0

-- fail-safe values
abbrev pub zeros : ℕ → List ℕ
zeros len = replicate len 0

-- data and an octet, signed under the block's check value crc and the number n
abbrev pub composed : Model → ℕ → ℕ → List ℕ → ℕ → List ℕ
composed m crc n values octet = (values ++ (octet ∷ [])) ++ signature m crc n (values ++ (octet ∷ []))

-- a frame with len octets of data: how long it is, its data, its control or status octet
abbrev pub frame_length : Model → ℕ → ℕ
frame_length m len = len + 1 + m.width

abbrev pub data_of : ℕ → List ℕ → List ℕ
data_of len f = take len f

abbrev pub octet_of : ℕ → List ℕ → ℕ
octet_of len f = slice_index f len

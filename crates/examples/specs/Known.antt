-- Known figures of the definitions, as one finite check.
use Rattle.std.specs.Prelude.{Bool, ◌&&◌, [], ◌∷◌, ◌==◌}
use Rattle.std.specs.Str.{bytes_eq}
use Rattle.signature.specs.Kind.{signature, fits_number}
use Rattle.kinds.specs.Kinds.{s3, s4, c3}
use Rattle.block.specs.declared.setup.Setup.{Setup}
use Rattle.block.specs.ParCrc.{par_crc}
use Rattle.machine.specs.declared.outcome.Outcome.TheVariants.{Fault, Quiet}
use Rattle.machine.specs.declared.phase.Cause.TheVariants.{Start}
use Rattle.machine.specs.Answers.{answers}
use Rattle.machine.specs.HostEnd.{host_opened, host_started, host_ticks_answer}
use Rattle.machine.specs.DeviceEnd.{device_restarted, device_ticks_answer}

-- entries of the tables: what an octet makes of the register 0
unfoldable pub entries_known : Bool
entries_known = s3.step 0 1 == 0x5D6DCB && (s3.step 0 2 == 0xBADB96 && (s3.step 0 4 == 0x28DAE7 && s4.step 0 2 == 0x1DF50D35))

-- signatures of the lone control octet 00 under the number 1, with F_Par_CRC 0
unfoldable pub signatures_known : Bool
signatures_known =
    bytes_eq (signature s3 0 1 (0x00 ∷ [])) (0xDD ∷ 0xD7 ∷ 0x98 ∷ [])
    && bytes_eq (signature c3 0 1 (0x00 ∷ [])) (0x00 ∷ 0x01 ∷ 0x00 ∷ [])

-- a block's first eight octets, and the two frames of a restart under that block: the host's and the device's
unfoldable pub restart_known : Bool
restart_known =
    (par_crc (0x08 ∷ 0x40 ∷ 0x00 ∷ 0x01 ∷ 0x00 ∷ 0x02 ∷ 0x00 ∷ 0x64 ∷ []) == 0xC357)
    && (fits_number s3 0xC357 0 (0x14 ∷ 0xBE ∷ 0xA3 ∷ 0x1F ∷ []) && fits_number s3 0xC357 0 (0x50 ∷ 0xA1 ∷ 0x0C ∷ 0x1E ∷ []))

-- Ends in run that have counted no ticks, under a block with a watch time of 100 and no data: 99 ticks are quiet, 100
-- are a fault, at both.
abbrev pub watched : Setup
watched = record { crc = 0xC357; watch = 100; out_len = 0; in_len = 0 }

unfoldable pub ticks_known : Bool
ticks_known =
    answers (host_ticks_answer watched (host_opened (host_started Start)) 99) Quiet
    && (answers (host_ticks_answer watched (host_opened (host_started Start)) 100) Fault
    && (answers (device_ticks_answer watched device_restarted 99) Quiet && answers (device_ticks_answer watched device_restarted 100) Fault))

abbrev pub known : Bool
known = entries_known && (signatures_known && (restart_known && ticks_known))

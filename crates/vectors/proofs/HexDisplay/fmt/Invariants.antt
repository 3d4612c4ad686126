-- What the loop keeps: the digits of the octets so far are written.
use Rattle.std.proofs.Common.{take}
use Rattle.std.specs.Fmt.{HasWritten, IsPlainFormatter}
use Rattle.vectors.specs.Hex.{hex_text}
use Rattle.vectors.proofs.HexDisplay.fmt.Given as goal

abbrev pub invariant-loop-o : goal.invariant-loop-o
invariant-loop-o g l = IsPlainFormatter l.initial.f → HasWritten g.W.Write.write_str_gives l.initial.f (hex_text (take l.o-index l.self.0.now)) l.f

use Rattle.std.proofs.Common.{map, take}
use Rattle.std.specs.Io.KnownBytes.{Appends}
use Rattle.av_base.specs.Part.{digits_of, spelt}
use Rattle.av_base.proofs.parts.write_hexadecimal.Given as goal

-- the digits of the bytes so far were written
abbrev pub invariant-loop-byte : goal.invariant-loop-byte
invariant-loop-byte g l = Appends (g.W.Write.contents l.initial.writer) (g.W.Write.contents l.writer) (spelt (map digits_of (take l.byte-index l.bytes)))

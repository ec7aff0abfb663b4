use Rattle.std.proofs.Common.{map, take}
use Rattle.std.specs.Io.KnownBytes.{Appends}
use Rattle.av_base.specs.Part.{part_text, spelt}
use Rattle.av_base.proofs.parts.write_parts.Given as goal

-- the parts so far were written
abbrev pub invariant-loop-part : goal.invariant-loop-part
invariant-loop-part g l = Appends (g.W.Write.contents l.initial.writer) (g.W.Write.contents l.writer) (spelt (map part_text (take l.part-index l.parts)))

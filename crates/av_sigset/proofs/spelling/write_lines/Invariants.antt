use Rattle.std.proofs.Common.{map, take}
use Rattle.std.specs.Io.KnownBytes.{Appends}
use Rattle.av_base.specs.Part.{spelt}
use Rattle.av_sigset.specs.Spelling.{AreBytes, line_text}
use Rattle.av_sigset.proofs.spelling.write_lines.Given as goal

-- the lines of the signatures so far were written
abbrev pub invariant-loop-signature : goal.invariant-loop-signature
invariant-loop-signature g l =
    Appends (g.W.Write.contents l.initial.writer) (g.W.Write.contents l.writer) (spelt (map line_text (take l.signature-index l.signatures)))
    × AreBytes (take l.signature-index l.signatures)

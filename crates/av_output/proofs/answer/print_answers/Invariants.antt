use Rattle.std.proofs.Common.{map, take}
use Rattle.std.specs.Io.KnownBytes.{Appends}
use Rattle.av_base.specs.Part.{spelt}
use Rattle.av_output.specs.Text.Answers.{given_text}
use Rattle.av_output.proofs.answer.print_answers.Given as goal

-- the answers so far were written
abbrev pub invariant-loop-given : goal.invariant-loop-given
invariant-loop-given g l = Appends (g.W.Write.contents l.initial.writer) (g.W.Write.contents l.writer) (spelt (map given_text (take l.given-index l.answers)))

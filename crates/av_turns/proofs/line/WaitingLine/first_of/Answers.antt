use Rattle.std.proofs.Common.{sym, ◌∙◌}
use Rattle.av_turns.proofs.LineLemmas.{nothing_in_front}
use Rattle.av_turns.proofs.line.WaitingLine.first_of.Goals as goal

pub returns-in_err-length-clause-none : goal.returns-in_err-length-clause-none
returns-in_err-length-clause-none c = rw (c.from_residual.ensures, ← c.self.view_is) (nothing_in_front _ (sym c.length_of.ensures ∙ c.in_err-length.was))

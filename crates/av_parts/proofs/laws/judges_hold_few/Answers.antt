use Rattle.av_parts.proofs.JudgeLemmas.{holds_few}
use Rattle.av_parts.proofs.laws.judges_hold_few.Goals as goal

pub returns : goal.returns
returns c = holds_few

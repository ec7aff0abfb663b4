use Rattle.av_parts.proofs.JudgeLemmas.{judges_are_right}
use Rattle.av_parts.proofs.laws.judges_are_right.Goals as goal

pub returns : goal.returns
returns c = judges_are_right

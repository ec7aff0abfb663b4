use Rattle.av_segments.proofs.CutLemmas.{verdicts_join}
use Rattle.av_segments.proofs.laws.verdicts_join.Goals as goal

pub returns : goal.returns
returns c = verdicts_join

use Rattle.av_quarantine.proofs.StepLemmas.{moves_judged}
use Rattle.av_quarantine.proofs.laws.moves_only_judged.Goals as goal

pub returns : goal.returns
returns c = moves_judged

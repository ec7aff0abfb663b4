use Rattle.av_quarantine.proofs.StepLemmas.{removes_judged}
use Rattle.av_quarantine.proofs.laws.removes_only_judged.Goals as goal

pub returns : goal.returns
returns c = removes_judged

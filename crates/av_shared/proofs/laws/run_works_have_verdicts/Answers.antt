use Rattle.av_shared.proofs.RunLemmas.{run_verdict}
use Rattle.av_shared.proofs.laws.run_works_have_verdicts.Goals as goal

pub returns : goal.returns
returns c = run_verdict

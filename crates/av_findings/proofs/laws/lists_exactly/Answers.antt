use Rattle.av_findings.proofs.HitsLemmas.{lists}
use Rattle.av_findings.proofs.laws.lists_exactly.Goals as goal

pub returns : goal.returns
returns c = lists

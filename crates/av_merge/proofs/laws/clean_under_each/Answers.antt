use Rattle.av_merge.proofs.LookLemmas.{clean_each}
use Rattle.av_merge.proofs.laws.clean_under_each.Goals as goal

pub returns : goal.returns
returns c = clean_each

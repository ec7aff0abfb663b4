use Rattle.av_clamd.proofs.KeptLemmas.{begins_little, stays_less, stays_little}
use Rattle.av_clamd.proofs.laws.little_is_kept.Goals as goal

pub returns-clause-new : goal.returns-clause-new
returns-clause-new c = begins_little

pub returns-clause-stays : goal.returns-clause-stays
returns-clause-stays c = stays_little

pub returns-clause-less : goal.returns-clause-less
returns-clause-less c = stays_less

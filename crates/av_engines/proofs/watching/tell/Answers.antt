use Rattle.av_engines.proofs.EventLemmas.{few_told}
use Rattle.av_engines.proofs.watching.tell.Goals as goal

pub returns-clause-few : goal.returns-clause-few
returns-clause-few c = few_told c.message.result _ _ _ _ _ c.message.ensures.event

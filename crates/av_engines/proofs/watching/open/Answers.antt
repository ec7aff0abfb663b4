use Rattle.av_engines.proofs.EventLemmas.{opens_taken}
use Rattle.av_engines.proofs.watching.open.Goals as goal
use Rattle.av_filter.proofs.RoomLemmas.{few_opened}

pub returns-in-Ok-clause-few : goal.returns-in-Ok-clause-few
returns-in-Ok-clause-few c = few_opened c.in-Ok.out _ _ _ _ _ _ c.in-Ok.ensures.event.1

pub returns-in-Ok-clause-taken : goal.returns-in-Ok-clause-taken
returns-in-Ok-clause-taken c = opens_taken c.in-Ok.out _ _ _ _ _ _ c.in-Ok.ensures.event.1

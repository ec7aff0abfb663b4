use Rattle.av_filter.proofs.RoomLemmas.{few_opened}
use Rattle.av_guard.proofs.events.open.Goals as goal

pub returns-in-Ok-clause-few : goal.returns-in-Ok-clause-few
returns-in-Ok-clause-few c = few_opened _ _ _ _ _ c.args.stream _ c.in-Ok.ensures.event.1

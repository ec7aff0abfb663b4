use Rattle.av_guard.proofs.RoomLemmas.{few_changed}
use Rattle.av_store.specs.Files.{Remove}
use Rattle.av_guard.proofs.events.remove.Goals as goal

pub returns-in-Ok-clause-few : goal.returns-in-Ok-clause-few
returns-in-Ok-clause-few c = few_changed _ _ _ _ _ (Remove c.args.stream) c.in-Ok.ensures.event.1

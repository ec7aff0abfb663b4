use Rattle.av_guard.proofs.RoomLemmas.{few_disconnected}
use Rattle.av_guard.proofs.events.disconnect.Goals as goal

pub returns-clause-few : goal.returns-clause-few
returns-clause-few c = few_disconnected c.disconnect.result c.args.mounted.now.table c.disconnect.new.self.table c.args.mounted.now.volume c.disconnect.new.self.volume c.args.port c.disconnect.ensures.event

use Rattle.av_guard.proofs.RoomLemmas.{few_received}
use Rattle.av_guard.proofs.events.receive.Goals as goal

pub returns-clause-few : goal.returns-clause-few
returns-clause-few c = few_received c.message.result c.args.mounted.now.table c.message.new.self.table c.args.mounted.now.volume c.message.new.self.volume c.args.message.now c.message.ensures.event

use Rattle.av_filter.specs.Conduct.{TimesOut}
use Rattle.av_guard.proofs.RoomLemmas.{few_given}
use Rattle.av_guard.proofs.events.time_out.Goals as goal

pub returns-clause-few : goal.returns-clause-few
returns-clause-few c = few_given c.timeout.result c.args.mounted.now.table c.timeout.new.self.table c.args.mounted.now.volume c.timeout.new.self.volume (TimesOut c.args.seq) c.timeout.ensures.event

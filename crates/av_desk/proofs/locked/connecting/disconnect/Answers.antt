use Rattle.av_desk.proofs.SilentLemmas.{silent}
use Rattle.av_desk.proofs.locked.connecting.disconnect.Goals as goal
use Rattle.av_service.specs.Conduct.{Disconnects}

pub returns-clause-silent : goal.returns-clause-silent
returns-clause-silent c = silent c.disconnect.result c.args.service.now.desk c.disconnect.new.self.desk Disconnects tt c.disconnect.ensures

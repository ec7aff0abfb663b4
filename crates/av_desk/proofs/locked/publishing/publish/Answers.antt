use Rattle.av_desk.proofs.SilentLemmas.{silent}
use Rattle.av_desk.proofs.locked.publishing.publish.Goals as goal
use Rattle.av_service.specs.Conduct.{Publishes}

pub returns-clause-silent : goal.returns-clause-silent
returns-clause-silent c = silent c.in-Ok.out c.args.service.now.desk c.publish.new.self.desk (Publishes c.args.version) tt c.in-Ok.ensures.event

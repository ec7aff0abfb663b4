use Rattle.av_desk.proofs.SilentLemmas.{silent}
use Rattle.av_desk.proofs.locked.connecting.restart.Goals as goal
use Rattle.av_service.specs.Conduct.{Restarts}
use Rattle.av_sigset.specs.Catalogue.{latest}

pub returns-clause-silent : goal.returns-clause-silent
returns-clause-silent c = silent c.restart.result c.args.service.now.desk c.restart.new.self.desk (Restarts (latest c.args.catalogue.now.sets)) tt c.restart.ensures

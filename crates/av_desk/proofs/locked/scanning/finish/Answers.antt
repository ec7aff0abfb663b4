use Rattle.av_desk.proofs.SilentLemmas.{silent_if}
use Rattle.av_desk.proofs.locked.scanning.finish.Goals as goal
use Rattle.av_match.specs.Scanning.{if_found}
use Rattle.av_service.specs.Conduct.{Finishes}

pub returns-clause-silent : goal.returns-clause-silent
returns-clause-silent c = silent_if c.finish.result c.args.service.now.desk c.finish.new.self.desk (Finishes c.args.done.lease c.args.done.scan (if_found c.args.done.scan)) tt c.finish.ensures.ok

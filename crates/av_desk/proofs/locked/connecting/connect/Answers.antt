use Rattle.av_desk.proofs.SilentLemmas.{silent_connect}
use Rattle.av_desk.proofs.locked.connecting.connect.Goals as goal

pub returns-clause-silent : goal.returns-clause-silent
returns-clause-silent c = silent_connect c.connect.result c.args.service.now.desk c.connect.new.self.desk c.connect.ensures

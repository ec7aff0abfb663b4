use Rattle.std.proofs.Common.{◌≡◌, rules}
use Rattle.av_match.specs.Scanning.{if_found}
use Rattle.av_service.proofs.JudgedLemmas.{keeps_scans}
use Rattle.av_service.specs.Desk.{lent_under}
use Rattle.av_service.specs.Lending.{finished}
use Rattle.av_service.proofs.service.Service.finish.Goals as goal

pub returns-in-Ok-clause-scans : goal.returns-in-Ok-clause-scans
returns-in-Ok-clause-scans c =
    let d = c.args.self.now.desk in
    let k = c.args.done in
    let desk : c.finished.new.self.desk ≡ (finished d k.scan (if_found k.scan) (lent_under k.lease d.jobs)).desk = search rules in
    keeps_scans d k.lease k.work k.scan (if_found k.scan) c.finished.new.self.desk desk

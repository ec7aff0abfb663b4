use Rattle.av_health.proofs.ReportLemmas.{reports_are_read_back}
use Rattle.av_health.proofs.laws.reports_are_read_back.Goals as goal

pub returns : goal.returns
returns c = reports_are_read_back

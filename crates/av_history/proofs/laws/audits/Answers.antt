use Rattle.av_filter.proofs.OnceLemmas
use Rattle.av_history.proofs.AuditLemmas
use Rattle.av_history.proofs.laws.audits.Goals as goal

pub returns : goal.returns
returns c = record { one_verdict = AuditLemmas.one_verdict; judged_bytes = AuditLemmas.judged_bytes; only_clean = AuditLemmas.only_clean; answers_once = OnceLemmas.answers_once }

use Rattle.std.proofs.Common.{refl}
use Rattle.av_findings.specs.Findings.{hits_from}
use Rattle.av_match.specs.Match.{verdict, verdict_at, verdict_to}
use Rattle.av_findings.proofs.laws.examples.Goals as goal

pub returns : goal.returns
unfolding hits_from verdict verdict_at verdict_to
returns c = record { none_occurs = (refl, refl); each_is_listed = refl; spans_count = refl }

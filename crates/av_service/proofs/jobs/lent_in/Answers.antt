use Rattle.std.proofs.Common.{sym}
use Rattle.av_service.specs.Desk.{has_lease}
use Rattle.av_service.proofs.JobLemmas.{place_found}
use Rattle.av_service.proofs.jobs.lent_in.Goals as goal

pub returns-then-has_lease : goal.returns-then-has_lease
returns-then-has_lease c = place_found (λ j. has_lease c.args.lease j.loan) _ _ _ c.loop-i-test.true c.index-jobs-i.is (sym c.if-has_lease.ensures) c.loop-i.invariant

use Rattle.av_engines.proofs.RenewingLemmas.{renewed, renewed_newest, renewed_patterns, spurned}
use Rattle.av_engines.proofs.renewing.refresh.Goals as goal

pub returns-in-Ok-clause-freshens : goal.returns-in-Ok-clause-freshens
returns-in-Ok-clause-freshens g c =
    renewed _ _ _ _ _ _ _ _ _ _ c.in-Some.set _ _ c.in-Ok.ensures.ok c.in-Some.ensures c.published.ensures c.put_plain.ensures

pub returns-in-Ok-clause-newest : goal.returns-in-Ok-clause-newest
returns-in-Ok-clause-newest g c = renewed_newest c.works_are_lent_under_the_present_version.ensures _ _ _ _ _ _ _ c.in-Ok.ensures.ok

pub returns-in-Ok-clause-patterns : goal.returns-in-Ok-clause-patterns
returns-in-Ok-clause-patterns g c = renewed_patterns c.works_are_lent_under_the_present_version.ensures _ _ _ _ _ _ _ c.in-Ok.ensures.ok

pub returns-in-Err-clause-freshens : goal.returns-in-Err-clause-freshens
returns-in-Err-clause-freshens g c =
    spurned _ _ _ _ _ _ _ _ c.in-Some.set c.in-Err.why c.in-Err.ensures.err c.in-Err.ensures.kept.0 c.in-Err.ensures.kept.1 c.in-Some.ensures c.refused.ensures

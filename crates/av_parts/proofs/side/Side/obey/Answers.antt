use Rattle.av_parts.proofs.CourseLemmas.{leads_saying, leads_silently}
use Rattle.av_parts.proofs.side.Side.obey.Goals as goal

pub returns-in-Ok-None-clause-ok : goal.returns-in-Ok-None-clause-ok
returns-in-Ok-None-clause-ok c = leads_silently _ _ _ _ _ c.in-Ok-None.field-0-is c.in-Ok-None.ensures.exact

pub returns-in_ok-put_said-in-Ok-Some-clause-ok : goal.returns-in_ok-put_said-in-Ok-Some-clause-ok
returns-in_ok-put_said-in-Ok-Some-clause-ok c =
    leads_saying _ _ _ _ _ _ _ c.in-Ok-Some.field-0-is c.in-Ok-Some.ensures.exact c.in_ok-put_said-in-Ok-Some.ensures.ok

use Rattle.av_parts.proofs.ServingLemmas.{front_of_none, front_of_one}
use Rattle.av_parts.proofs.side.Side.hear_first.Goals as goal

pub returns-in_ok-obey-in-Ok-clause-ok : goal.returns-in_ok-obey-in-Ok-clause-ok
returns-in_ok-obey-in-Ok-clause-ok c =
    front_of_one _ _ _ _ _ _ _ _ _ _ _ c.in-Some.is c.in_ok-obey-in-Ok.ensures.orders c.in-Ok.ensures.heard c.in_ok-obey-in-Ok.ensures.ok

pub returns-in_default-clause-ok : goal.returns-in_default-clause-ok
returns-in_default-clause-ok c = front_of_none _ _ _ _ _ _ _ c.in_default.is c.in-Ok.ensures.heard

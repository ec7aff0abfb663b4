use Rattle.av_engines.proofs.FreshLemmas.{served_alone}
use Rattle.av_engines.proofs.serving.serve_service.Goals as goal

pub returns-clause-serves : goal.returns-clause-serves
returns-clause-serves g c = (served_alone _ _ _ _ _ _ _ _ _ _ c.serve_fresh.ensures.serves).0

pub returns-clause-kept : goal.returns-clause-kept
returns-clause-kept g c = (served_alone _ _ _ _ _ _ _ _ _ _ c.serve_fresh.ensures.serves).1

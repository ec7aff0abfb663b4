use Rattle.std.proofs.Common.{ap, inl, refl}
use Rattle.av_engines.proofs.FreshLemmas.{served, unserved_yet}
use Rattle.av_engines.specs.Incoming.{Received}
use Rattle.av_engines.proofs.serving.serve.Goals as goal

pub returns-clause-runs : goal.returns-clause-runs
returns-clause-runs g c = unserved_yet _ _ _ _ _ _ _ c.in-Err.ensures.err

pub returns-in-Ok-greet-clause-runs : goal.returns-in-Ok-greet-clause-runs
returns-in-Ok-greet-clause-runs g c =
    served _ _ _ _ _ _ _ _ _ _ _ _ _ _ _ (ap (λ (r : Received). r.turns) c.in-Ok-new.ensures.0) c.in-Ok-new.ensures.1 c.in-Ok-greet.ensures.ok c.hear_all.ensures.hears

pub returns-in_default-new-clause-runs : goal.returns-in_default-new-clause-runs
returns-in_default-new-clause-runs g c = unserved_yet _ _ _ _ _ _ _ (inl refl)

pub returns-in_default-clause-runs : goal.returns-in_default-clause-runs
returns-in_default-clause-runs g c = unserved_yet _ _ _ _ _ _ _ (inl refl)

use Rattle.std.specs.Prelude.{None}
use Rattle.av_parts.proofs.CourseLemmas.{leads_nowhere}
use Rattle.av_parts.proofs.serve.look.Goals as goal

pub returns-in-None-clause-ok : goal.returns-in-None-clause-ok
returns-in-None-clause-ok g c = record { newer = None; seen = c.in-None.ensures; leads = leads_nowhere _ _ }

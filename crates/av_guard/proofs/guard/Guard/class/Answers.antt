use Rattle.std.proofs.Common.{sym, subst, ◌∙◌}
use Rattle.av_guard.proofs.AwaitedLemmas.{asked_question}
use Rattle.av_guard.proofs.KnownLemmas.{class_is}
use Rattle.av_guard.specs.Asking.{place_of}
use Rattle.av_guard.specs.Place.{IsPlace, place_from}
use Rattle.av_guard.proofs.guard.Guard.class.Goals as goal

pub returns-clause-value : goal.returns-clause-value
returns-clause-value c = c.class_at.ensures ∙ class_is c.args.self.now _ (place_of c.args.self.now c.args.content.now) (rw (← c.self.view_is) (subst (λ v. IsPlace c.place_of.result (place_from 16 0 c.self.inside.key v c.args.content.now)) c.volume.ensures c.place_of.ensures))

pub returns-clause-asked : goal.returns-clause-asked
returns-clause-asked c = λ is. asked_question c.args.self.now c.args.content.now (rw (← c.self.view_is) c.filter-coherent.ensures.coherent) (rw (← c.self.view_is) c.self.invariant.paired) (sym (returns-clause-value c) ∙ is)

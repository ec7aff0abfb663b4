use Rattle.std.proofs.Common.{sym, ap, ◌∙◌, Some}
use Rattle.av_sigset.specs.Catalogue.{no_set}
use Rattle.av_sigset.proofs.CatalogueLemmas.{at_none, at_place, same_at}
use Rattle.av_sigset.proofs.catalogue.Catalogue.at.Goals as goal

pub returns-in-Some-clause-set : goal.returns-in-Some-clause-set
returns-in-Some-clause-set c =
    let place = rw c.as_slice.ensures.value at c.in-Some.ensures in
    let found = at_place c.self.inside.sets.items c.args.version c.in-Some.place c.self.invariant.rising place.0 (place.1 ∙ c.get.ensures) in
    rw (← c.self.view_is) (ap Some (c.index.ensures ∙ same_at c.self.inside.sets.items c.in-Some.place _ no_set place.0) ∙ sym found)

pub returns-in-None-clause-set : goal.returns-in-None-clause-set
returns-in-None-clause-set c = rw (← c.self.view_is) (sym (at_none c.self.inside.sets.items c.args.version (rw (c.as_slice.ensures.value, c.get.ensures) at c.in-None.ensures)))

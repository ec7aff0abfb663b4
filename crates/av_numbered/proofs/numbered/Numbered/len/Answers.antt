use Rattle.std.proofs.Common.{◌<◌, sym, subst, ◌∙◌}
use Rattle.av_numbered.specs.Numbered.{IsAscending}
use Rattle.av_numbered.proofs.NumberedLemmas.{view-ascends, length-view}
use Rattle.av_numbered.proofs.numbered.Numbered.len.Goals as goal

pub returns-clause-len : goal.returns-clause-len
returns-clause-len g c = rw (← c.self.view_is) (c.len.ensures.len ∙ sym (length-view c.self.inside.index.entries c.self.inside.rows.slots c.self.inside.values.items c.self.invariant))

pub returns-clause-ascend : goal.returns-clause-ascend
returns-clause-ascend g c = subst IsAscending c.self.view_is (view-ascends c.self.inside.index.entries c.self.inside.rows.slots c.self.inside.values.items c.self.invariant)

pub returns-clause-small : goal.returns-clause-small
returns-clause-small g c = rw (← c.self.view_is) (subst (λ n. n < 9223372036854775808) (c.len.ensures.len ∙ sym (length-view c.self.inside.index.entries c.self.inside.rows.slots c.self.inside.values.items c.self.invariant)) c.len.ensures.small)

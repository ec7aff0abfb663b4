use Rattle.std.proofs.Common.{◌<◌, arith, sym, subst, ◌∙◌}
use Rattle.av_numbered.specs.Numbered.{IsAscending}
use Rattle.av_numbered.proofs.NumberedLemmas.{view-ascends, length-view}
use Rattle.av_numbered.proofs.bounded.Bounded.len.Goals as goal

pub returns-clause-len : goal.returns-clause-len
returns-clause-len g c = rw (← c.self.view_is) (c.len.ensures ∙ (c.self.inside.index.ok.0 ∙ sym (length-view c.self.inside.index.items c.self.inside.rows.slots c.self.inside.values.items c.self.invariant.0)))

pub returns-clause-ascend : goal.returns-clause-ascend
returns-clause-ascend g c = subst IsAscending c.self.view_is (view-ascends c.self.inside.index.items c.self.inside.rows.slots c.self.inside.values.items c.self.invariant.0)

pub returns-clause-small : goal.returns-clause-small
returns-clause-small g c = rw (← c.self.view_is) (subst (λ n. n < 9223372036854775808) (c.self.inside.index.ok.0 ∙ sym (length-view c.self.inside.index.items c.self.inside.rows.slots c.self.inside.values.items c.self.invariant.0)) (let most = c.self.inside.index.small in let within = c.self.inside.index.ok.1 in omega arith))

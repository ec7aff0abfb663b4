use Rattle.std.proofs.Common.{subst, ◌∙◌}
use Rattle.av_numbered.specs.Numbered.{IsAscending}
use Rattle.av_filter_table.proofs.ContextLemmas.{known-ascends}
use Rattle.av_filter_table.proofs.CountLemmas.{length-known}
use Rattle.av_filter_table.proofs.stream_contexts.StreamContexts.len.Goals as goal

pub returns-clause-len : goal.returns-clause-len
returns-clause-len c = rw (← c.self.view_is) (c.len.ensures.len ∙ length-known c.self.inside.table c.self.invariant)

pub returns-clause-ascend : goal.returns-clause-ascend
returns-clause-ascend c = subst IsAscending c.self.view_is (known-ascends c.self.inside.table c.self.invariant)

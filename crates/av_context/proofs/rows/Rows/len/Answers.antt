use Rattle.std.proofs.Common.{sym, ◌∙◌}
use Rattle.slab.proofs.SlabLemmas.{length-entries}
use Rattle.av_context.proofs.RowsLemmas.{ascend-from}
use Rattle.av_context.proofs.rows.Rows.len.Goals as goal

pub returns-clause-len : goal.returns-clause-len
returns-clause-len c = rw (← c.self.view_is) (c.len.ensures ∙ sym (length-entries c.self.inside.slab))

pub returns-clause-ascend : goal.returns-clause-ascend
returns-clause-ascend c = rw (← c.self.view_is) (ascend-from 0 c.self.inside.slab.slots)

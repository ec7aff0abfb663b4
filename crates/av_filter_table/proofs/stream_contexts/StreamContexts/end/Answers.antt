use Rattle.std.proofs.Common.{◌∙◌}
use Rattle.av_filter_table.proofs.ClearLemmas.{none-left}
use Rattle.av_filter_table.proofs.stream_contexts.StreamContexts.end.Goals as goal

pub unreachable-requires : goal.unreachable-requires
unreachable-requires c = c.if-len-ne0.true (c.len.ensures.len ∙ none-left c.self.inside.table c.self.invariant (rw (c.self.view_is) c.requires) c.delete_all.new.self.contexts c.delete_all.ensures.each)

use Rattle.std.proofs.Common.{rules, ◌∙◌}
use Rattle.std.proofs.lemmas.Iterator.{YieldsList-from_slice, items_from_collect}
use Rattle.std.proofs.lemmas.Iterator.Consumers.{YieldsList-at, YieldsList-from_filter_map}
use Rattle.av_world.proofs.HeldLemmas.{context_entry, contexts_hold}
use Rattle.av_world.proofs.world.holding.in_contexts.Goals as goal

pub returns : goal.returns
returns c =
    rw (← contexts_hold c.args.filter.now.contexts c.args.volume.now.streams)
    (items_from_collect _ c.collect.ensures.ran
    (YieldsList-from_filter_map _ (context_entry c.args.filter.now.contexts)
    (YieldsList-at c.filter_map.ensures.source (YieldsList-from_slice _ (c.iter.ensures.rest ∙ c.deref.ensures.value ∙ c.in_ok-streams.ensures))) c.filter_map.ensures.closure (λ x r q k. search rules)))

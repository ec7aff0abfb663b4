use Rattle.std.proofs.Common.{rules}
use Rattle.std.proofs.lemmas.Iterator.{YieldsList-from_map, items_from_collect}
use Rattle.std.proofs.lemmas.Iterator.Consumers.{YieldsList-at, YieldsList-from_rest}
use Rattle.av_cache.specs.Cache.{entry_of}
use Rattle.av_cache.proofs.cache.VerdictCache.entries.Goals as goal

pub returns : goal.returns
returns c =
    rw (← c.self.view_is)
    (items_from_collect _ c.collect.ensures.ran
    (YieldsList-from_map _ entry_of
    (YieldsList-at c.map.ensures.source (YieldsList-from_rest c.self.inside.kept.entries c.iter.ensures.rest))
    c.map.ensures.closure (λ x r q k. search rules)))

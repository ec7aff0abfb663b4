use Rattle.av_cache.proofs.CacheLemmas.{once-entries}
use Rattle.av_cache.proofs.cache.VerdictCache.len.Goals as goal

pub returns-clause-once : goal.returns-clause-once
returns-clause-once c = rw (← c.self.view_is) (once-entries _ c.len.ensures.valid.0)

use Rattle.std.proofs.Common.{ap}
use Rattle.av_cache.specs.declared.key.Key.{Key}
use Rattle.av_cache.proofs.CacheLemmas.{find-verdict, moved-entries}
use Rattle.av_cache.proofs.cache.VerdictCache.look.Goals as goal

pub returns-clause-verdict : goal.returns-clause-verdict
returns-clause-verdict c =
    let key : Key = record { stream = c.args.stream; generation = c.args.generation; version = c.args.version } in
    let found = find-verdict key c.self.inside.kept.entries in
    rw (c.copied.ensures, c.get.ensures.value, ← c.self.view_is, found)

pub returns-clause-order : goal.returns-clause-order
returns-clause-order c =
    let key : Key = record { stream = c.args.stream; generation = c.args.generation; version = c.args.version } in
    rw (c.get.follows.holds-at-none, ← c.self.view_is)
    (ap (λ es. record { capacity = c.self.inside.kept.cap; entries = es }) (moved-entries key c.self.inside.kept.entries c.len-keys_are_distinct.ensures.valid.0))

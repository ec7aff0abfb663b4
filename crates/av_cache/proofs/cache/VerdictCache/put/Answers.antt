use Rattle.std.proofs.Common.{ap}
use Rattle.av_cache.specs.declared.key.Key.{Key}
use Rattle.av_cache.proofs.CacheLemmas.{put-entries, found-pair, err_is_not_ok}
use Rattle.av_cache.proofs.cache.VerdictCache.put.Goals as goal

pub returns-clause-ok : goal.returns-clause-ok
returns-clause-ok c =
    let key : Key = record { stream = c.args.stream; generation = c.args.generation; version = c.args.version } in
    rw (c.in_ok-put.ensures.entries, ← c.self.view_is)
    (ap (λ es. record { capacity = c.self.inside.kept.cap; entries = es })
    (put-entries c.self.inside.kept key c.args.verdict c.len-keys_are_distinct.ensures.valid.0 c.len-keys_are_distinct.ensures.valid.1 c.len-keys_are_distinct.ensures.valid.2))

pub returns-in_err-put-clause-present : goal.returns-in_err-put-clause-present
returns-in_err-put-clause-present c = λ there.
    let key : Key = record { stream = c.args.stream; generation = c.args.generation; version = c.args.version } in
    let pair = found-pair key c.self.inside.kept.entries (rw (← c.self.view_is) at there) in
    absurd (err_is_not_ok _ _ c.in_err-put.was (c.put.ensures.succeeds pair))

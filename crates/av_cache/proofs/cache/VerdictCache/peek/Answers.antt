use Rattle.av_cache.specs.declared.key.Key.{Key}
use Rattle.av_cache.proofs.CacheLemmas.{find-verdict}
use Rattle.av_cache.proofs.cache.VerdictCache.peek.Goals as goal

pub returns : goal.returns
returns c =
    let key : Key = record { stream = c.args.stream; generation = c.args.generation; version = c.args.version } in
    let found = find-verdict key c.self.inside.kept.entries in
    rw (c.copied.ensures, c.peek.ensures, ← c.self.view_is, found)

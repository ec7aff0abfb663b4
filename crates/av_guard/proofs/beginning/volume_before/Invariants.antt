use Rattle.std.proofs.Common.{◌≡◌}
use Rattle.av_store.specs.Store.{empty_store}
use Rattle.av_guard.proofs.beginning.volume_before.Given as goal

-- it was mounted so many times
abbrev pub invariant-mounts : goal.invariant-mounts
invariant-mounts l = l.volume ≡ record (empty_store 1 l.fn.limits) { boot = l._mounts }

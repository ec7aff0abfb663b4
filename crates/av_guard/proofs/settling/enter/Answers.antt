use Rattle.std.proofs.Common.{sym, subst}
use Rattle.av_guard.proofs.CountLemmas.{counted_more}
use Rattle.av_guard.specs.Counts.{AreCounted}
use Rattle.av_guard.proofs.settling.enter.Goals as goal

pub returns-in-Ok-insert-clause-counted : goal.returns-in-Ok-insert-clause-counted
returns-in-Ok-insert-clause-counted c =
    subst (λ es. AreCounted c.wait.new.self.waits es) (sym c.in-Ok-insert.ensures.entries)
    (counted_more _ _ c.args.waiting.now.entries c.args.number c.args.waiter c.requires.counted c.requires.free c.in-Ok.ensures.ok)

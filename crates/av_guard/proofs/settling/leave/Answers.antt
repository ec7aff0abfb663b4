use Rattle.std.proofs.Common.{sym, subst, ◌∙◌}
use Rattle.av_guard.proofs.CountLemmas.{woken}
use Rattle.av_guard.specs.Counts.{AreCounted}
use Rattle.av_guard.proofs.settling.leave.Goals as goal

pub returns-in-Some-clause-counted : goal.returns-in-Some-clause-counted
returns-in-Some-clause-counted c =
    subst (λ es. AreCounted c.wake.new.self.waits es) (sym c.remove.ensures.entries)
    (woken _ _ c.args.waiting.now.entries c.args.number c.in-Some.waiter c.requires.counted (sym c.remove.ensures.value ∙ c.in-Some.is) c.wake.ensures.wakes)

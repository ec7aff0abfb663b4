use Rattle.av_daemon.specs.Passing.{KeepsFilter}
use Rattle.av_daemon.proofs.daemon.Daemon.lose_parts.Given as goal

-- the guard's filter is as it was
abbrev pub invariant-contents : goal.invariant-contents
invariant-contents g l = KeepsFilter l.initial.guard l.guard

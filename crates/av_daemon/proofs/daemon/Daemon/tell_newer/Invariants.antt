use Rattle.av_daemon.specs.Passing.{KeepsFilter}
use Rattle.av_daemon.proofs.daemon.Daemon.tell_newer.Given as goal

-- the guard's filter is as it was
abbrev pub invariant-watches : goal.invariant-watches
invariant-watches g l = KeepsFilter l.initial.guard l.guard

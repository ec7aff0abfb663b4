use Rattle.std.proofs.Common.{◌≡◌}
use Rattle.av_daemon.proofs.daemon.Daemon.drop_contents.Given as goal

-- the clients are as they were
abbrev pub invariant-contents : goal.invariant-contents
invariant-contents g l = l.self.clients ≡ l.initial.self.clients

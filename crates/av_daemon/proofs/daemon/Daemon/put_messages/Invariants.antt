use Rattle.std.proofs.Common.{◌≡◌}
use Rattle.av_daemon.proofs.daemon.Daemon.put_messages.Given as goal

-- the clients are as they were
abbrev pub invariant-messages : goal.invariant-messages
invariant-messages g l = l.self.clients ≡ l.initial.self.clients

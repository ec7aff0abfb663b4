use Rattle.std.proofs.Common.{take}
use Rattle.av_daemon.specs.Passing.{AreGiven}
use Rattle.av_daemon.proofs.daemon.Daemon.take_messages.Given as goal

-- the messages so far were given
abbrev pub invariant-messages : goal.invariant-messages
invariant-messages g l = AreGiven (take l.message-index l.message-items) l.initial.guard l.guard

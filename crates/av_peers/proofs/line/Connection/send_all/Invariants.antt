use Rattle.std.proofs.Common.{◌≡◌, ◌≤◌, max, vec_len}
use Rattle.av_peers.proofs.line.Connection.send_all.Given as goal

-- more has gone out, and no more than there is
abbrev pub invariant-writes : goal.invariant-writes
invariant-writes l =
    (l.self ≡ record l.initial.self { sent = l.self.sent })
    × (l.initial.self.sent ≤ l.self.sent)
    × (l.self.sent ≤ max l.initial.self.sent (vec_len l.initial.self.waiting))

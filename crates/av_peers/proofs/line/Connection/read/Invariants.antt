use Rattle.std.proofs.Common.{◌≡◌}
use Rattle.av_peers.proofs.line.Connection.read.Given as goal

-- a read that was interrupted changes nothing
abbrev pub invariant-reads : goal.invariant-reads
invariant-reads l = l.self ≡ l.initial.self

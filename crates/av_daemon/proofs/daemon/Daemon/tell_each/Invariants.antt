use Rattle.std.proofs.Common.{ℕ, List, drop}
use Rattle.av_peers.specs.declared.client.Client.{Client}
use Rattle.av_daemon.specs.Passing.{KeepsFilter}
use Rattle.av_daemon.specs.Telling.{AreTold}
use Rattle.av_daemon.proofs.daemon.Daemon.tell_each.Given as goal

-- what is told of the answers that are left is told of all, and the guard's filter is as it was
abbrev pub invariant-told : goal.invariant-told
invariant-told g l = record {
  told : (new : List (ℕ × Client)) → AreTold (drop l.one-index l.told) l.self.clients.entries new → AreTold l.told l.initial.self.clients.entries new;
  guard : KeepsFilter l.initial.guard l.guard;
}

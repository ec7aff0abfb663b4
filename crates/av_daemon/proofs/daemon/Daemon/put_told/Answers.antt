use Rattle.std.proofs.Common.{sym}
use Rattle.av_peers.proofs.ClientsLemmas.{told_by}
use Rattle.av_daemon.proofs.daemon.Daemon.put_told.Goals as goal

pub returns-clause-told : goal.returns-clause-told
returns-clause-told g c =
    told_by c.tell-done.result _ _ _ _ _ _ c.tell-done.new.self _ (sym c.in_ok-client.ensures.value) (c.get_mut.follows.holds c.tell-done.new.self).0 c.tell-done.ensures.told

use Rattle.av_sockets.proofs.RunLemmas.{removed_late}
use Rattle.av_sockets.proofs.mount.remove.Goals.{in-Ok, in-Err}
use Rattle.av_sockets.proofs.mount.remove.Goals as goal

pub returns : goal.returns
returns c =
    elim c.match-remove.branch [
      | in-Ok w ↦ rw w.result-is (removed_late c.args.mount.now c.remove.new.self _ _ w.in-Ok.ensures.event.0 w.in-Ok.ensures.event.1)
      | in-Err w ↦ rw w.result-is tt
    ]

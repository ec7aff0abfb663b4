use Rattle.av_engines.proofs.WatchingLemmas.{ok_then}
use Rattle.av_sockets.proofs.RunLemmas.{stored_adds}
use Rattle.av_sockets.proofs.mount.add.Goals as goal

pub returns : goal.returns
returns c = ok_then c.store.result (stored_adds c.args.mount.now c.store.new.self c.args.name.now c.args.content.now) c.store.ensures.stored

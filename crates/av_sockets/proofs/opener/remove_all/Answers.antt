use Rattle.av_sockets.proofs.RunLemmas.{late_none, late_then}
use Rattle.av_sockets.proofs.opener.remove_all.Goals as goal

pub streams-init : goal.streams-init
streams-init c = late_none _

pub streams-preserved : goal.streams-preserved
streams-preserved c = late_then _ _ _ c.streams.invariant c.in_ok-remove.ensures

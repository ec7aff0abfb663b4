use Rattle.av_sockets.proofs.RunLemmas.{kept_more}
use Rattle.av_sockets.proofs.opener.open_rest.Goals as goal

pub streams-preserved : goal.streams-preserved
streams-preserved c = kept_more _ _ _ _ _ _ c.streams.invariant c.in_ok-open.ensures

use Rattle.av_sockets.proofs.RunLemmas.{kept_all, kept_more}
use Rattle.av_sockets.proofs.opener.Opener.open.Goals as goal

pub returns-clause-led : goal.returns-clause-led
returns-clause-led g c = kept_all _ _ _ _ c.new-answers.ensures.items (kept_more _ _ _ _ _ _ c.in_ok-open.ensures c.in_ok-open_rest.ensures)

pub returns-clause-still : goal.returns-clause-still
returns-clause-still g c = (kept_more _ _ _ _ _ _ c.in_ok-open.ensures c.in_ok-open_rest.ensures).still

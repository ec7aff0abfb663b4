use Rattle.av_guard.proofs.CallLemmas
use Rattle.av_guard.proofs.laws.guards_have_history.Goals as goal

pub returns : goal.returns
returns c = CallLemmas.guards_have_history

use Rattle.av_sockets.proofs.RunLemmas.{kept_none}
use Rattle.av_sockets.proofs.line.FilterConnection.open.Goals as goal

pub returns-in_default : goal.returns-in_default
returns-in_default g c = kept_none _ _

pub returns-in_default-2 : goal.returns-in_default-2
returns-in_default-2 g c = kept_none _ _

pub returns-then-ne : goal.returns-then-ne
returns-then-ne g c = kept_none _ _

use Rattle.av_asks.proofs.ContentReadLemmas.{cut_anywhere}
use Rattle.av_asks.proofs.laws.clients_are_heard_however_they_are_cut.Goals as goal

pub returns : goal.returns
returns c = cut_anywhere

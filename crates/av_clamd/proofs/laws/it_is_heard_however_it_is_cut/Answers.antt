use Rattle.av_clamd.proofs.HearLemmas.{cut_anywhere}
use Rattle.av_clamd.proofs.laws.it_is_heard_however_it_is_cut.Goals as goal

pub returns : goal.returns
returns c = cut_anywhere

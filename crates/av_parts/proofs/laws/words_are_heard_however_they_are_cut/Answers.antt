use Rattle.av_parts.specs.WordsHeard
use Rattle.av_parts.proofs.HearLemmas.{cut_anywhere}
use Rattle.av_parts.proofs.laws.words_are_heard_however_they_are_cut.Goals as goal

pub returns : goal.returns
returns c = cut_anywhere WordsHeard.step

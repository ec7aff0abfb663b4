use Rattle.av_parts.proofs.ReadWordLemmas.{words_are_read_back}
use Rattle.av_parts.proofs.laws.words_are_read_back.Goals as goal

pub returns : goal.returns
returns c = words_are_read_back

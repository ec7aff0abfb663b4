use Rattle.av_asks.proofs.ContentAnswerLemmas.{read_back}
use Rattle.av_asks.proofs.laws.content_answers_are_read_back.Goals as goal

pub returns : goal.returns
returns c = read_back

use Rattle.av_guard.proofs.AnsweredLemmas
use Rattle.av_guard.proofs.laws.asks_are_answered_once.Goals as goal

pub returns : goal.returns
returns c = AnsweredLemmas.asks_are_answered_once

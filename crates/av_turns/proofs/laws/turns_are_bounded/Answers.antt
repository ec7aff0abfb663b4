use Rattle.av_turns.proofs.FairLemmas.{bounded}
use Rattle.av_turns.proofs.laws.turns_are_bounded.Goals as goal

pub returns : goal.returns
returns c = bounded

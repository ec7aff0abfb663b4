use Rattle.std.proofs.Common.{[]}
use Rattle.av_turns.proofs.OnceLemmas.{once}
use Rattle.av_turns.proofs.laws.asks_stand_once.Goals as goal

pub returns : goal.returns
returns c = λ moves new lead. once moves [] new lead

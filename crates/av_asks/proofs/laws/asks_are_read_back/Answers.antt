use Rattle.av_asks.proofs.AskLemmas.{exactly, read_back}
use Rattle.av_asks.proofs.laws.asks_are_read_back.Goals as goal

pub returns-clause-read_back : goal.returns-clause-read_back
returns-clause-read_back c = read_back

pub returns-clause-exactly : goal.returns-clause-exactly
returns-clause-exactly c = exactly

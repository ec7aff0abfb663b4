use Rattle.av_store.proofs.HistoryLemmas.{remembers}
use Rattle.av_store.proofs.laws.remembers.Goals as goal

pub returns : goal.returns
returns c = remembers

use Rattle.av_guard.proofs.LawLemmas
use Rattle.av_guard.proofs.laws.asks_open_their_bytes.Goals as goal

pub returns : goal.returns
returns c = LawLemmas.opens_its_bytes

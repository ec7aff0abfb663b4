use Rattle.av_arrival.proofs.RefusalLemmas.{read_back}
use Rattle.av_arrival.proofs.refusal.a_refusal_is_read_back.Goals as goal

pub returns : goal.returns
returns c = read_back

use Rattle.av_parts.proofs.ReadLemmas.{orders_are_read_back}
use Rattle.av_parts.proofs.laws.orders_are_read_back.Goals as goal

pub returns : goal.returns
returns c = orders_are_read_back

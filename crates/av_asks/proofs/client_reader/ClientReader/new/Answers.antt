use Rattle.av_asks.proofs.ContentLemmas.{empty_waits}
use Rattle.av_asks.proofs.client_reader.ClientReader.new.Goals as goal

pub invariant_of-result : goal.invariant_of-result
invariant_of-result c = empty_waits c.new.result.items c.new.ensures.items tt

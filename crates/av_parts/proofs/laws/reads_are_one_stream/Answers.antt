use Rattle.av_parts.proofs.StreamLemmas.{one_stream}
use Rattle.av_parts.proofs.laws.reads_are_one_stream.Goals as goal

pub returns : goal.returns
returns c = one_stream

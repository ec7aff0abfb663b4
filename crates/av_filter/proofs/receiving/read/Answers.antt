use Rattle.av_filter.proofs.ReadyLemmas.{content_small}
use Rattle.av_filter.proofs.receiving.read.Goals as goal

pub part-requires-clause-size : goal.part-requires-clause-size
part-requires-clause-size c = content_small c.args.volume.now c.in-Some.question.stream c.in-Some-content.bytes.now c.limits-ranges.ensures.bounds c.in-Some-content.ensures

use Rattle.av_segments.proofs.SegmentLemmas.{segments_join}
use Rattle.av_segments.proofs.laws.segments_join.Goals as goal

pub returns : goal.returns
returns c = segments_join

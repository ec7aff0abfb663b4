use Rattle.av_frame.proofs.LawLemmas.{begins_with_one_frame, no_frame_begins_another}
use Rattle.av_frame.proofs.laws.no_frame_begins_another.Goals as goal

pub returns-clause-prefix : goal.returns-clause-prefix
returns-clause-prefix c = no_frame_begins_another

pub returns-clause-stream : goal.returns-clause-stream
returns-clause-stream c = begins_with_one_frame

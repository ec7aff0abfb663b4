use Rattle.av_clamd.proofs.PathLemmas.{hands_no_path_out}
use Rattle.av_clamd.proofs.laws.a_refused_path_is_not_handed_out.Goals as goal

pub returns : goal.returns
returns c = hands_no_path_out

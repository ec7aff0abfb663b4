use Rattle.av_sockets.proofs.GroupLemmas.{none_told}
use Rattle.av_sockets.proofs.filter.filter_files.Goals as goal

pub returns-in_default-clause-so_far : goal.returns-in_default-clause-so_far
returns-in_default-clause-so_far g c = none_told _ _ _ _ _ _

use Rattle.av_sigset.proofs.FileLemmas.{files_judged}
use Rattle.av_sigset.proofs.laws.files_are_judged.Goals as goal

pub returns : goal.returns
returns c = files_judged

use Rattle.av_generate.proofs.SplitmixLemmas.{each_number}
use Rattle.av_generate.proofs.laws.draws_are_splitmix.Goals as goal

pub returns : goal.returns
returns c = each_number

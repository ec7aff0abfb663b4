use Rattle.av_engines.proofs.ExampleLemmas.{are_worked}
use Rattle.av_engines.proofs.laws.engines_are_worked.Goals as goal

pub returns : goal.returns
returns c = are_worked

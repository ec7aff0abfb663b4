use Rattle.std.specs.Prelude.{IfOk, Result, Ok, Err}
use Rattle.av_engines.proofs.RenewingLemmas.{newest_above}
use Rattle.av_engines.proofs.serving.automaton_of.Goals as goal

either : {A E : Type 0} {P : Type 0} → P → (r : Result A E) → IfOk r (λ a. P)
either holds (Ok a) = holds
either holds (Err e) = tt

pub returns-clause-newest : goal.returns-clause-newest
returns-clause-newest c = either (newest_above _ _ c.at.ensures.falling c.requires.set) c.build.result

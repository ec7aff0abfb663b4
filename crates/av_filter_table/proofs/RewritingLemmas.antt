-- Rewritings of a stream, as the volume accepts or refuses them.
use Rattle.std.proofs.Common.{◌≡◌, Result, Err}
use Rattle.av_base.specs.Answers.{Steps}
use Rattle.av_base.specs.declared.refusal.Refusal.{Refusal}
use Rattle.av_base.specs.declared.refusal.Refusal.TheVariants.{Fault, NoMemory}

-- a refused step changes nothing
pub as_it_was : {S F : Type 0} (old new : S) (why : Refusal F) (wanted : Result S F) → Steps old new (Err why) wanted → new ≡ old
as_it_was old new (Fault f) wanted steps = steps.1
as_it_was old new NoMemory wanted steps = steps.1

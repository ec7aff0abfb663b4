use Rattle.std.proofs.Common.{◌≡◌, length}
use Rattle.av_arrival.specs.Place.{behind, passed}
use Rattle.av_arrival.proofs.place.Place.pass.Given as goal

-- what came so far and what is left make all
abbrev pub invariant-loop-rest : goal.invariant-loop-rest
invariant-loop-rest l = behind l.is_whole (passed l.rest l.self) ≡ passed l.bytes l.initial.self

abbrev pub decreases-loop-rest : goal.decreases-loop-rest
decreases-loop-rest l = length l.rest

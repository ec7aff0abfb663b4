use Rattle.av_gate.specs.Seats.{IsSeatOf}
use Rattle.av_gate.proofs.tests.first_otherwise.Given as goal

abbrev pub invariant-loop-i : goal.invariant-loop-i
invariant-loop-i g l = IsSeatOf l.gate l.seat

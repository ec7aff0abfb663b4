use Rattle.av_gate.specs.Seats.{IsSeatOf}
use Rattle.av_gate.proofs.tests.shared.serves.Given as goal

abbrev pub invariant-loop : goal.invariant-loop
invariant-loop g l = IsSeatOf l.gate l.seat

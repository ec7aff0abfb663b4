use Rattle.av_gate.specs.Seats.{IsSeatOf}
use Rattle.av_gate.proofs.tests.shared.reads.Given as goal

abbrev pub invariant-loop : goal.invariant-loop
invariant-loop l = IsSeatOf l.gate l.seat

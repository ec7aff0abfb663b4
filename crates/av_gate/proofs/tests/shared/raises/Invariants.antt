use Rattle.av_gate.specs.Seats.{IsSeatOf}
use Rattle.av_gate.proofs.tests.shared.raises.Given as goal

abbrev pub invariant-loop-version : goal.invariant-loop-version
invariant-loop-version g l = IsSeatOf l.gate l.seat

use Rattle.av_gate.specs.Seats.{IsSeatOf}
use Rattle.av_shared.proofs.tests.threads.to_gate.Given as goal

abbrev pub invariant-loop-message : goal.invariant-loop-message
invariant-loop-message g l = IsSeatOf l.gate l.seat

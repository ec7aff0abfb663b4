use Rattle.av_gate.specs.Seats.{IsSeatOf}
use Rattle.av_shared.proofs.tests.threads.writes.Given as goal

abbrev pub invariant-loop-turn : goal.invariant-loop-turn
invariant-loop-turn g l = IsSeatOf l.gate l.seat

use Rattle.av_gate.specs.Seats.{IsSeatOf}
use Rattle.av_shared.proofs.tests.forged.carry_up.Given as goal

abbrev pub invariant-messages : goal.invariant-messages
invariant-messages g l = IsSeatOf l.gate l.seat

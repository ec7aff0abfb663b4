use Rattle.av_gate.specs.Seats.{IsSeatOf}
use Rattle.av_shared.proofs.tests.forged.open_all.Given as goal

abbrev pub invariant-names : goal.invariant-names
invariant-names g l = IsSeatOf l.gate l.seat

use Rattle.av_gate.specs.Seats.{IsSeatOf}
use Rattle.av_gate.proofs.tests.shared.replies.Given as goal

abbrev pub invariant-loop-seq : goal.invariant-loop-seq
invariant-loop-seq g l = IsSeatOf l.gate l.seat

use Rattle.av_gate.specs.Seats.{IsSeatOf}
use Rattle.av_host.proofs.opener.await_services.Given as goal

-- the seat is the gate's
abbrev pub invariant-looks : goal.invariant-looks
invariant-looks g l = IsSeatOf l.gate l.seat

use Rattle.av_gate.specs.Seats.{IsSeatOf}
use Rattle.av_host.proofs.opener.open_each.Given as goal

-- the seat is the gate's
abbrev pub invariant-files : goal.invariant-files
invariant-files g l = IsSeatOf l.gate l.seat

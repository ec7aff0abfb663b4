use Rattle.std.proofs.Common.{take}
use Rattle.std.specs.List.{All}
use Rattle.av_gate.specs.Claims.{Rises}
use Rattle.av_gate.proofs.checks.all_rise.Given as goal

abbrev pub invariant-loop-seat : goal.invariant-loop-seat
invariant-loop-seat l = All (Rises l.start l.events) (take l.seat-index l.seats)

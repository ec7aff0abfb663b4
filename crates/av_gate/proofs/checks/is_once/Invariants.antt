use Rattle.std.proofs.Common.{◌≡◌, take}
use Rattle.av_gate.specs.Claims.{times, digit}
use Rattle.av_gate.proofs.checks.is_once.Given as goal

abbrev pub invariant-loop-seat : goal.invariant-loop-seat
invariant-loop-seat l = times l.place (take l.seat-index l.seats) ≡ digit l.seen

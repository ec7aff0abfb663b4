use Rattle.std.proofs.Common.{◌≡◌, length, vec_len}
use Rattle.av_gate.specs.Seats.{IsSeatOf}
use Rattle.av_host.proofs.crew.open_in_threads.Given as goal

-- the seat is the gate's, and each opener so far was begun
abbrev pub invariant-openers : goal.invariant-openers
invariant-openers g l = IsSeatOf l.gate l.seat × (vec_len l.openers ≡ l.first)

-- each opener so far came back
abbrev pub invariant-threads : goal.invariant-threads
invariant-threads g l = vec_len l.all ≡ length l.yielded

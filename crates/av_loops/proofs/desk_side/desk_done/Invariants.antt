use Rattle.std.proofs.Common.{◌≡◌}
use Rattle.av_loops.proofs.desk_side.desk_done.Given as goal

-- the taker is of its pool
abbrev pub invariant-works : goal.invariant-works
invariant-works g l = l.taker.channel ≡ l.fn.taker.channel

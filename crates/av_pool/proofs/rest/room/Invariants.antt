use Rattle.std.proofs.Common.{◌≡◌}
use Rattle.av_pool.proofs.rest.room.Given as goal

abbrev pub invariant-loop : goal.invariant-loop
invariant-loop g l = l.dones.items ≡ l.initial.dones.items

use Rattle.std.proofs.Common.{◌≡◌}
use Rattle.av_pool.proofs.tests.many.take_all.Given as goal

abbrev pub invariant-loop : goal.invariant-loop
invariant-loop g l = l.taker.channel ≡ l.initial.taker.channel

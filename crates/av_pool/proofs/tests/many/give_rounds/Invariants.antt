use Rattle.std.proofs.Common.{◌≡◌}
use Rattle.av_pool.proofs.tests.many.give_rounds.Given as goal

abbrev pub invariant-loop : goal.invariant-loop
invariant-loop g l = l.giver.channel ≡ l.initial.giver.channel

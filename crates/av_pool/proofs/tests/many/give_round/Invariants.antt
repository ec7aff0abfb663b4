use Rattle.std.proofs.Common.{◌≡◌}
use Rattle.av_pool.proofs.tests.many.give_round.Given as goal

abbrev pub invariant-loop-stream : goal.invariant-loop-stream
invariant-loop-stream g l = l.giver.channel ≡ l.initial.giver.channel

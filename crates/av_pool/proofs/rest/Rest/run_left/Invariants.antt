use Rattle.std.proofs.Common.{◌≡◌}
use Rattle.crossbeam_channel.specs.Claims.{view}
use Rattle.av_pool.proofs.rest.Rest.run_left.Given as goal

abbrev pub invariant-loop : goal.invariant-loop
invariant-loop g l =
    ((view l.self.work_pass).parts ≡ (view l.initial.self.work_pass).parts)
    × ((view l.self.work_pass).put ≡ (view l.initial.self.work_pass).put)
    × (l.self.done_pass ≡ l.initial.self.done_pass)
    × (l.self.took ≡ l.initial.self.took)

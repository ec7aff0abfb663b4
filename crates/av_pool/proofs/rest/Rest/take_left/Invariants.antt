use Rattle.std.proofs.Common.{◌≡◌}
use Rattle.crossbeam_channel.specs.Claims.{view}
use Rattle.av_pool.specs.Channel.{IsLike}
use Rattle.av_pool.proofs.rest.Rest.take_left.Given as goal

abbrev pub invariant-loop : goal.invariant-loop
invariant-loop g l = IsLike l.initial.self.done_pass l.self.done_pass × ((view l.self.done_pass).parts ≡ (view l.initial.self.done_pass).parts) × (l.self.work_pass ≡ l.initial.self.work_pass) × (l.self.took ≡ l.initial.self.took)

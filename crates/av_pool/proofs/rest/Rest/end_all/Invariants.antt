use Rattle.std.proofs.Common.{◌≡◌}
use Rattle.crossbeam_channel.specs.Claims.{view}
use Rattle.av_pool.specs.Channel.{IsLike}
use Rattle.av_pool.specs.Items.{lents_of}
use Rattle.av_pool.proofs.rest.Rest.end_all.Given as goal

abbrev pub invariant-loop : goal.invariant-loop
invariant-loop g l =
    IsLike l.initial.self.work_pass l.self.work_pass
    × ((view l.self.work_pass).parts ≡ (view l.initial.self.work_pass).parts)
    × (lents_of (view l.self.work_pass).put ≡ lents_of (view l.initial.self.work_pass).put)
    × IsLike l.initial.self.done_pass l.self.done_pass
    × ((view l.self.done_pass).parts ≡ (view l.initial.self.done_pass).parts)
    × (l.self.took ≡ l.initial.self.took)

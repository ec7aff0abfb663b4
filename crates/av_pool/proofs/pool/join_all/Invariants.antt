use Rattle.std.proofs.Common.{◌≡◌, ◌+◌, ◌<◌, length, vec_len}
use Rattle.std.specs.List.{All}
use Rattle.crossbeam_channel.specs.Claims.{view}
use Rattle.av_pool.specs.Channel.{IsLike}
use Rattle.av_pool.specs.Items.{lents_of}
use Rattle.av_pool.specs.Handle.{IsHandleOf}
use Rattle.av_pool.proofs.pool.join_all.Given as goal

abbrev pub invariant-loop-worker : goal.invariant-loop-worker
invariant-loop-worker g l =
    All (IsHandleOf l.initial.rest.work_pass l.initial.rest.done_pass) l.workers.items
    × IsLike l.initial.rest.work_pass l.rest.work_pass
    × IsLike l.initial.rest.done_pass l.rest.done_pass
    × ((view l.rest.work_pass).parts + length l.workers.items ≡ (view l.initial.rest.work_pass).parts + length l.initial.workers.items)
    × (0 < (view l.rest.work_pass).parts)
    × ((view l.rest.done_pass).parts + length l.workers.items ≡ (view l.initial.rest.done_pass).parts + length l.initial.workers.items)
    × (0 < (view l.rest.done_pass).parts)
    × (lents_of (view l.rest.work_pass).put ≡ lents_of (view l.initial.rest.work_pass).put)
    × (l.rest.took ≡ l.initial.rest.took)

abbrev pub decreases-loop-worker : goal.decreases-loop-worker
decreases-loop-worker g l = vec_len l.workers

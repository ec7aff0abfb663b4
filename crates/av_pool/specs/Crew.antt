-- Workers that nobody has given a work yet.
use Rattle.std.specs.Prelude.{◌≡◌, ◌+◌, ◌≤◌, [], length}
use Rattle.std.specs.List.{All}
use Rattle.crossbeam_channel.specs.Claims.{view}
use Rattle.av_pool.specs.Handle.{IsHandleOf}
use Rattle.av_pool.specs.declared.crew.Crew.{Crew}

-- The crew's own passes have put and taken nothing, and each worker promised for its channels. With the parts of the workers
-- and one more part of each channel, which the giver and the taker have, no part is lacking.
pub record IsFresh (p : Crew) : Type 0 where
  pub few : length p.workers.items ≤ 16
  pub work_parts : (view p.work_pass).parts + length p.workers.items ≡ 1023
  pub done_parts : (view p.done_pass).parts + length p.workers.items ≡ 1023
  pub no_work : ((view p.work_pass).put ≡ []) × ((view p.work_pass).taken ≡ [])
  pub no_done : ((view p.done_pass).put ≡ []) × ((view p.done_pass).taken ≡ [])
  pub promised : All (IsHandleOf p.work_pass p.done_pass) p.workers.items

use Rattle.std.proofs.Common.{◌<◌}
use Rattle.crossbeam_channel.specs.Claims.{view, IsSeatAt}
use Rattle.crossbeam_channel.specs.Ends.{sends_on}
use Rattle.av_pool.proofs.crew.Crew.disband.Given as goal

abbrev pub invariant-loop : goal.invariant-loop
invariant-loop g l = IsSeatAt (sends_on l.works_in) l.work_pass × (0 < (view l.work_pass).parts)

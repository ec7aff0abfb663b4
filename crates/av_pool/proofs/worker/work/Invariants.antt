use Rattle.crossbeam_channel.specs.Claims.{view, IsSeatAt}
use Rattle.crossbeam_channel.specs.Ends.{sends_on, receives_on}
use Rattle.av_pool.specs.Worker.{HasSent}
use Rattle.av_pool.proofs.worker.work.Given as goal

abbrev pub invariant-loop : goal.invariant-loop
invariant-loop g l = IsSeatAt (receives_on l.works) l.mine × IsSeatAt (sends_on l.dones) l.theirs × HasSent (view l.mine) (view l.theirs)

use Rattle.crossbeam_channel.specs.Claims.{view}
use Rattle.av_pool.proofs.Sending.{grown, settles_done}
use Rattle.av_pool.proofs.rest.Rest.take_one.Goals as goal

pub invariant_of-self-clause-settles : goal.invariant_of-self-clause-settles
invariant_of-self-clause-settles g c =
    let s = c.args.self.now in
    settles_done _ _ (view s.done_pass) _ (view s.work_pass) c.receive-item.result s.settles c.receive-item.ensures.took (grown s.took.value.taken s.dones.items _ _ c.keep_back.ensures)

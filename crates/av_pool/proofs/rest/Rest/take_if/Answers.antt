use Rattle.crossbeam_channel.specs.Claims.{view}
use Rattle.av_pool.proofs.Moves.{pops, learns}
use Rattle.av_pool.proofs.Sending.{grown, settles_done}
use Rattle.av_pool.proofs.rest.Rest.take_if.Goals as goal

pub try_recv_as-requires-clause-rule : goal.try_recv_as-requires-clause-rule
try_recv_as-requires-clause-rule g c = (pops _ _ c.requires, learns _ _)

pub invariant_of-self-clause-settles : goal.invariant_of-self-clause-settles
invariant_of-self-clause-settles g c =
    let s = c.args.self.now in
    settles_done _ _ (view s.done_pass) _ (view s.work_pass) c.in-Ok.item s.settles c.in-Ok.ensures.rule (grown s.took.value.taken s.dones.items _ _ c.keep_back.ensures)

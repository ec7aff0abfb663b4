use Rattle.crossbeam_channel.specs.Claims.{view}
use Rattle.av_pool.proofs.Moves.{merges}
use Rattle.av_pool.proofs.Sending.{put_merged, settles_worker}
use Rattle.av_pool.proofs.rest.Rest.absorb.Goals as goal

pub absorb-requires-clause-rule : goal.absorb-requires-clause-rule
absorb-requires-clause-rule c = merges _ _ _ _ c.requires.works.1

pub absorb-requires-2-clause-rule : goal.absorb-requires-2-clause-rule
absorb-requires-2-clause-rule c = merges _ _ _ _ c.requires.dones.1

pub invariant_of-self-clause-settles : goal.invariant_of-self-clause-settles
invariant_of-self-clause-settles c =
    let s = c.args.self.now in
    settles_worker _ (view s.done_pass) _ (view c.args.theirs) (view s.work_pass) _ (view c.args.mine) s.settles c.requires.sent c.absorb-2.ensures.rule c.absorb.ensures.rule

pub returns-clause-put : goal.returns-clause-put
returns-clause-put c = put_merged (view c.args.self.now.work_pass) _ (view c.args.mine) c.absorb.ensures.rule c.requires.sent.no_work

use Rattle.std.proofs.Common.{ap, ◌∙◌}
use Rattle.std.proofs.lemmas.List.{append-nil}
use Rattle.crossbeam_channel.specs.Claims.{view}
use Rattle.av_pool.specs.Items.{lents_of}
use Rattle.av_pool.specs.declared.item.WorkItem.{WorkItem}
use Rattle.av_pool.specs.declared.item.WorkItem.TheVariants.{End}
use Rattle.av_pool.specs.declared.tally.PassTally.{PassTally}
use Rattle.av_pool.proofs.Moves.{pushes, learns}
use Rattle.av_pool.proofs.Sending.{given_more}
use Rattle.av_pool.proofs.rest.Rest.try_end.Goals as goal
use Rattle.av_pool.proofs.rest.Rest.try_end.Goals.{in-Ok, in-Err}

pub try_send_as-requires-clause-rule : goal.try_send_as-requires-clause-rule
try_send_as-requires-clause-rule g c = (pushes _ _ _ _ c.requires.works, learns _ _)

pub returns-clause-put : goal.returns-clause-put
returns-clause-put g c =
    elim c.match-try_send_as.branch [
      | in-Ok w ↦ given_more (view c.args.self.now.work_pass) _ End w.in-Ok.ensures.rule ∙ append-nil _
      | in-Err w ↦ ap (λ (v : PassTally WorkItem). lents_of v.put) w.in-Err.ensures.rule.1
    ]

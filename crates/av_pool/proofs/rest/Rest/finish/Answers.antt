use Rattle.std.proofs.Common.{◌≡◌, ap, sym, ◌∙◌, subst, []}
use Rattle.crossbeam_channel.specs.Claims.{view, Pass}
use Rattle.av_pool.proofs.Sending.{all_out}
use Rattle.av_pool.specs.Tally.{Knows}
use Rattle.av_pool.specs.declared.item.DoneItem.{DoneItem}
use Rattle.av_pool.specs.declared.item.WorkItem.{WorkItem}
use Rattle.av_pool.specs.declared.tally.PassTally.{PassTally}
use Rattle.av_pool.proofs.rest.Rest.finish.Goals as goal

pub returns : goal.returns
returns g c =
    let end = c.take_left.new.self in
    let mid = c.run_left.new.self in
    let works : view end.work_pass ≡ view mid.work_pass = ap view c.take_left.ensures.works in
    let knows = subst (λ (v : PassTally WorkItem). Knows v []) (sym works) c.run_left.ensures.empty in
    let work_parts = ap (λ (v : PassTally WorkItem). v.parts) works ∙ c.run_left.ensures.parts ∙ c.requires.works in
    let done_parts = c.take_left.ensures.dones.1 ∙ ap (λ (p : Pass DoneItem (PassTally DoneItem)). (view p).parts) c.run_left.ensures.dones ∙ c.requires.dones in
    let put = ap (λ (v : PassTally WorkItem). v.put) works ∙ c.run_left.ensures.put in
    let out = all_out _ (view end.done_pass) (view end.work_pass) end.settles c.take_left.ensures.empty knows done_parts work_parts in
    rw (← put, ← c.run_left.ensures.took, ← c.take_left.ensures.took) (record { all = out })

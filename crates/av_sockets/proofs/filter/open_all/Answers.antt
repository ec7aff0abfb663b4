use Rattle.std.proofs.Common.{add-one}
use Rattle.std.proofs.Math.Seq.{take-suc}
use Rattle.std.proofs.lemmas.List.{take_all}
use Rattle.av_sockets.proofs.ContentLemmas.{copied_read}
use Rattle.av_sockets.proofs.GroupLemmas.{at_end, at_start, fault_at, fault_at_end, none_told, on_err, one_more}
use Rattle.av_sockets.proofs.filter.open_all.Goals as goal

pub files-init : goal.files-init
files-init g c = at_start _ _ _ _ _ _ c.requires.empty c.requires.none

pub files-preserved : goal.files-preserved
files-preserved g c = one_more _ _ _ _ _ _ _ _ _ _ _ _ _ _ _ _ _ (copied_read (g.F.Contents.has_content c.args.named.now.files.now) _ c.content_of-content.result c.content_of-content.ensures) c.files.invariant c.in_ok-go_on.ensures.goes_on (rw add-one (take-suc _ _ _ c.files-test.true))

pub returns-clause-told : goal.returns-clause-told
returns-clause-told g c = at_end _ _ _ _ _ _ _ _ _ _ _ _ _ _ _ c.files.invariant c.open_group.ensures.opened (take_all _ _ c.files-test.false)

pub returns-clause-so_far : goal.returns-clause-so_far
returns-clause-so_far g c = fault_at_end _ _ _ _ _ c.open_group.result _ _ _ _ _ _ _ c.files.invariant c.open_group.ensures.part (take_all _ _ c.files-test.false)

pub returns-in_default-clause-so_far : goal.returns-in_default-clause-so_far
returns-in_default-clause-so_far g c = none_told _ _ _ _ _ _

pub returns-in_err-go_on-clause-so_far : goal.returns-in_err-go_on-clause-so_far
returns-in_err-go_on-clause-so_far g c = on_err c.from_residual.result
    (fault_at _ _ _ _ _ _ _ _ _ _ _ _ _ _ (rw add-one (take-suc _ _ _ c.files-test.true)) (copied_read (g.F.Contents.has_content c.args.named.now.files.now) _ c.content_of-content.result c.content_of-content.ensures) c.files.invariant c.in_err-go_on.ensures.part)

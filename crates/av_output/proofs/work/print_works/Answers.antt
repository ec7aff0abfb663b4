use Rattle.std.proofs.Common.{◌≡◌, ◌+◌, arith, ap, subst}
use Rattle.av_base.proofs.DeviceLemmas.{writes_failed}
use Rattle.av_base.specs.Device.{AppendsPrefix}
use Rattle.av_output.proofs.PlacedLemmas.{placed_broke, placed_wrote}
use Rattle.av_output.specs.Text.Messages.{work_text, placed}
use Rattle.av_output.proofs.work.print_works.Goals as goal

pub loop-index-preserved : goal.loop-index-preserved
loop-index-preserved g c =
    let place : c.args.from + c.loop-index.index + 1 ≡ c.args.from + 1 + c.loop-index.index = omega arith in
    placed_wrote (work_text) _ _ _ _ c.loop-index-test.true c.work-item.is _ place _ _ _ c.loop-index.invariant c.in_ok-print_work.ensures

pub returns-in_err-print_work : goal.returns-in_err-print_work
returns-in_err-print_work g c =
    let place : c.args.from + c.loop-index.index + 1 ≡ c.args.from + 1 + c.loop-index.index = omega arith in
    writes_failed _ _ _ _ c.from_residual.ensures.0
    (subst (AppendsPrefix (g.W.Write.contents c.args.writer.now) (g.W.Write.contents c.print_work.new.writer)) (ap (placed (work_text) (c.args.from + 1)) c.part-work-items.ensures.items)
    (placed_broke (work_text) _ _ _ _ c.loop-index-test.true c.work-item.is _ place _ _ _ c.loop-index.invariant c.in_err-print_work.ensures))

use Rattle.std.proofs.Common.{◌++◌, subst}
use Rattle.av_base.proofs.DeviceLemmas.{prefix_before, writes_after, writes_failed}
use Rattle.av_base.specs.Device.{AppendsPrefix, Writes}
use Rattle.av_output.specs.Text.Answers.{answers_text, pended_text}
use Rattle.av_output.proofs.report.print_opens.Goals as goal

pub returns-in_err-print_answers : goal.returns-in_err-print_answers
returns-in_err-print_answers g c =
    writes_failed _ _ _ _ c.from_residual.ensures.0
    (subst (λ given. AppendsPrefix (g.W.Write.contents c.args.writer.now) (g.W.Write.contents c.print_answers.new.writer) (answers_text given ++ pended_text c.args.report.now.note given))
    c.part-given.ensures.items (prefix_before _ _ _ (pended_text c.args.report.now.note c.part-given.result.now) c.in_err-print_answers.ensures))

pub returns : goal.returns
returns g c =
    subst (λ given. Writes c.print_pended.result (g.W.Write.contents c.args.writer.now) (g.W.Write.contents c.print_pended.new.writer) (answers_text given ++ pended_text c.args.report.now.note given))
    c.part-given.ensures.items (writes_after c.print_pended.result _ _ _ _ _ c.in_ok-print_answers.ensures c.print_pended.ensures)

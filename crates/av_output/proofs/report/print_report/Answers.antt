use Rattle.av_base.proofs.DeviceLemmas.{prefix_after, prefix_before, writes_after, writes_all, writes_failed}
use Rattle.av_output.proofs.report.print_report.Goals as goal

pub returns-in_err-print_line : goal.returns-in_err-print_line
returns-in_err-print_line g c = writes_failed _ _ _ _ c.from_residual.ensures.0 (prefix_before _ _ _ _ c.in_err-print_line.ensures)

pub returns-in_err-print_opens : goal.returns-in_err-print_opens
returns-in_err-print_opens g c =
    writes_failed _ _ _ _ c.from_residual-in_err-print_opens.ensures.0 (prefix_after _ _ _ _ _ c.in_ok-print_line.ensures (prefix_before _ _ _ _ c.in_err-print_opens.ensures))

pub returns-in_err-print_sent : goal.returns-in_err-print_sent
returns-in_err-print_sent g c =
    writes_failed _ _ _ _ c.from_residual-in_err-print_sent.ensures.0
    (prefix_after _ _ _ _ _ c.in_ok-print_line.ensures
    (prefix_after _ _ _ _ _ c.in_ok-print_opens.ensures (prefix_before _ _ _ _ c.in_err-print_sent.ensures)))

pub returns : goal.returns
returns g c =
    writes_after c.print_note.result _ _ _ _ _ c.in_ok-print_line.ensures
    (writes_after c.print_note.result _ _ _ _ _ c.in_ok-print_opens.ensures
    (writes_after c.print_note.result _ _ _ _ _ c.in_ok-print_sent.ensures (writes_all c.print_note.result _ _ _ c.print_note.ensures)))

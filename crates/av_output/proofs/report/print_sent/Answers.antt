use Rattle.av_base.proofs.DeviceLemmas.{prefix_after, prefix_before, writes_after, writes_all, writes_failed}
use Rattle.av_output.proofs.report.print_sent.Goals as goal

pub returns-in_err-print_messages : goal.returns-in_err-print_messages
returns-in_err-print_messages g c = writes_failed _ _ _ _ c.from_residual.ensures.0 (prefix_before _ _ _ _ c.in_err-print_messages.ensures)

pub returns-in_err-print_messages-2 : goal.returns-in_err-print_messages-2
returns-in_err-print_messages-2 g c =
    writes_failed _ _ _ _ c.from_residual-in_err-print_messages-2.ensures.0 (prefix_after _ _ _ _ _ c.in_ok-print_messages.ensures (prefix_before _ _ _ _ c.in_err-print_messages-2.ensures))

pub returns : goal.returns
returns g c =
    writes_after c.print_works.result _ _ _ _ _ c.in_ok-print_messages.ensures
    (writes_after c.print_works.result _ _ _ _ _ c.in_ok-print_messages-2.ensures (writes_all c.print_works.result _ _ _ c.print_works.ensures))

use Rattle.std.proofs.Common.{sym, subst}
use Rattle.av_base.proofs.DeviceLemmas.{prefix_after, prefix_before, writes_after, writes_failed}
use Rattle.av_base.specs.Device.{AppendsPrefix, Writes}
use Rattle.av_output.proofs.ToldLemmas.{line_told}
use Rattle.av_output.proofs.message.print_told.Goals as goal

pub returns-in_err-write_parts : goal.returns-in_err-write_parts
returns-in_err-write_parts g c =
    rw (sym c.as_bytes.ensures.value)
    (writes_failed _ _ _ _ c.from_residual.ensures.0
    (subst (AppendsPrefix (g.W.Write.contents c.args.writer.now) (g.W.Write.contents c.write_parts.new.writer))
    (sym (line_told c.args.list.now c.as_bytes.result.now c.args.end.now c.args.number c.args.told.now.fields))
    (prefix_before _ _ _ _ c.in_err-write_parts.ensures)))

pub returns-in_err-print_fields : goal.returns-in_err-print_fields
returns-in_err-print_fields g c =
    rw (sym c.as_bytes.ensures.value)
    (writes_failed _ _ _ _ c.from_residual-in_err-print_fields.ensures.0
    (subst (AppendsPrefix (g.W.Write.contents c.args.writer.now) (g.W.Write.contents c.print_fields.new.writer))
    (sym (line_told c.args.list.now c.as_bytes.result.now c.args.end.now c.args.number c.args.told.now.fields))
    (prefix_after _ _ _ _ _ c.in_ok-write_parts.ensures (prefix_before _ _ _ _ c.in_err-print_fields.ensures))))

pub returns : goal.returns
returns g c =
    rw (sym c.as_bytes.ensures.value)
    (subst (Writes c.write_text.result (g.W.Write.contents c.args.writer.now) (g.W.Write.contents c.write_text.new.writer))
    (sym (line_told c.args.list.now c.as_bytes.result.now c.args.end.now c.args.number c.args.told.now.fields))
    (writes_after c.write_text.result _ _ _ _ _ c.in_ok-write_parts.ensures
    (writes_after c.write_text.result _ _ _ _ _ c.in_ok-print_fields.ensures c.write_text.ensures)))

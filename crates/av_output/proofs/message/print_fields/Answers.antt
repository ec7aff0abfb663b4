use Rattle.std.proofs.Common.{rules, add-one, sym, subst, map, drop, suc, get_or}
use Rattle.std.proofs.KnownBytes.{Appends-trans}
use Rattle.std.specs.Io.KnownBytes.{Appends}
use Rattle.av_base.proofs.DeviceLemmas.{prefix_after, prefix_before, writes_failed}
use Rattle.av_base.proofs.PartLemmas.{spelt_around, spelt_next}
use Rattle.av_base.specs.Device.{AppendsPrefix}
use Rattle.av_base.specs.Part.{spelt}
use Rattle.av_output.specs.declared.told.Field.TheVariants.{Id}
use Rattle.av_output.specs.declared.told.Field.{Field}
use Rattle.av_output.specs.Text.Messages.{field_text}
use Rattle.av_output.proofs.message.print_fields.Goals as goal

-- what a list of fields has past its end
abbrev nothing : Field
nothing = Id (record { boot = 0; seq = 0 })

pub loop-field-preserved : goal.loop-field-preserved
loop-field-preserved g c =
    let at = c.loop-field.field-index in
    let wrote : Appends (g.W.Write.contents c.loop-field.writer) (g.W.Write.contents c.print_field.new.writer) (field_text (get_or c.args.fields.now at nothing)) =
    search rules in
    rw add-one
    (subst (Appends (g.W.Write.contents c.args.writer.now) (g.W.Write.contents c.print_field.new.writer))
    (sym (spelt_next field_text c.args.fields.now at nothing c.loop-field-test.true)) (Appends-trans _ _ _ _ _ c.loop-field.invariant wrote))

pub returns-in_err-print_field : goal.returns-in_err-print_field
returns-in_err-print_field g c =
    let at = c.loop-field.field-index in
    let wrote : AppendsPrefix (g.W.Write.contents c.loop-field.writer) (g.W.Write.contents c.print_field.new.writer) (field_text (get_or c.args.fields.now at nothing)) =
    search rules in
    writes_failed _ _ _ _ c.from_residual.ensures.0
    (subst (AppendsPrefix (g.W.Write.contents c.args.writer.now) (g.W.Write.contents c.print_field.new.writer))
    (spelt_around field_text c.args.fields.now at nothing c.loop-field-test.true)
    (prefix_after _ _ _ _ _ c.loop-field.invariant (prefix_before _ _ _ (spelt (map field_text (drop (suc at) c.args.fields.now))) wrote)))

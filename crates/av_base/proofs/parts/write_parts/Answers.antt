use Rattle.std.proofs.Common.{rules, [], add-one, sym, subst, map, drop, suc, get_or}
use Rattle.std.proofs.KnownBytes.{Appends-trans}
use Rattle.std.specs.Io.KnownBytes.{Appends}
use Rattle.av_base.proofs.DeviceLemmas.{prefix_after, prefix_before}
use Rattle.av_base.specs.Device.{AppendsPrefix}
use Rattle.av_base.specs.declared.parts.Part.TheVariants.{Text}
use Rattle.av_base.specs.declared.parts.Part.{Part}
use Rattle.av_base.specs.Part.{part_text, spelt}
use Rattle.av_base.proofs.PartLemmas.{spelt_around, spelt_next}
use Rattle.av_base.proofs.parts.write_parts.Goals as goal

-- what a list of parts has past its end
abbrev nothing : Part
nothing = Text (record { ref_ptr = (0, 0); now = [] })

pub loop-part-preserved : goal.loop-part-preserved
loop-part-preserved g c =
    let wrote : Appends (g.W.Write.contents c.loop-part.writer) (g.W.Write.contents c.write_part.new.writer) (part_text (get_or c.args.parts.now c.loop-part.part-index nothing)) =
    search rules in
    rw add-one
    (subst (Appends (g.W.Write.contents c.args.writer.now) (g.W.Write.contents c.write_part.new.writer))
    (sym (spelt_next part_text c.args.parts.now c.loop-part.part-index nothing c.loop-part-test.true))
    (Appends-trans _ _ _ _ _ c.loop-part.invariant wrote))

pub returns-then-is_err : goal.returns-then-is_err
returns-then-is_err g c =
    let wrote : AppendsPrefix (g.W.Write.contents c.loop-part.writer) (g.W.Write.contents c.write_part.new.writer) (part_text (get_or c.args.parts.now c.loop-part.part-index nothing)) =
    search rules in
    subst (AppendsPrefix (g.W.Write.contents c.args.writer.now) (g.W.Write.contents c.write_part.new.writer))
    (spelt_around part_text c.args.parts.now c.loop-part.part-index nothing c.loop-part-test.true)
    (prefix_after _ _ _ _ _ c.loop-part.invariant (prefix_before _ _ _ (spelt (map part_text (drop (suc c.loop-part.part-index) c.args.parts.now))) wrote))

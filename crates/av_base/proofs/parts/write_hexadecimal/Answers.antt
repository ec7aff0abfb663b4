use Rattle.std.proofs.Common.{rules, arith, ap, add-one, sym, ◌∙◌, subst, map, drop, suc, get_or}
use Rattle.std.proofs.lemmas.List.{take_all}
use Rattle.std.proofs.KnownBytes.{Appends-trans}
use Rattle.std.specs.Io.KnownBytes.{Appends}
use Rattle.av_base.proofs.DeviceLemmas.{prefix_after, prefix_before}
use Rattle.av_base.specs.Device.{AppendsPrefix}
use Rattle.av_base.specs.Part.{digits_of, spelt}
use Rattle.av_base.proofs.PartLemmas.{spelt_around, spelt_digits, spelt_next}
use Rattle.av_base.proofs.parts.write_hexadecimal.Goals as goal

pub loop-byte-preserved : goal.loop-byte-preserved
loop-byte-preserved g c =
    let wrote : Appends (g.W.Write.contents c.loop-byte.writer) (g.W.Write.contents c.write_byte.new.writer) (digits_of (get_or c.args.bytes.now c.loop-byte.byte-index 0)) =
    search rules in
    rw add-one
    (subst (Appends (g.W.Write.contents c.args.writer.now) (g.W.Write.contents c.write_byte.new.writer))
    (sym (spelt_next digits_of c.args.bytes.now c.loop-byte.byte-index 0 c.loop-byte-test.true))
    (Appends-trans _ _ _ _ _ c.loop-byte.invariant wrote))

pub returns-then-is_err : goal.returns-then-is_err
returns-then-is_err g c =
    let wrote : AppendsPrefix (g.W.Write.contents c.loop-byte.writer) (g.W.Write.contents c.write_byte.new.writer) (digits_of (get_or c.args.bytes.now c.loop-byte.byte-index 0)) =
    search rules in
    subst (AppendsPrefix (g.W.Write.contents c.args.writer.now) (g.W.Write.contents c.write_byte.new.writer))
    (spelt_around digits_of c.args.bytes.now c.loop-byte.byte-index 0 c.loop-byte-test.true ∙ spelt_digits c.args.bytes.now)
    (prefix_after _ _ _ _ _ c.loop-byte.invariant (prefix_before _ _ _ (spelt (map digits_of (drop (suc c.loop-byte.byte-index) c.args.bytes.now))) wrote))

pub returns : goal.returns
returns g c =
    let whole = take_all c.loop-byte.byte-index c.args.bytes.now (omega arith) in
    subst (Appends (g.W.Write.contents c.args.writer.now) (g.W.Write.contents c.loop-byte.writer))
    (ap (λ bs. spelt (map digits_of bs)) whole ∙ spelt_digits c.args.bytes.now) c.loop-byte.invariant

use Rattle.std.proofs.Common.{add-one, ap, sym, subst, map, drop, suc}
use Rattle.std.proofs.KnownBytes.{Appends-trans}
use Rattle.std.specs.Io.KnownBytes.{Appends}
use Rattle.av_base.proofs.DeviceLemmas.{prefix_after, prefix_before, writes_failed}
use Rattle.av_base.proofs.PartLemmas.{spelt_around, spelt_next}
use Rattle.av_base.specs.Device.{AppendsPrefix}
use Rattle.av_base.specs.Part.{spelt}
use Rattle.av_output.specs.Text.Answers.{given_text}
use Rattle.av_output.proofs.answer.print_answers.Goals as goal

pub loop-given-preserved : goal.loop-given-preserved
loop-given-preserved g c =
    let wrote =
    subst (Appends (g.W.Write.contents c.loop-given.writer) (g.W.Write.contents c.print_answer.new.writer)) (ap given_text c.given-item.is) c.in_ok-print_answer.ensures in
    rw add-one
    (subst (Appends (g.W.Write.contents c.args.writer.now) (g.W.Write.contents c.print_answer.new.writer))
    (sym (spelt_next given_text c.args.answers.now c.loop-given.given-index c.given-item.result c.loop-given-test.true))
    (Appends-trans _ _ _ _ _ c.loop-given.invariant wrote))

pub returns-in_err-print_answer : goal.returns-in_err-print_answer
returns-in_err-print_answer g c =
    let wrote =
    subst (AppendsPrefix (g.W.Write.contents c.loop-given.writer) (g.W.Write.contents c.print_answer.new.writer)) (ap given_text c.given-item.is) c.in_err-print_answer.ensures in
    writes_failed _ _ _ _ c.from_residual.ensures.0
    (subst (AppendsPrefix (g.W.Write.contents c.args.writer.now) (g.W.Write.contents c.print_answer.new.writer))
    (spelt_around given_text c.args.answers.now c.loop-given.given-index c.given-item.result c.loop-given-test.true)
    (prefix_after _ _ _ _ _ c.loop-given.invariant (prefix_before _ _ _ (spelt (map given_text (drop (suc c.loop-given.given-index) c.args.answers.now))) wrote)))

use Rattle.std.proofs.Common.{add-one, ap, drop, subst, suc, sym}
use Rattle.std.proofs.KnownBytes.{Appends-trans}
use Rattle.std.specs.Io.KnownBytes.{Appends}
use Rattle.av_base.proofs.DeviceLemmas.{prefix_after, prefix_before}
use Rattle.av_base.specs.Device.{AppendsPrefix}
use Rattle.avguard.proofs.ToldLemmas.{lines_around, lines_next}
use Rattle.avguard.specs.Told.{told_line, told_lines}
use Rattle.avguard.proofs.told.print_each.Goals as goal

pub loop-file-preserved : goal.loop-file-preserved
loop-file-preserved g c =
    let wrote =
    subst (Appends (g.W.Write.contents c.loop-file.out) (g.W.Write.contents c.print_one.new.out))
    (ap (told_line c.args.wishes) c.file-item.is) c.in-Ok.ensures.line in
    rw add-one
    (subst (Appends (g.W.Write.contents c.args.out.now) (g.W.Write.contents c.print_one.new.out))
    (sym (lines_next (told_line c.args.wishes) c.args.told.now c.loop-file.file-index c.file-item.result c.loop-file-test.true))
    (Appends-trans _ _ _ _ _ c.loop-file.invariant wrote))

pub returns-in-Err-clause-lines : goal.returns-in-Err-clause-lines
returns-in-Err-clause-lines g c =
    let wrote =
    subst (AppendsPrefix (g.W.Write.contents c.loop-file.out) (g.W.Write.contents c.print_one.new.out))
    (ap (told_line c.args.wishes) c.file-item.is) c.in-Err.ensures.line in
    subst (AppendsPrefix (g.W.Write.contents c.args.out.now) (g.W.Write.contents c.print_one.new.out))
    (lines_around (told_line c.args.wishes) c.args.told.now c.loop-file.file-index c.file-item.result c.loop-file-test.true)
    (prefix_after _ _ _ _ _ c.loop-file.invariant
    (prefix_before _ _ _ (told_lines c.args.wishes (drop (suc c.loop-file.file-index) c.args.told.now)) wrote))

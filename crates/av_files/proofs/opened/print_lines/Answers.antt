use Rattle.std.proofs.Common.{add-one, ap, drop, map, subst, suc, sym}
use Rattle.std.proofs.KnownBytes.{Appends-trans}
use Rattle.std.specs.Io.KnownBytes.{Appends}
use Rattle.std.specs.List.{filter}
use Rattle.av_base.proofs.DeviceLemmas.{prefix_after, prefix_before}
use Rattle.av_base.specs.Device.{AppendsPrefix}
use Rattle.av_base.specs.Part.{spelt}
use Rattle.av_files.proofs.LineLemmas.{shown_around, shown_next}
use Rattle.av_files.specs.Opened.{is_shown, line_of, opened_line}
use Rattle.av_files.proofs.opened.print_lines.Goals as goal

pub loop-file-preserved : goal.loop-file-preserved
loop-file-preserved g c =
    let wrote =
    subst (Appends (g.W.Write.contents c.loop-file.out) (g.W.Write.contents c.print_shown.new.out))
    (ap (opened_line c.args.wishes) c.file-item.is) c.in-Ok.ensures in
    rw add-one
    (subst (Appends (g.W.Write.contents c.args.out.now) (g.W.Write.contents c.print_shown.new.out))
    (sym (shown_next (line_of c.args.wishes.form) (is_shown c.args.wishes.shown) c.args.opened.now c.loop-file.file-index c.file-item.result c.loop-file-test.true))
    (Appends-trans _ _ _ _ _ c.loop-file.invariant wrote))

pub returns-in-Err : goal.returns-in-Err
returns-in-Err g c =
    let line = line_of c.args.wishes.form in
    let shows = is_shown c.args.wishes.shown in
    let wrote =
    subst (AppendsPrefix (g.W.Write.contents c.loop-file.out) (g.W.Write.contents c.print_shown.new.out))
    (ap (opened_line c.args.wishes) c.file-item.is) c.in-Err.ensures in
    subst (AppendsPrefix (g.W.Write.contents c.args.out.now) (g.W.Write.contents c.print_shown.new.out))
    (shown_around line shows c.args.opened.now c.loop-file.file-index c.file-item.result c.loop-file-test.true)
    (prefix_after _ _ _ _ _ c.loop-file.invariant
    (prefix_before _ _ _ (spelt (map line (filter shows (drop (suc c.loop-file.file-index) c.args.opened.now)))) wrote))

use Rattle.std.proofs.Common.{◌≡◌, ◌∙◌, ◌∷◌, Result, Ok, Err, subst, sym}
use Rattle.std.specs.Prelude.{OnErr, is_some}
use Rattle.av_scan.proofs.WayLemmas.{begun, on_its_way, one_told, told_in_part, known}
use Rattle.av_scan.specs.Coming.{IsUnderWay}
use Rattle.av_scan.specs.Told.{name_of}
use Rattle.av_scan.specs.declared.coming.Coming.TheVariants.{More}
use Rattle.av_scan.proofs.on.scan_line.Goals as goal

on_err : {A E : Type 0} {P : Type 0} (r : Result A E) → P → OnErr r P
on_err (Ok a) p = tt
on_err (Err e) p = p

pub files-init : goal.files-init
files-init g c =
    subst
    (λ waiting. IsUnderWay g.T.Truth.is_true (is_some c.args.by.scanning.now.folder) c.args.by.scanning.now.wishes c.args.by.scanners.now c.args.tally.now c.args.tally.now (g.W.Write.contents c.args.out.now) (g.W.Write.contents c.args.out.now) c.args.feed.now More waiting c.args.feed.now)
    (sym c.requires.empty) (begun _ _ _ _ _ _ _)

pub files-preserved : goal.files-preserved
files-preserved g c =
    let line : c.come-coming.new.line ≡ name_of c.in-Some.judged.told ∷ c.take.new.self = sym c.is_due.ensures ∙ c.in-Some.ensures in
    let way = on_its_way _ _ _ _ _ _ _ _ _ _ _ _ _ _ _ c.files.invariant c.come-coming.ensures in
    let first =
    subst
    (λ waiting. IsUnderWay g.T.Truth.is_true (is_some c.args.by.scanning.now.folder) c.args.by.scanning.now.wishes c.args.by.scanners.now c.args.tally.now c.files.tally (g.W.Write.contents c.args.out.now) (g.W.Write.contents c.files.out) c.args.feed.now c.come-coming.result waiting c.come-coming.new.feed)
    line way in
    one_told _ _ _ _ _ _ _ _ _ _ _ _ _ _ _ _ _ first (known _ _ c.in-Some.judged.holds) c.in_ok-report.ensures.line c.in_ok-report.ensures.counted c.put_away.ensures

pub returns-in_err-report-clause-so_far : goal.returns-in_err-report-clause-so_far
returns-in_err-report-clause-so_far g c =
    let line : c.come-coming.new.line ≡ name_of c.in-Some.judged.told ∷ c.take.new.self = sym c.is_due.ensures ∙ c.in-Some.ensures in
    let way = on_its_way _ _ _ _ _ _ _ _ _ _ _ _ _ _ _ c.files.invariant c.come-coming.ensures in
    let first =
    subst
    (λ waiting. IsUnderWay g.T.Truth.is_true (is_some c.args.by.scanning.now.folder) c.args.by.scanning.now.wishes c.args.by.scanners.now c.args.tally.now c.files.tally (g.W.Write.contents c.args.out.now) (g.W.Write.contents c.files.out) c.args.feed.now c.come-coming.result waiting c.come-coming.new.feed)
    line way in
    on_err c.from_residual.result (told_in_part _ _ _ _ _ _ _ _ _ _ _ _ _ _ _ first (known _ _ c.in-Some.judged.holds) c.in_err-report.ensures.line)

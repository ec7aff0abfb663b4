use Rattle.std.proofs.Common.{rules, ◌≡◌, ◌∷◌, None, Result, Ok, Err, Some, ap, map, subst}
use Rattle.std.specs.Prelude.{OnErr, is_some}
use Rattle.av_scan.proofs.WayLemmas.{begun_over, known, one_told, told_in_part}
use Rattle.av_scan.specs.Coming.{IsUnderWay}
use Rattle.av_scan.specs.Told.{name_of}
use Rattle.av_scan.specs.declared.coming.Coming.TheVariants.{Over}
use Rattle.av_scan.proofs.ended.print_each.Goals as goal

on_err : {A E : Type 0} {P : Type 0} (r : Result A E) → P → OnErr r P
on_err (Ok a) p = tt
on_err (Err e) p = p

pub files-init : goal.files-init
files-init g c = begun_over _ _ _ _ _ _ _

pub files-preserved : goal.files-preserved
files-preserved g c =
    let is : c.files.rest.now ≡ c.in-Some.judged.now ∷ c.in-Some.after.now = search rules in
    let first =
    subst
    (λ waiting. IsUnderWay g.T.Truth.is_true (is_some c.args.by.scanning.now.folder) c.args.by.scanning.now.wishes c.args.by.scanners.now c.args.tally.now c.files.tally (g.W.Write.contents c.args.out.now) (g.W.Write.contents c.files.out) (Some (map (λ j. name_of j.told) c.args.all.now)) Over waiting None)
    (ap (map (λ j. name_of j.told)) is) c.files.invariant in
    one_told _ _ _ _ _ _ _ _ _ _ _ _ _ _ _ _ _ first (known _ _ c.in-Some.judged.now.holds) c.in_ok-report.ensures.line c.in_ok-report.ensures.counted c.put_away.ensures

pub returns-in_err-report-clause-so_far : goal.returns-in_err-report-clause-so_far
returns-in_err-report-clause-so_far g c =
    let is : c.files.rest.now ≡ c.in-Some.judged.now ∷ c.in-Some.after.now = search rules in
    let first =
    subst
    (λ waiting. IsUnderWay g.T.Truth.is_true (is_some c.args.by.scanning.now.folder) c.args.by.scanning.now.wishes c.args.by.scanners.now c.args.tally.now c.files.tally (g.W.Write.contents c.args.out.now) (g.W.Write.contents c.files.out) (Some (map (λ j. name_of j.told) c.args.all.now)) Over waiting None)
    (ap (map (λ j. name_of j.told)) is) c.files.invariant in
    on_err c.from_residual.result (told_in_part _ _ _ _ _ _ _ _ _ _ _ _ _ _ _ first (known _ _ c.in-Some.judged.now.holds) c.in_err-report.ensures.line)

use Rattle.std.proofs.Common.{Some, map, subst}
use Rattle.std.specs.Prelude.{is_some}
use Rattle.av_scan.proofs.EndLemmas.{ended}
use Rattle.av_status.proofs.StatusLemmas.{alone}
use Rattle.av_scan.specs.Outcome.{AreScanned, failed}
use Rattle.av_scan.specs.Told.{name_of}
use Rattle.av_status.specs.declared.status.Status.TheVariants.{Done}
use Rattle.av_scan.proofs.ended.print_all.Goals as goal

pub returns-in-Ok : goal.returns-in-Ok
returns-in-Ok g c =
    let scanned =
    subst
    (λ before. AreScanned g.T.Truth.is_true (is_some c.args.by.scanning.now.folder) c.args.by.scanning.now.wishes c.args.by.scanners.now before c.print_each.new.tally (g.W.Write.contents c.args.out.now) (g.W.Write.contents c.print_each.new.out) (Some (map (λ j. name_of j.told) c.args.all.now)))
    c.new-tally.ensures c.in-Ok.ensures.scanned in
    ended _ _ _ _ _ c.print_each.new.tally _ _ (g.W.Write.contents c.print_each.new.out) _ _ _ scanned c.end_well.ensures

pub returns-in-Err : goal.returns-in-Err
returns-in-Err g c = failed c.in-Err.status Done c.in-Err.ensures.so_far c.in-Err.ensures.fault (alone c.in-Err.status c.in-Err.ensures.fault)

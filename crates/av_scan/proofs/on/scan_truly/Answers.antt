use Rattle.std.proofs.Common.{subst, sym}
use Rattle.std.specs.Prelude.{is_some}
use Rattle.av_scan.proofs.EndLemmas.{ended, failed_at_first}
use Rattle.av_scan.specs.Outcome.{AreScanned, AreScannedSoFar, failed}
use Rattle.av_status.specs.Status.{IsFault}
use Rattle.av_scan.proofs.on.scan_truly.Goals as goal

pub returns-in_default : goal.returns-in_default
returns-in_default g c = failed_at_first _ _ _ _ _ _ _ c.out_of_memory.result (subst IsFault (sym c.out_of_memory.ensures) tt)

pub returns-in-Ok : goal.returns-in-Ok
returns-in-Ok g c =
    let scanned =
    subst
    (λ sets. AreScanned g.T.Truth.is_true (is_some c.args.scanning.now.folder) c.args.scanning.now.wishes sets c.args.tally c.scan_line-done.new.tally (g.W.Write.contents c.args.out.now) (g.W.Write.contents c.scan_line-done.new.out) c.args.feed.now)
    c.deref.ensures c.in-Ok.ensures.scanned in
    ended _ _ _ _ _ c.scan_line-done.new.tally _ _ (g.W.Write.contents c.scan_line-done.new.out) _ _ _ scanned c.end_well.ensures

pub returns-in-Err : goal.returns-in-Err
returns-in-Err g c =
    let so_far =
    subst
    (λ sets. AreScannedSoFar g.T.Truth.is_true c.args.scanning.now.wishes sets (g.W.Write.contents c.args.out.now) (g.W.Write.contents c.scan_line-done.new.out))
    c.deref.ensures c.in-Err.ensures.so_far in
    failed c.in-Err.status c.scan_line-done.new.tally.worst so_far c.in-Err.ensures.fault c.or_graver.ensures

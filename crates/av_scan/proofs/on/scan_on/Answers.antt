use Rattle.std.proofs.Common.{subst, sym}
use Rattle.std.specs.Prelude.{is_some}
use Rattle.av_scan.proofs.EndLemmas.{failed_at_first}
use Rattle.av_scan.specs.Outcome.{Ends}
use Rattle.av_scan.specs.Told.{AreFindings}
use Rattle.av_status.specs.Status.{IsFault}
use Rattle.av_scan.proofs.on.scan_on.Goals as goal

pub returns-in-Ok : goal.returns-in-Ok
returns-in-Ok g c =
    subst
    (λ sets. Ends (AreFindings c.args.scanning.now.matches c.args.scanning.now.max_size (g.O.Opening.is_of c.args.scanning.now.files) g.F.Read.remaining sets) (is_some c.args.scanning.now.folder) c.args.scanning.now.wishes sets c.args.tally (g.W.Write.contents c.args.out.now) (g.W.Write.contents c.scan_truly.new.out) c.args.feed.now c.scan_truly.result)
    c.in-Ok.ensures.ok c.scan_truly.ensures

pub returns : goal.returns
returns g c = failed_at_first _ _ _ _ _ _ _ c.out_of_memory.result (subst IsFault (sym c.out_of_memory.ensures) tt)

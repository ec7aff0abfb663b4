use Rattle.std.proofs.Common.{◌≡◌, ◌∙◌, Some, ap, map, subst, sym}
use Rattle.std.specs.Arc.{arc_value}
use Rattle.std.specs.Prelude.{IfSome, is_some}
use Rattle.av_scan.proofs.EndLemmas.{failed_at_first}
use Rattle.av_scan.specs.Outcome.{Ends}
use Rattle.av_scan.specs.Told.{name_of}
use Rattle.av_status.specs.Status.{IsFault}
use Rattle.av_status.specs.Tally.{no_files}
use Rattle.av_scan.proofs.ended.all_truly.Goals as goal

pub returns-in_default : goal.returns-in_default
returns-in_default g c = failed_at_first _ _ _ _ _ _ _ c.out_of_memory.result (subst IsFault (sym c.out_of_memory.ensures) tt)

pub returns-in-Ok : goal.returns-in-Ok
returns-in-Ok g c =
    let names : map (λ j. name_of j.told) c.in-Ok.all.items ≡ map (λ n. n.now) c.args.names.now =
    subst (λ left. IfSome left (λ names. map (λ j. name_of j.told) c.in-Ok.all.items ≡ names)) c.new-feed.ensures c.in-Ok.ensures.names in
    let same = ap (λ all. Some (map (λ j. name_of j.told) all)) c.as_slice.ensures.value ∙ ap Some names in
    subst
    (λ all. Ends g.T.Truth.is_true (is_some c.args.scanning.now.folder) c.args.scanning.now.wishes (arc_value c.args.scanners.now) no_files (g.W.Write.contents c.args.out.now) (g.W.Write.contents c.print_all.new.out) all c.print_all.result)
    same
    (subst
    (λ sets. Ends g.T.Truth.is_true (is_some c.args.scanning.now.folder) c.args.scanning.now.wishes sets no_files (g.W.Write.contents c.args.out.now) (g.W.Write.contents c.print_all.new.out) (Some (map (λ j. name_of j.told) c.as_slice.result.now)) c.print_all.result)
    c.deref.ensures c.print_all.ensures)

pub returns : goal.returns
returns g c = failed_at_first _ _ _ _ _ _ _ c.in-Err.status c.in-Err.ensures.fault

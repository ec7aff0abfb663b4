use Rattle.std.proofs.Common.{None, Some, length, map}
use Rattle.std.specs.Prelude.{is_some}
use Rattle.av_scan.specs.Coming.{IsUnderWay}
use Rattle.av_scan.specs.Told.{name_of}
use Rattle.av_scan.specs.declared.coming.Coming.TheVariants.{Over}
use Rattle.av_scan.proofs.ended.print_each.Given as goal

-- what was told so far
abbrev pub invariant-files : goal.invariant-files
invariant-files g l =
    IsUnderWay g.T.Truth.is_true (is_some l.fn.by.scanning.now.folder) l.fn.by.scanning.now.wishes l.fn.by.scanners.now l.fn.tally l.tally (g.W.Write.contents l.fn.out) (g.W.Write.contents l.out) (Some (map (λ j. name_of j.told) l.fn.all)) Over (map (λ j. name_of j.told) l.rest) None

abbrev pub decreases-files : goal.decreases-files
decreases-files g l = length l.rest

use Rattle.std.specs.Prelude.{is_some}
use Rattle.av_scan.specs.Coming.{IsUnderWay}
use Rattle.av_scan.proofs.on.scan_line.Given as goal

-- what was told so far
abbrev pub invariant-files : goal.invariant-files
invariant-files g l = IsUnderWay g.T.Truth.is_true (is_some l.fn.by.scanning.now.folder) l.fn.by.scanning.now.wishes l.fn.by.scanners.now l.fn.tally l.tally (g.W.Write.contents l.fn.out) (g.W.Write.contents l.out) l.fn.feed l.coming l.line l.feed

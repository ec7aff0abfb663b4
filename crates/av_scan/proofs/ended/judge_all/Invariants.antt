use Rattle.std.proofs.Common.{map}
use Rattle.av_scan.specs.Coming.{AreAll}
use Rattle.av_scan.specs.Told.{name_of}
use Rattle.av_scan.proofs.ended.judge_all.Given as goal

-- each name so far has a verdict
abbrev pub invariant-files : goal.invariant-files
invariant-files g l = AreAll l.fn.feed l.coming (map (λ j. name_of j.told) l.all.items) l.line l.feed

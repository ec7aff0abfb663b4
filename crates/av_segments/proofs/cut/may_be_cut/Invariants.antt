use Rattle.std.proofs.Common.{◌≡◌, drop}
use Rattle.av_segments.specs.Segments.{may_be_cut}
use Rattle.av_segments.proofs.cut.may_be_cut.Given as goal

-- the rest decides
abbrev pub invariant-sets : goal.invariant-sets
invariant-sets l = may_be_cut (drop l.place l.scanners) ≡ may_be_cut l.scanners

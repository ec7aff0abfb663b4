use Rattle.av_scan.specs.Stretches.{IsFoundFrom, place_of}
use Rattle.av_scan.proofs.stretches.joined.Given as goal

-- the stretches so far are one
abbrev pub invariant-stretches : goal.invariant-stretches
invariant-stretches g l = IsFoundFrom (g.F.Read.remaining l.fn.file) l.fn.scanners 0 (place_of l.fn.cut.size l.fn.cut.count l.i) l.whole

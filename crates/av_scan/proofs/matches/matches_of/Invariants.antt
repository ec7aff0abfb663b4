use Rattle.std.proofs.Common.{length}
use Rattle.av_scan.proofs.MatchLemmas.{IsPartway}
use Rattle.av_scan.proofs.matches.matches_of.Given as goal

-- the matches under the first sets
abbrev pub invariant-firsts : goal.invariant-firsts
invariant-firsts l = IsPartway l.fn.scanners l.fn.content l.rest l.found.items

abbrev pub decreases-firsts : goal.decreases-firsts
decreases-firsts l = length l.rest

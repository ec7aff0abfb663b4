use Rattle.std.proofs.Common.{◌≡◌, ◌++◌, length}
use Rattle.av_scan.specs.Matches.{at_place}
use Rattle.av_scan.proofs.matches.add_each.Given as goal

-- the verdicts so far were added
abbrev pub invariant-verdicts : goal.invariant-verdicts
invariant-verdicts l = l.found.items ++ at_place l.fn.place l.rest ≡ l.fn.found.items ++ at_place l.fn.place l.fn.verdicts

abbrev pub decreases-verdicts : goal.decreases-verdicts
decreases-verdicts l = length l.rest

use Rattle.std.proofs.Common.{◌≡◌, drop}
use Rattle.av_match.specs.Scanning.{are_bound}
use Rattle.av_match.proofs.ranged.are_bound.Given as goal

-- the patterns left decide
abbrev pub invariant-loop-pattern : goal.invariant-loop-pattern
invariant-loop-pattern l = are_bound (drop l.pattern-index l.patterns) ≡ are_bound l.patterns

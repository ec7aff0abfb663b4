use Rattle.std.proofs.Common.{◌≡◌, drop}
use Rattle.av_match.specs.Scanning.{are_bound}
use Rattle.av_sigset.specs.Set.{patterns_of}
use Rattle.av_segments.proofs.cut.are_bound.Given as goal

-- the rest decides
abbrev pub invariant-signatures : goal.invariant-signatures
invariant-signatures l = are_bound (patterns_of (drop l.index l.signatures)) ≡ are_bound (patterns_of l.signatures)

use Rattle.std.proofs.Common.{◌≡◌, ◌++◌, drop, map}
use Rattle.av_sigset.specs.Made.{serial_signatures}
use Rattle.av_sigset.proofs.made.serial_signatures.Given as goal

-- those made and those left are all
abbrev pub invariant-loop-index : goal.invariant-loop-index
invariant-loop-index g l = l.signatures.items ++ serial_signatures l.index (map g.P.AsPattern.pattern (drop l.index l.patterns)) ≡ serial_signatures 0 (map g.P.AsPattern.pattern l.patterns)

use Rattle.std.proofs.Common.{◌≡◌, ◌≤◌, drop, map}
use Rattle.av_sigset.specs.Made.{fault_in}
use Rattle.av_sigset.proofs.made.fault_in.Given as goal

-- what is left decides
abbrev pub invariant-loop-index : goal.invariant-loop-index
invariant-loop-index g l = (fault_in l.index l.bytes (map g.P.AsPattern.pattern (drop l.index l.patterns)) ≡ fault_in 0 0 (map g.P.AsPattern.pattern l.patterns)) × (l.bytes ≤ 16384) × (l.index ≤ 1024)

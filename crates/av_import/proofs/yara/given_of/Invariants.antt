use Rattle.std.proofs.Common.{◌+◌, ◌≤◌, length}
use Rattle.av_sigset.specs.declared.set.TheConstants.{MAX_SIGNATURES}
use Rattle.av_import.proofs.yara.given_of.Given as goal

-- one more than a set has at most
abbrev pub invariant-wanted : goal.invariant-wanted
invariant-wanted l = length l.given.items ≤ MAX_SIGNATURES + 1

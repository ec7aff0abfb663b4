use Rattle.std.proofs.Common.{◌≡◌, take}
use Rattle.av_sigset.specs.Set.{patterns_of}
use Rattle.av_shared.proofs.still.same_patterns.Given as goal

abbrev pub invariant-patterns : goal.invariant-patterns
invariant-patterns l = take l.place (patterns_of l.one.signatures) ≡ take l.place (patterns_of l.other.signatures)

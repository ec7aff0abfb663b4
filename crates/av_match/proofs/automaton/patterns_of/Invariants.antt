use Rattle.std.proofs.Common.{◌≡◌, take}
use Rattle.av_sigset.specs.Set.{patterns_of}
use Rattle.av_match.proofs.automaton.patterns_of.Given as goal

-- those of the signatures so far
abbrev pub invariant-loop-signature : goal.invariant-loop-signature
invariant-loop-signature l = l.patterns.items ≡ patterns_of (take l.signature-index l.signatures)

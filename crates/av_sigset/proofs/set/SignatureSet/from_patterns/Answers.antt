use Rattle.std.proofs.Common.{map, sym, ◌∙◌}
use Rattle.av_sigset.proofs.MadeLemmas.{made_set}
use Rattle.av_sigset.proofs.set.SignatureSet.from_patterns.Goals as goal

pub invariant_of-result : goal.invariant_of-result
invariant_of-result g c =
    rw c.in_ok-signatures.ensures (made_set c.args.version (map g.P.AsPattern.pattern c.args.patterns.now) (sym c.patterns_fault.ensures ∙ c.in_default.is))

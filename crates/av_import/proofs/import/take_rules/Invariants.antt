use Rattle.std.proofs.Common.{◌≡◌, List, Result}
use Rattle.av_sigset.specs.declared.signature.Signature.{Signature}
use Rattle.av_import.specs.Import.{after_rules}
use Rattle.av_import.specs.declared.why.Why.{Why}
use Rattle.av_import.proofs.import.take_rules.Given as goal

-- the rules so far were taken or left out
abbrev pub invariant-rules : goal.invariant-rules
invariant-rules g l = (rules : List (Result (List Signature) Why)) × (l.import ≡ after_rules l.initial.import rules)

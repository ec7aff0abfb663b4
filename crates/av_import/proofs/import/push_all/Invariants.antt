use Rattle.std.proofs.Common.{◌≡◌, ◌++◌, List, drop}
use Rattle.av_sigset.specs.declared.signature.Signature.{Signature}
use Rattle.av_import.specs.Import.{with_all}
use Rattle.av_import.proofs.import.push_all.Given as goal

-- the signatures left make up the whole, and those before stay in front
abbrev pub invariant-loop-signature : goal.invariant-loop-signature
invariant-loop-signature l =
    (with_all l.signatures.items (drop l.signature-index l.given) ≡ with_all l.initial.signatures.items l.given)
    × ((more : List Signature) × (l.signatures.items ≡ l.initial.signatures.items ++ more))

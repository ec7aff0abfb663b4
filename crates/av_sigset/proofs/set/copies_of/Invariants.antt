use Rattle.std.proofs.Common.{◌≡◌, take}
use Rattle.av_sigset.proofs.set.copies_of.Given as goal

-- the first ones were copied
abbrev pub invariant-loop-signature : goal.invariant-loop-signature
invariant-loop-signature l = l.copies.items ≡ take l.signature-index l.signatures

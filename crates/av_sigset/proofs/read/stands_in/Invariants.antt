use Rattle.std.proofs.Common.{◌≡◌, drop}
use Rattle.std.specs.List.{list_any}
use Rattle.std.specs.Str.{bytes_eq}
use Rattle.av_sigset.proofs.read.stands_in.Given as goal

-- the signatures left decide
abbrev pub invariant-loop-signature : goal.invariant-loop-signature
invariant-loop-signature l = list_any (λ s. bytes_eq s.name l.name) (drop l.signature-index l.signatures) ≡ list_any (λ s. bytes_eq s.name l.name) l.signatures

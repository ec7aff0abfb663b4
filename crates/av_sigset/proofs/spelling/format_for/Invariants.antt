use Rattle.std.proofs.Common.{◌≡◌, drop}
use Rattle.std.specs.List.{list_all}
use Rattle.av_sigset.specs.Spelling.{is_widest}
use Rattle.av_sigset.proofs.spelling.format_for.Given as goal

-- the signatures left decide
abbrev pub invariant-loop-signature : goal.invariant-loop-signature
invariant-loop-signature l =
    list_all (λ s. is_widest s.pattern.span) (drop l.signature-index l.signatures) ≡ list_all (λ s. is_widest s.pattern.span) l.signatures

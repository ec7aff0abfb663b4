-- Worked examples of all verdicts of a content.
use Rattle.std.specs.Prelude.{ℕ, ◌≡◌, List, [], ◌∷◌, codes}
use Rattle.av_base.specs.declared.verdict.Verdict.TheVariants.{Clean, Infected}
use Rattle.av_sigset.specs.Set.{widest}
use Rattle.av_sigset.specs.declared.signature.Pattern.{Pattern}
use Rattle.av_findings.specs.Findings.{all_verdicts}

-- a pattern that may begin anywhere, and one that may begin from one place to another
abbrev pub anywhere : List ℕ → Pattern
anywhere bytes = record { bytes = bytes; span = widest }

abbrev pub between : List ℕ → ℕ → ℕ → Pattern
between bytes low high = record { bytes = bytes; span = record { low = low; high = high } }

-- no pattern, and none that occurs
abbrev pub NoneOccurs : Type 0
NoneOccurs = (all_verdicts [] (codes "AB") ≡ Clean ∷ []) × (all_verdicts (anywhere (codes "BA") ∷ anywhere (codes "ABC") ∷ []) (codes "AB") ≡ Clean ∷ [])

-- the first, the third and the last of four, in their order, each with the least end of its own
abbrev pub EachIsListed : Type 0
EachIsListed =
    all_verdicts (anywhere (codes "BAB") ∷ anywhere (codes "X") ∷ anywhere (codes "B") ∷ anywhere (codes "AB") ∷ []) (codes "ABAB")
    ≡ Infected 0 4 ∷ Infected 2 2 ∷ Infected 3 2 ∷ []

-- a match counts only if it begins in the span: from place 1 on the second, up to place 0 none
abbrev pub SpansCount : Type 0
SpansCount =
    all_verdicts (between (codes "A") 1 9 ∷ between (codes "A") 0 0 ∷ between (codes "B") 0 0 ∷ []) (codes "ABA")
    ≡ Infected 0 3 ∷ Infected 1 1 ∷ []

-- all of it
pub record AreExamples : Type 0 where
  pub none_occurs : NoneOccurs
  pub each_is_listed : EachIsListed
  pub spans_count : SpansCount

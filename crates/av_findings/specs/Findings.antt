-- Each signature of a set that occurs in a content.
use Rattle.std.specs.Prelude.{ℕ, ◌+◌, List, [], ◌∷◌, Option, None, Some}
use Rattle.av_base.specs.declared.verdict.Verdict.{Verdict}
use Rattle.av_base.specs.declared.verdict.Verdict.TheVariants.{Clean, Infected}
use Rattle.av_match.specs.Match.{verdict}
use Rattle.av_sigset.specs.declared.signature.Pattern.{Pattern}

-- where a verdict's match ends, if it has one
abbrev pub end_of : Verdict → Option ℕ
end_of Clean = None
end_of (Infected i e) = Some e

-- the least place at which this pattern ends, looked for alone
abbrev pub end_alone : Pattern → List ℕ → Option ℕ
end_alone p c = end_of (verdict (p ∷ []) c)

-- if it ends somewhere, a hit of signature i comes before the others
abbrev pub with_hit : ℕ → Option ℕ → List Verdict → List Verdict
with_hit i None others = others
with_hit i (Some e) others = Infected i e ∷ others

-- the hits of these patterns, numbered from i on
unfoldable pub hits_from : ℕ → List Pattern → List ℕ → List Verdict
hits_from i [] c = []
hits_from i (p ∷ ps) c = with_hit i (end_alone p c) (hits_from (i + 1) ps c)

-- these, or clean if there are none
abbrev pub or_clean : List Verdict → List Verdict
or_clean [] = Clean ∷ []
or_clean (v ∷ vs) = v ∷ vs

-- all verdicts of a content: a hit for each pattern that occurs, in their order, or clean
abbrev pub all_verdicts : List Pattern → List ℕ → List Verdict
all_verdicts ps c = or_clean (hits_from 0 ps c)

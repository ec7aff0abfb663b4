-- Ranges read literally: a match begins from the first place of its signature's range to the last. So it is for contents that a filter
-- may ask about; in a longer one a range up to the last place of those has no end.
use Rattle.std.specs.Prelude.{◌≡◌, ℕ, ◌-◌, ◌≤◌, List, length, take, drop, slice_get, Some}
use Rattle.std.specs.List.{AllByRecursion as Each}
use Rattle.av_base.specs.declared.limits.TheConstants.{MAX_LENGTH}
use Rattle.av_base.specs.declared.verdict.Verdict.{Verdict}
use Rattle.av_base.specs.declared.verdict.Verdict.TheVariants.{Clean, Infected}
use Rattle.av_match.specs.Match.{IsUpTo, verdict}
use Rattle.av_sigset.specs.declared.signature.Pattern.{Pattern}

-- the pattern occurs in c, ending at place e, and begins in its range
pub record OccursWithin (p : Pattern) (c : List ℕ) (e : ℕ) : Type 0 where
  pub within : length p.bytes ≤ e
  pub inside : e ≤ length c
  pub same : take (length p.bytes) (drop (e - length p.bytes) c) ≡ p.bytes
  pub from : p.span.low ≤ e - length p.bytes
  pub to : e - length p.bytes ≤ p.span.high

-- pattern i does
abbrev pub OccursWithinAt : List Pattern → List ℕ → ℕ → ℕ → Type 0
OccursWithinAt ps c e i = (p : Pattern) × (slice_get ps i ≡ Some p) × OccursWithin p c e

-- pattern i ends at e, and no pair of an end and an index is below
pub record IsLeastWithin (ps : List Pattern) (c : List ℕ) (e i : ℕ) : Type 0 where
  pub occurs : OccursWithinAt ps c e i
  pub least : (f j : ℕ) → OccursWithinAt ps c f j → IsUpTo e i f j

-- the verdict is the least pair, or clean where no pattern occurs
abbrev pub IsVerdictWithin : List Pattern → List ℕ → Verdict → Type 0
IsVerdictWithin ps c Clean = (e i : ℕ) → OccursWithinAt ps c e i → ⊥
IsVerdictWithin ps c (Infected i e) = IsLeastWithin ps c e i

-- of patterns that have bytes, and a content that a filter may ask about, the verdict is so
abbrev pub RangesAreLiteral : Type 0
RangesAreLiteral =
    (ps : List Pattern) (c : List ℕ) → Each (λ p. 1 ≤ length p.bytes) ps → length c ≤ MAX_LENGTH → IsVerdictWithin ps c (verdict ps c)

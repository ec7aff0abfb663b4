-- What the merge of sets means for a content, and what a fault means.
use Rattle.std.specs.Prelude.{ℕ, ◌≡◌, ◌↔◌, List, Some, IsTrue, slice_get}
use Rattle.std.specs.List.{AllByRecursion}
use Rattle.av_base.specs.Among.{Among}
use Rattle.av_base.specs.declared.verdict.Verdict.TheVariants.{Clean}
use Rattle.av_match.specs.Match.{Occurs, verdict}
use Rattle.av_sigset.specs.File.{MayStand}
use Rattle.av_sigset.specs.Set.{NumberedSet, patterns_of}
use Rattle.av_sigset.specs.declared.signature.Pattern.{Pattern}
use Rattle.av_sigset.specs.declared.signature.Signature.{Signature}
use Rattle.av_merge.specs.Merge.{IsMergeOf, Merged, clashes, fault_of}
use Rattle.av_merge.specs.declared.fault.MergeFault.TheVariants.{Clash}

-- one of the sets looks for this
abbrev pub IsLookedFor : List NumberedSet → Pattern → Type 0
IsLookedFor sets p = (s : NumberedSet) × Among s sets × Among p (patterns_of s.signatures)

-- the merge looks for exactly what one of the sets looks for
abbrev pub LooksForTheSame : Type 0
LooksForTheSame = (sets : List NumberedSet) (m : Merged) (p : Pattern) → IsMergeOf sets m
    → Among p (patterns_of m.signatures) ↔ IsLookedFor sets p

-- a pattern of a set occurs in a content, and ends at a place
abbrev pub OccursUnder : NumberedSet → List ℕ → ℕ → Type 0
OccursUnder s c e = (p : Pattern) × Among p (patterns_of s.signatures) × Occurs p c e

-- a pattern of the merge occurs in a content, and ends at a place, exactly where one of a set does
abbrev pub OccursUnderOne : Type 0
OccursUnderOne = (sets : List NumberedSet) (m : Merged) (c : List ℕ) (e : ℕ) → IsMergeOf sets m
    → ((p : Pattern) × Among p (patterns_of m.signatures) × Occurs p c e)
    ↔ ((s : NumberedSet) × Among s sets × OccursUnder s c e)

-- a content is clean under the merge exactly if it is clean under each of the sets
abbrev pub CleanUnderEach : Type 0
CleanUnderEach = (sets : List NumberedSet) (m : Merged) (c : List ℕ) → IsMergeOf sets m
    → (verdict (patterns_of m.signatures) c ≡ Clean) ↔ AllByRecursion (λ s. verdict (patterns_of s.signatures) c ≡ Clean) sets

-- what was read from files may stand in one file
abbrev pub MayStandTogether : Type 0
MayStandTogether = (sets : List NumberedSet) (m : Merged) → IsMergeOf sets m
    → AllByRecursion (λ s. MayStand s.signatures) sets → MayStand m.signatures

-- the set of this number has a signature of the same name that looks for something else
abbrev pub HasOther : List NumberedSet → ℕ → Signature → Type 0
HasOther sets number s =
    (t : NumberedSet) × (u : Signature) × (slice_get sets number ≡ Some t) × Among u t.signatures × IsTrue (clashes s u)

-- a clash is of the signature that it numbers with one of the set that it numbers
abbrev pub ClashesAreTrue : Type 0
ClashesAreTrue = (sets : List NumberedSet) (m : Merged) (given : List Signature) (index earlier : ℕ) → IsMergeOf sets m
    → fault_of m given ≡ Some (Clash index earlier)
    → (s : Signature) × (slice_get given index ≡ Some s) × HasOther sets earlier s

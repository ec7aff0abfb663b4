-- What is kept of a stretch of a content, and how two of them are joined.
use Rattle.std.specs.Prelude.{ℕ, ◌+◌, ◌++◌, Bool, not, List, [], ◌∷◌, length, map, take}
use Rattle.std.specs.List.{AllByRecursion, list_any}
use Rattle.av_base.specs.declared.verdict.Verdict.{Verdict}
use Rattle.av_files.specs.Findings.{NamedSet}
use Rattle.av_files.specs.declared.finding.Finding.{Finding}
use Rattle.av_match.specs.Match.{verdict}
use Rattle.av_match.specs.Scanning.{AreSolid, are_bound}
use Rattle.av_sigset.specs.Set.{patterns_of}
use Rattle.av_sigset.specs.declared.signature.Pattern.{Pattern}
use Rattle.av_segments.specs.Joining.{edge, joined_verdict, last}

-- what is kept of a stretch: its length, its first and its last bytes, and its verdict under each set
pub record Stretch : Type 0 where
  pub length : ℕ
  pub head : List ℕ
  pub tail : List ℕ
  pub verdicts : List Verdict

-- what a set looks for
abbrev pub patterns_in : NamedSet → List Pattern
patterns_in s = patterns_of s.set.signatures

-- the verdict of these bytes under each set
abbrev pub verdicts_of : List NamedSet → List ℕ → List Verdict
verdicts_of sets c = map (λ s. verdict (patterns_in s) c) sets

-- what is kept of the stretch c
abbrev pub segment_of : List NamedSet → List ℕ → Stretch
segment_of sets c = record { length = length c; head = take edge c; tail = last edge c; verdicts = verdicts_of sets c }

-- no pattern of any set is bound to places, so a content may be cut
abbrev pub may_be_cut : List NamedSet → Bool
may_be_cut sets = not (list_any (λ s. are_bound (patterns_in s)) sets)

-- each pattern of each set has 1 to 64 bytes
abbrev pub AreAllSolid : List NamedSet → Type 0
AreAllSolid sets = AllByRecursion (λ s. AreSolid (patterns_in s)) sets

-- the verdicts of two stretches joined, set by set
abbrev pub joined_verdicts : List NamedSet → Stretch → Stretch → List Verdict → List Verdict → List Verdict
joined_verdicts (x ∷ sets) s t (v ∷ vs) (w ∷ ws) =
    joined_verdict (patterns_in x) s.length s.tail t.head v w ∷ joined_verdicts sets s t vs ws
joined_verdicts sets s t vs ws = []

-- two stretches joined, from what is kept of each
abbrev pub joined : List NamedSet → Stretch → Stretch → Stretch
joined sets s t = record {
  length = s.length + t.length;
  head = take edge (s.head ++ t.head);
  tail = last edge (s.tail ++ t.tail);
  verdicts = joined_verdicts sets s t s.verdicts t.verdicts;
}

-- each of these verdicts with its set's place, from this place on
abbrev pub placed_from : ℕ → List Verdict → List Finding
placed_from place [] = []
placed_from place (v ∷ vs) = record { set = place; verdict = v } ∷ placed_from (place + 1) vs

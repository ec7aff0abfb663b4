-- What joining means.
use Rattle.std.specs.Prelude.{ℕ, ◌≡◌, ◌++◌, true, false, List, length, take}
use Rattle.av_files.specs.Findings.{NamedSet}
use Rattle.av_match.specs.Match.{verdict}
use Rattle.av_match.specs.Scanning.{AreSolid, are_bound}
use Rattle.av_sigset.specs.declared.signature.Pattern.{Pattern}
use Rattle.av_segments.specs.Joining.{edge, joined_verdict, last}
use Rattle.av_segments.specs.Segments.{AreAllSolid, joined, may_be_cut, segment_of}

-- under patterns that may begin anywhere, the verdict of a whole content is that of its two stretches joined, wherever it is cut
abbrev pub VerdictsJoin : Type 0
VerdictsJoin =
    (ps : List Pattern) (a b : List ℕ) → AreSolid ps → are_bound ps ≡ false
    → joined_verdict ps (length a) (last edge a) (take edge b) (verdict ps a) (verdict ps b) ≡ verdict ps (a ++ b)

-- under sets by which a content may be cut, what is kept of two stretches joins to what is kept of the whole
abbrev pub SegmentsJoin : Type 0
SegmentsJoin =
    (sets : List NamedSet) (a b : List ℕ) → AreAllSolid sets → may_be_cut sets ≡ true
    → joined sets (segment_of sets a) (segment_of sets b) ≡ segment_of sets (a ++ b)

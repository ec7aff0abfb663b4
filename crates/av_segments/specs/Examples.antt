-- Worked examples of joining.
use Rattle.std.specs.Prelude.{ℕ, ◌≡◌, true, false, List, [], ◌∷◌, codes}
use Rattle.av_base.specs.declared.verdict.Verdict.TheVariants.{Clean, Infected}
use Rattle.av_files.specs.Findings.{NamedSet}
use Rattle.av_match.specs.Match.{verdict}
use Rattle.av_sigset.specs.Set.{widest}
use Rattle.av_sigset.specs.declared.signature.Pattern.{Pattern}
use Rattle.av_sigset.specs.declared.signature.Span.{Span}
use Rattle.av_segments.specs.Joining.{edge, joined_verdict, last, least_of}
use Rattle.av_segments.specs.Segments.{joined, may_be_cut, segment_of}

-- a set of one pattern that may begin at these places
abbrev pub set_of : List ℕ → Span → NamedSet
set_of bytes span = record {
  name = [];
  set = record { version = 1; signatures = record { name = []; pattern = record { bytes = bytes; span = span } } ∷ [] };
}

abbrev pub anywhere : List ℕ → Pattern
anywhere bytes = record { bytes = bytes; span = widest }

-- a pattern has 64 bytes at most, so 63 of them on one side of a cut
abbrev pub EdgeIs63 : Type 0
EdgeIs63 = edge ≡ 63

-- the last bytes, or all
abbrev pub LastBytes : Type 0
LastBytes = (last 2 (codes "ABC") ≡ codes "BC") × (last 3 (codes "AB") ≡ codes "AB")

-- the match that ends first is the least; of two that end at one place the one with the lesser index; clean is above all
abbrev pub Least : Type 0
Least =
    (least_of (Infected 3 5) (Infected 1 6) ≡ Infected 3 5) × (least_of (Infected 3 5) (Infected 1 5) ≡ Infected 1 5)
    × (least_of Clean (Infected 1 6) ≡ Infected 1 6) × (least_of (Infected 1 6) Clean ≡ Infected 1 6) × (least_of Clean Clean ≡ Clean)

-- of AB, BC and C the second lies across the cut of XB and CC
abbrev pub AcrossTheCut : Type 0
AcrossTheCut =
    let ps = anywhere (codes "AB") ∷ anywhere (codes "BC") ∷ anywhere (codes "CC") ∷ [] in
    (joined_verdict ps 2 (codes "XB") (codes "CC") (verdict ps (codes "XB")) (verdict ps (codes "CC")) ≡ Infected 1 3)
    × (verdict ps (codes "XBCC") ≡ Infected 1 3)

-- a match before the cut is kept, and one behind it is found at its place in the whole
abbrev pub BesideTheCut : Type 0
BesideTheCut =
    let ps = anywhere (codes "AB") ∷ [] in
    (joined_verdict ps 3 (codes "XAB") (codes "AB") (verdict ps (codes "XAB")) (verdict ps (codes "AB")) ≡ Infected 0 3)
    × (joined_verdict ps 3 (codes "XXX") (codes "YAB") (verdict ps (codes "XXX")) (verdict ps (codes "YAB")) ≡ Infected 0 6)

-- two stretches under two sets
abbrev pub TwoSets : Type 0
TwoSets =
    let sets = set_of (codes "AB") widest ∷ set_of (codes "BX") widest ∷ [] in
    joined sets (segment_of sets (codes "XA")) (segment_of sets (codes "BX"))
    ≡ record { length = 4; head = codes "XABX"; tail = codes "XABX"; verdicts = Infected 0 3 ∷ Infected 0 4 ∷ [] }

-- a content may be cut only if each set's patterns may begin anywhere
abbrev pub Cuts : Type 0
Cuts =
    (may_be_cut (set_of (codes "A") widest ∷ []) ≡ true)
    × (may_be_cut (set_of (codes "A") widest ∷ set_of (codes "A") (record { low = 0; high = 9 }) ∷ []) ≡ false)
    × (may_be_cut (set_of (codes "A") (record { low = 1; high = 1048575 }) ∷ []) ≡ false)

-- all of it
pub record AreExamples : Type 0 where
  pub edge_is_63 : EdgeIs63
  pub last_bytes : LastBytes
  pub least : Least
  pub across_the_cut : AcrossTheCut
  pub beside_the_cut : BesideTheCut
  pub two_sets : TwoSets
  pub cuts : Cuts

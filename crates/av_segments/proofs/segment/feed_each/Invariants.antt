use Rattle.std.proofs.Common.{ℕ, ◌≡◌, ◌++◌, List, true}
use Rattle.av_match.specs.Match.{verdict}
use Rattle.av_segments.proofs.SegmentLemmas.{halves}
use Rattle.av_segments.specs.Seams.{IsSeam}
use Rattle.av_segments.specs.Segments.{may_be_cut, patterns_in, verdicts_of}
use Rattle.av_segments.proofs.segment.feed_each.Given as goal

-- the first verdicts have taken the piece, and the others not yet
abbrev pub invariant-sets : goal.invariant-sets
invariant-sets l =
    (c : List ℕ) → may_be_cut l.scanners ≡ true → IsSeam c l.piece l.seam → l.initial.verdicts ≡ verdicts_of l.scanners c
    → l.verdicts ≡ halves (λ s. verdict (patterns_in s) c) (λ s. verdict (patterns_in s) (c ++ l.piece)) l.place l.scanners

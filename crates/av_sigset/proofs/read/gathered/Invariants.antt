use Rattle.std.proofs.Common.{◌≡◌, [], length}
use Rattle.av_base.specs.Line.{pieces_of}
use Rattle.av_sigset.specs.Judge.{signatures_from}
use Rattle.av_sigset.specs.Set.{AreInRange, patterns_of, byte_count}
use Rattle.av_sigset.proofs.read.gathered.Given as goal

-- the signatures so far, and those of the lines left, are those of all lines
abbrev pub invariant-lines : goal.invariant-lines
invariant-lines l = record {
  whole : signatures_from l.format l.signatures.items (pieces_of 10 l.rest) ≡ signatures_from l.format [] (pieces_of 10 l.lines);
  ranges : AreInRange (patterns_of l.signatures.items);
  total : l.total ≡ byte_count (patterns_of l.signatures.items);
}

abbrev pub decreases-lines : goal.decreases-lines
decreases-lines l = length l.rest

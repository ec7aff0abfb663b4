use Rattle.std.proofs.Common.{◌≡◌, length}
use Rattle.av_base.specs.Line.{pieces_of}
use Rattle.av_import.specs.Kind.{last_of}
use Rattle.av_import.proofs.kind.ending_of.Given as goal

-- the pieces left decide
abbrev pub invariant-dots : goal.invariant-dots
invariant-dots l = last_of (pieces_of 46 l.rest) ≡ last_of (pieces_of 46 l.fn.path)

abbrev pub decreases-dots : goal.decreases-dots
decreases-dots l = length l.rest

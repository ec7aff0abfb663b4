use Rattle.std.proofs.Common.{◌≡◌, length}
use Rattle.av_import.specs.Number.{without_zeros}
use Rattle.av_import.proofs.number.without_zeros.Given as goal

-- a zero in front says nothing
abbrev pub invariant-zeros : goal.invariant-zeros
invariant-zeros l = without_zeros l.rest ≡ without_zeros l.fn.word

abbrev pub decreases-zeros : goal.decreases-zeros
decreases-zeros l = length l.rest

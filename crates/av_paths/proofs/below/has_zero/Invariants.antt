use Rattle.std.proofs.Common.{◌≡◌, length}
use Rattle.av_paths.specs.Below.{has_zero}
use Rattle.av_paths.proofs.below.has_zero.Given as goal

-- those that are left decide
abbrev pub invariant-bytes : goal.invariant-bytes
invariant-bytes l = has_zero l.rest ≡ has_zero l.fn.path

abbrev pub decreases-bytes : goal.decreases-bytes
decreases-bytes l = length l.rest

use Rattle.std.proofs.Common.{◌≡◌, length}
use Rattle.av_files.specs.Quoted.{has_control}
use Rattle.av_files.proofs.quoted.has_control.Given as goal

-- those that are left decide
abbrev pub invariant-bytes : goal.invariant-bytes
invariant-bytes l = has_control l.before l.rest ≡ has_control 0 l.name

abbrev pub decreases-bytes : goal.decreases-bytes
decreases-bytes l = length l.rest

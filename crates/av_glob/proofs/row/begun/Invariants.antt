use Rattle.std.proofs.Common.{◌≡◌, ◌++◌, length}
use Rattle.av_glob.specs.Row.{begun, unmarked}
use Rattle.av_glob.proofs.row.begun.Given as goal

abbrev pub invariant-bytes : goal.invariant-bytes
invariant-bytes l = l.row.items ++ unmarked l.rest ≡ begun l.text

abbrev pub decreases-bytes : goal.decreases-bytes
decreases-bytes l = length l.rest

use Rattle.std.proofs.Common.{◌≡◌, ◌++◌, length}
use Rattle.av_files.specs.Quoted.{escaped}
use Rattle.av_files.proofs.quoted.put_escaped.Given as goal

-- the bytes so far and those that are left are all of them
abbrev pub invariant-bytes : goal.invariant-bytes
invariant-bytes l = l.room.items ++ escaped l.before l.rest ≡ l.initial.room.items ++ escaped 0 l.name

abbrev pub decreases-bytes : goal.decreases-bytes
decreases-bytes l = length l.rest

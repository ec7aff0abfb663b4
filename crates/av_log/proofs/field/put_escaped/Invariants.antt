use Rattle.std.proofs.Common.{◌≡◌, ◌++◌, length}
use Rattle.av_log.specs.Words.{escaped}
use Rattle.av_log.proofs.field.put_escaped.Given as goal

-- the bytes so far and those that are left are all of them
abbrev pub invariant-bytes : goal.invariant-bytes
invariant-bytes l = l.out.items ++ escaped l.rest ≡ l.initial.out.items ++ escaped l.text

abbrev pub decreases-bytes : goal.decreases-bytes
decreases-bytes l = length l.rest

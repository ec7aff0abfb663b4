use Rattle.std.proofs.Common.{◌≡◌, ◌++◌, length}
use Rattle.av_health.specs.Report.{fields}
use Rattle.av_health.proofs.report.put_fields.Given as goal

-- the numbers so far and those that are left are all of them
abbrev pub invariant-numbers : goal.invariant-numbers
invariant-numbers l = l.bytes.items ++ fields l.rest ≡ l.initial.bytes.items ++ fields l.numbers

abbrev pub decreases-numbers : goal.decreases-numbers
decreases-numbers l = length l.rest

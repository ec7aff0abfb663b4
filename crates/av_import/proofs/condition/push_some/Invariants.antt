use Rattle.std.proofs.Common.{◌≤◌, length}
use Rattle.av_import.specs.declared.condition.TheConstants.{MAX_WANTED}
use Rattle.av_import.proofs.condition.push_some.Given as goal

-- no more than a condition may name, where it was so before
abbrev pub invariant-places : goal.invariant-places
invariant-places l = length l.initial.found.items ≤ MAX_WANTED → length l.found.items ≤ MAX_WANTED

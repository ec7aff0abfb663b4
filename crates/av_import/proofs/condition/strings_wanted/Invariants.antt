use Rattle.std.proofs.Common.{◌≤◌, length}
use Rattle.av_import.specs.declared.condition.TheConstants.{MAX_WANTED}
use Rattle.av_import.proofs.condition.strings_wanted.Given as goal

-- no more than a condition may name
abbrev pub invariant-words : goal.invariant-words
invariant-words l = length l.found.items ≤ MAX_WANTED

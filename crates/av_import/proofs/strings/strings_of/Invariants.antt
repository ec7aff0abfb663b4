use Rattle.std.proofs.Common.{◌≤◌, length}
use Rattle.av_import.specs.declared.strings.TheConstants.{MAX_STRINGS}
use Rattle.av_import.proofs.strings.strings_of.Given as goal

-- no more than a rule may have
abbrev pub invariant-strings : goal.invariant-strings
invariant-strings l = length l.strings.items ≤ MAX_STRINGS

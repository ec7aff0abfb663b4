use Rattle.std.proofs.Common.{◌≡◌}
use Rattle.std.specs.List.{list_all}
use Rattle.std.specs.Option.{option_copied}
use Rattle.av_base.specs.Line.{rest_of}
use Rattle.av_script.specs.Script.Grammar.{is_pattern}
use Rattle.av_script.specs.Script.Words.{measure_of}
use Rattle.av_script.proofs.hexadecimal.are_patterns.Given as goal

-- what is left decides
abbrev pub invariant-words : goal.invariant-words
invariant-words l = list_all is_pattern (rest_of 32 (option_copied l.left)) ≡ list_all is_pattern (rest_of 32 (option_copied l.initial.left))

abbrev pub decreases-words : goal.decreases-words
decreases-words l = measure_of (option_copied l.left)

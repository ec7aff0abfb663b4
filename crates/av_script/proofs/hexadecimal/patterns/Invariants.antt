use Rattle.std.proofs.Common.{◌≡◌, ◌++◌, map}
use Rattle.std.specs.Option.{option_copied}
use Rattle.av_base.specs.Line.{rest_of}
use Rattle.av_script.specs.Script.Grammar.{pattern_in}
use Rattle.av_script.specs.Script.Words.{measure_of}
use Rattle.av_script.proofs.hexadecimal.patterns.Given as goal

-- the patterns so far, and those of the words that are left
abbrev pub invariant-words : goal.invariant-words
invariant-words l = l.patterns.items ++ map pattern_in (rest_of 32 (option_copied l.left)) ≡ map pattern_in (rest_of 32 (option_copied l.initial.left))

abbrev pub decreases-words : goal.decreases-words
decreases-words l = measure_of (option_copied l.left)

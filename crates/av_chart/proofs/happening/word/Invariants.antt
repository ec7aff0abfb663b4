use Rattle.std.proofs.Common.{◌≡◌, [], get_or}
use Rattle.std.specs.Option.{option_copied}
use Rattle.av_base.specs.Line.{rest_of}
use Rattle.av_chart.specs.Words.{word_at}
use Rattle.av_chart.proofs.happening.word.Given as goal

-- the word stands so many behind the first that is left
abbrev pub invariant-words : goal.invariant-words
invariant-words l = word_at l.place l.line ≡ get_or (rest_of 32 (option_copied l.rest)) l.before []

abbrev pub decreases-words : goal.decreases-words
decreases-words l = l.before

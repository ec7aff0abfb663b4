use Rattle.std.proofs.Common.{◌≡◌}
use Rattle.std.specs.String.{string_bytes}
use Rattle.av_generate.specs.Words.{behind, patterns_drawn}
use Rattle.av_generate.proofs.words.patterns_drawn.Given as goal

-- the text so far, and the patterns that are left behind it, are all
abbrev pub invariant-patterns : goal.invariant-patterns
invariant-patterns l = behind (string_bytes l.text) (patterns_drawn l.left l.draws) ≡ behind (string_bytes l.initial.text) (patterns_drawn l.count l.initial.draws)

abbrev pub decreases-patterns : goal.decreases-patterns
decreases-patterns l = l.left

use Rattle.std.proofs.Common.{ℕ, ◌≡◌, ◌<◌, true, length}
use Rattle.av_match.specs.Words.{word_at, is_word}
use Rattle.av_match.proofs.shifts.shorter.Given as goal

-- the shorter ones so far
abbrev pub invariant-loop-pattern : goal.invariant-loop-pattern
invariant-loop-pattern l = (j : ℕ) → j < l.pattern-index → length (word_at l.patterns j) < l.least → is_word l.shorts.items (word_at l.patterns j) ≡ true

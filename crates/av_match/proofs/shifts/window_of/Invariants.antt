use Rattle.std.proofs.Common.{ℕ, ◌<◌, ◌≤◌, length}
use Rattle.av_match.specs.Words.{word_at}
use Rattle.av_match.proofs.shifts.window_of.Given as goal

-- no pattern so far that has enough bytes is shorter
abbrev pub invariant-loop-pattern : goal.invariant-loop-pattern
invariant-loop-pattern l = record {
  few : l.window ≤ 64;
  wide : l.least ≤ l.window;
  least : (j : ℕ) → j < l.pattern-index → l.least ≤ length (word_at l.patterns j) → l.window ≤ length (word_at l.patterns j);
}

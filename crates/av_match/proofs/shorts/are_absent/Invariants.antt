use Rattle.std.proofs.Common.{ℕ, ◌<◌}
use Rattle.memchr.specs.Find.{OccursAt}
use Rattle.av_match.specs.Words.{word_at}
use Rattle.av_match.proofs.shorts.are_absent.Given as goal

-- none of those so far occurs
abbrev pub invariant-loop-short : goal.invariant-loop-short
invariant-loop-short l = (j : ℕ) → j < l.short-index → (i : ℕ) → OccursAt l.piece (word_at l.shorts j) i → ⊥

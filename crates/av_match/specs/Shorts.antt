use Rattle.std.specs.Prelude.{ℕ, ◌<◌, List, length}
use Rattle.memchr.specs.Find.{OccursAt}
use Rattle.av_match.specs.Words.{word_at}

-- none of these patterns occurs in w
abbrev pub AreAbsent : List (List ℕ) → List ℕ → Type 0
AreAbsent shorts w = (j : ℕ) → j < length shorts → (i : ℕ) → OccursAt w (word_at shorts j) i → ⊥

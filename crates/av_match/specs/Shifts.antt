-- What is kept of a set for its windows, and how far each pair of bytes lets a window be moved.
use Rattle.std.specs.Prelude.{ℕ, ◌≡◌, ◌+◌, ◌-◌, ◌*◌, ◌<◌, ◌≤◌, true, List, Option, length, slice_index, map, IfSome}
use Rattle.memchr.specs.Pairs.{IsPairFinderOf}
use Rattle.av_match.specs.Words.{word_at, is_word, words_of}
use Rattle.av_match.specs.declared.rare.RareBytes.{RareBytes}

-- two bytes as one number
abbrev pub pair_at : List ℕ → ℕ → ℕ
pair_at w i = slice_index w i + 256 * slice_index w (i + 1)

-- how far a window of m bytes can be moved, by its last two bytes
abbrev pub shift_at : List ℕ → ℕ → List ℕ → ℕ → ℕ
shift_at shifts m w a = slice_index shifts (pair_at w (a + m - 2))

-- no pair lets a window of m bytes be moved by all of its bytes
abbrev pub AreBelow : ℕ → List ℕ → Type 0
AreBelow m shifts = (k : ℕ) → k < 65536 → slice_index shifts k < m

-- the pair that ends a word of at most m bytes lets the window move no further than to where that word would begin
abbrev pub ReachWord : List ℕ → ℕ → List ℕ → Type 0
ReachWord word m shifts =
    2 ≤ length word → length word ≤ m → slice_index shifts (pair_at word (length word - 2)) + length word ≤ m

-- a shift for each pair of bytes, and the first of the words are taken in
pub record AreLowered (words : List (List ℕ)) (done m : ℕ) (shifts : List ℕ) : Type 0 where
  pub size : length shifts ≡ 65536
  pub most : AreBelow m shifts
  pub sound : (s : ℕ) → s < done → ReachWord (word_at words s) m shifts

-- all of the words are
abbrev pub AreShifts : List (List ℕ) → ℕ → List ℕ → Type 0
AreShifts words m shifts = AreLowered words (length words) m shifts

-- each pattern that is shorter is one of these
abbrev pub HasShorter : List (List ℕ) → ℕ → List (List ℕ) → Type 0
HasShorter ps m shorts = (j : ℕ) → j < length ps → length (word_at ps j) < m → is_word shorts (word_at ps j) ≡ true

-- each pattern has these bytes at their places
abbrev pub HaveRare : List (List ℕ) → RareBytes → Type 0
HaveRare ps r = (j : ℕ) → j < length ps → IsPairFinderOf r.finder (word_at ps j)

-- what is kept for windows of m bytes, where there are any: how long each word is, the shifts, the shorter patterns, and
-- rare bytes that each has
pub record IsSkimmer (ps : List (List ℕ)) (depths : List ℕ) (m : ℕ) (shifts : List ℕ) (shorts : List (List ℕ))
    (rare : Option RareBytes) : Type 0 where
  pub deep : depths ≡ map length (words_of ps)
  pub few : m ≤ 64
  pub sound : 2 ≤ m → AreShifts (words_of ps) m shifts
  pub shorter : HasShorter ps m shorts
  pub has : IfSome rare (HaveRare ps)

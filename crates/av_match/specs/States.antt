-- What is known of the states while the tables are made.
use Rattle.std.specs.Prelude.{ℕ, ◌≡◌, ◌+◌, ◌<◌, ◌≤◌, ◌==◌, List, [], ◌∷◌, ◌++◌, length, take, drop, slice_index, min, Option, None, Some, if◌then◌else◌}
use Rattle.std.specs.Str.{bytes_eq}
use Rattle.av_match.specs.Longest.{longest}
use Rattle.av_match.specs.Part.{number_of}
use Rattle.av_match.specs.Words.{word_at, is_word}

-- no word stands twice
abbrev pub AreDistinct : List (List ℕ) → Type 0
AreDistinct words = (s t : ℕ) → s < length words → t < length words → word_at words s ≡ word_at words t → s ≡ t

-- the state's word is this one
abbrev pub IsState : List (List ℕ) → List ℕ → ℕ → Type 0
IsState words w s = (s < length words) × (word_at words s ≡ w)

-- the states of the patterns' beginnings of this length, and of the first patterns those that are a byte longer
pub record AreEnds (level done : ℕ) (ps words : List (List ℕ)) (ends : List ℕ) : Type 0 where
  pub size : length ends ≡ length ps
  pub ahead : (i : ℕ) → i < done → i < length ps → IsState words (take (level + 1) (word_at ps i)) (slice_index ends i)
  pub here : (i : ℕ) → done ≤ i → i < length ps → IsState words (take level (word_at ps i)) (slice_index ends i)

-- for each state but the root that of its word without the last byte
pub record AreParents (words : List (List ℕ)) (parents : List ℕ) : Type 0 where
  pub size : length parents ≡ length words
  pub earlier : (s : ℕ) → 1 ≤ s → s < length words → slice_index parents s < s
  pub last : (s : ℕ) → 1 ≤ s → s < length words → (b : ℕ) × (b < 256) × (word_at words s ≡ word_at words (slice_index parents s) ++ b ∷ [])

-- for each of the first states but the root that of the longest word that ends its own word and is shorter
pub record AreFails (words : List (List ℕ)) (done : ℕ) (fails : List ℕ) : Type 0 where
  pub size : length fails ≡ done
  pub state : (s : ℕ) → 1 ≤ s → s < done → IsState words (longest (is_word words) (drop 1 (word_at words s))) (slice_index fails s)

-- the first pattern that is the word, where the list's first has this index
abbrev pub own_index : ℕ → List (List ℕ) → List ℕ → Option ℕ
own_index i [] w = None
own_index i (p ∷ ps) w = if bytes_eq p w then Some i else own_index (i + 1) ps w

-- its number
abbrev pub own_output : List (List ℕ) → List ℕ → ℕ
own_output ps w = number_of (own_index 0 ps w)

-- the number of the first pattern that is each state's word
pub record AreOwn (ps words : List (List ℕ)) (own : List ℕ) : Type 0 where
  pub size : length own ≡ length words
  pub each : (s : ℕ) → s < length words → slice_index own s ≡ own_output ps (word_at words s)

-- the lesser of two numbers, where 0 stands for none
abbrev pub lesser : ℕ → ℕ → ℕ
lesser one other = if one == 0 then other else if other == 0 then one else min one other

-- the first of two numbers that is not 0
abbrev pub first_some : ℕ → ℕ → ℕ
first_some one other = if one == 0 then other else one

-- each state but the root has what is made of its own number and of what its fail has
pub record AreLed (join : ℕ → ℕ → ℕ) (own fails led : List ℕ) : Type 0 where
  pub size : length led ≡ length own
  pub root : slice_index led 0 ≡ slice_index own 0
  pub each : (s : ℕ) → 1 ≤ s → s < length own → slice_index led s ≡ join (slice_index own s) (slice_index led (slice_index fails s))

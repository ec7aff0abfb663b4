-- The patterns that end a word, as a scan keeps them.
use Rattle.std.specs.Prelude.{ℕ, ◌≡◌, ◌+◌, ◌-◌, ◌^◌, ◌<◌, List, [], ◌∷◌, length, slice_index, slice_index_or, Option, None, Some, if◌then◌else◌}
use Rattle.av_sigset.specs.declared.signature.Pattern.{Pattern}
use Rattle.av_match.specs.Match.{begins_in}
use Rattle.av_match.specs.Search.{bytes_of, occurs_at}
use Rattle.av_match.specs.Words.{word_at}
use Rattle.av_match.specs.declared.endings.Ending.{Ending}

-- those of the patterns that end the word, in their order, where the list's first has this index
abbrev pub endings_from : ℕ → List Pattern → List ℕ → List Ending
endings_from i [] w = []
endings_from i (p ∷ ps) w =
    if occurs_at p.bytes w (length w)
    then record { index = i; length = length p.bytes; span = p.span } ∷ endings_from (i + 1) ps w
    else endings_from (i + 1) ps w

-- the index of the first that begins in its span, where the word ends at this place of a content
abbrev pub first_of : List Ending → ℕ → Option ℕ
first_of [] e = None
first_of (x ∷ xs) e = if begins_in x.span (e - x.length) then Some x.index else first_of xs e

-- behind this place of a content, below 2^64, none of them begins in its span
abbrev pub IsLast : List Ending → ℕ → Type 0
IsLast xs last = (e : ℕ) → e < 2 ^ 64 → last < e → first_of xs e ≡ None

-- of pattern i, which is a state's stop, those that end it
abbrev pub AreEndingsOf : List Pattern → List (List Ending) → ℕ → Type 0
AreEndingsOf ps lists i = slice_index_or lists i [] ≡ endings_from 0 ps (word_at (bytes_of ps) i)

-- of each pattern that is a state's stop, counted from 1, those that end it
pub record AreEndings (ps : List Pattern) (stops : List ℕ) (lists : List (List Ending)) : Type 0 where
  pub size : length lists ≡ length ps
  pub each : (i : ℕ) → i < length ps → (s : ℕ) → s < length stops → slice_index stops s ≡ i + 1 → AreEndingsOf ps lists i

-- A scan of patterns that are bound to spans: states at which a pattern ends are passed where none of these begins in its span.
use Rattle.std.specs.Prelude.{ℕ, ◌≡◌, ◌+◌, ◌-◌, ◌*◌, ◌<◌, List, [], ◌∷◌, length, slice_index, nat_lt, Bool, Option, None, Some, true, false}
use Rattle.av_sigset.specs.declared.signature.Pattern.{Pattern}
use Rattle.av_match.specs.Endings.{AreEndings}
use Rattle.av_match.specs.Part.{IsPart, output_of}
use Rattle.av_match.specs.Scanning.{are_bound, is_past, state_words}
use Rattle.av_match.specs.Search.{bytes_of, find_at}
use Rattle.av_match.specs.Words.{word_at}
use Rattle.av_match.specs.declared.cells.Reached.{Reached}
use Rattle.av_match.specs.declared.cells.Reached.TheVariants.{Through, Hit}
use Rattle.av_match.specs.declared.endings.Ending.{Ending}
use Rattle.av_match.specs.declared.ranged.Ranged.{Ranged}

-- a hit at the place, where there is a find, or else what comes later
abbrev pub found_or : Option ℕ → ℕ → Reached → Reached
found_or None place later = later
found_or (Some i) place later = Hit place i

-- from a state, at a place of a chunk before which so many bytes have come: the first find, or the last state of all
abbrev pub reach_find : List Pattern → List ℕ → ℕ → ℕ → ℕ → List ℕ → Reached
reach_find ps cells fed s k [] = Through s
reach_find ps cells fed s k (b ∷ w) =
    let t = slice_index cells (256 * s + b) in
    let v = word_at (state_words ps) t in
    found_or (find_at 0 ps v (length v) (fed + (k + 1))) (k + 1) (reach_find ps cells fed t (k + 1) w)

-- what is found at ends of the word is what is found at ends of pattern n - 1; where n is 0 no pattern ends the word
pub record IsStop (ps : List Pattern) (w : List ℕ) (n : ℕ) : Type 0 where
  pub none : n ≡ 0 → output_of (bytes_of ps) w ≡ 0
  pub inside : 0 < n → n - 1 < length ps
  pub same : 0 < n → (e : ℕ) → let p = word_at (bytes_of ps) (n - 1) in find_at 0 ps p (length p) e ≡ find_at 0 ps w (length w) e

-- one for each state
pub record AreStops (ps : List Pattern) (stops : List ℕ) : Type 0 where
  pub size : length stops ≡ length (state_words ps)
  pub each : (s : ℕ) → s < length (state_words ps) → IsStop ps (word_at (state_words ps) s) (slice_index stops s)

-- where each state goes, also those that give something out, their stops, and the patterns that end these
pub record IsRanged (ps : List Pattern) (cells stops : List ℕ) (lists : List (List Ending)) : Type 0 where
  pub part : IsPart (state_words ps) cells (length (state_words ps))
  pub ends : AreStops ps stops
  pub endings : AreEndings ps stops lists

-- what is kept of patterns for that: nothing where none is bound
abbrev pub IsRangedOf : List Pattern → Option Ranged → Type 0
IsRangedOf ps None = are_bound ps ≡ false
IsRangedOf ps (Some r) = (are_bound ps ≡ true) × IsRanged ps r.cells.items r.stops.items r.endings.items

-- no match ends behind the place, where there is one
abbrev pub is_behind : Option ℕ → ℕ → Bool
is_behind None e = false
is_behind (Some h) e = nat_lt h e

-- the last place at which a match can end, or none where one can end at any
abbrev pub IsHorizon : List Pattern → Option ℕ → Type 0
IsHorizon ps h = (e : ℕ) → 0 < e → is_past ps e ≡ is_behind h e

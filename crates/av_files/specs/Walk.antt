-- The entries of a folder.
use Rattle.std.specs.Prelude.{ℕ, ◌≡◌, ◌==◌, ◌&&◌, Bool, true, false, not, List, [], ◌∷◌, Option, None, Some, map, reverse}
use Rattle.std.specs.Borrow.{Bor}
use Rattle.std.specs.Cmp.Lexicographic.{slice_cmp}
use Rattle.std.specs.List.{filter}
use Rattle.std.specs.List.Sorted.{IsPermutation, IsSorted}
use Rattle.std.specs.Ordering.{nat_cmp}
use Rattle.std.specs.Str.{bytes_eq}
use Rattle.av_files.specs.Listed.{IsListOf}

-- the name of an entry, and not of the folder itself or of the one above
abbrev pub is_entry : List ℕ → Bool
is_entry name = not (bytes_eq name (46 ∷ [])) && not (bytes_eq name (46 ∷ 46 ∷ []))

-- the names that a folder lists, each ended by a zero byte, in the order of their bytes, turned round
pub record AreTurned (text : List ℕ) (names : List (List ℕ)) : Type 0 where
  pub listed : List (Bor (List ℕ))
  pub of_text : IsListOf 0 text (map (λ n. n.now) listed)
  pub sorted : List (Bor (List ℕ))
  pub same : IsPermutation listed sorted
  pub ascending : IsSorted (λ a b. slice_cmp nat_cmp a.now b.now) sorted
  pub turned : names ≡ filter is_entry (reverse (map (λ n. n.now) sorted))

-- an entry is kept, unless it is left out
abbrev pub IsKeptUnless : {A : Type 0} → Bool → A → Option A → Type 0
IsKeptUnless is_out path None = is_out ≡ true
IsKeptUnless is_out path (Some kept) = (is_out ≡ false) × (kept ≡ path)

-- a folder is on another device than the one that counts, if one does
abbrev pub is_elsewhere : Option ℕ → ℕ → Bool
is_elsewhere None device = false
is_elsewhere (Some wanted) device = not (wanted == device)

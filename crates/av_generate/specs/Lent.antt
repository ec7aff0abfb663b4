-- The works that are lent, by their places.
use Rattle.std.specs.Prelude.{ℕ, zero, suc, ◌+◌, ◌-◌, ◌==◌, List, [], ◌∷◌, ◌++◌, Option, None, Some, if◌then◌else◌}

-- without the first such place
abbrev pub without_place : ℕ → List ℕ → List ℕ
without_place back [] = []
without_place back (k ∷ ks) = if k == back then ks else k ∷ without_place back ks

-- those that did not come back
abbrev pub without : Option ℕ → List ℕ → List ℕ
without None ks = ks
without (Some back) ks = without_place back ks

-- so many places behind one
abbrev pub places_behind : ℕ → ℕ → List ℕ
places_behind from zero = []
places_behind from (suc n) = (from + 1) ∷ places_behind (from + 1) n

-- one came back or none, and the list of works grew
unfoldable pub lent_after : Option ℕ → ℕ → ℕ → List ℕ → List ℕ
lent_after back from to ks = without back ks ++ places_behind from (to - from)

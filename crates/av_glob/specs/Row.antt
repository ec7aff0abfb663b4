-- Which fronts of a text are matched: a mark for each place, the first for the empty front.
use Rattle.std.specs.Prelude.{ℕ, ◌||◌, ◌&&◌, Bool, true, false, List, [], ◌∷◌}

-- no place of these is matched
abbrev pub unmarked : List ℕ → List Bool
unmarked [] = []
unmarked (b ∷ text) = false ∷ unmarked text

-- without an item the empty front alone is matched
abbrev pub begun : List ℕ → List Bool
begun text = true ∷ unmarked text

-- a place is reached from the place before by a byte, and where any number is taken with none
abbrev pub is_reached : Bool → Bool → Bool → Bool
is_reached true before mark = before || mark
is_reached false before mark = before

-- a further byte may be taken from a place: from one that is reached where any number is taken
abbrev pub is_open : Bool → Bool → Bool → Bool
is_open true before mark = before || mark
is_open false before mark = mark

-- the marks behind one item more, which takes one of these bytes or any number of them
abbrev pub moved : Bool → (ℕ → Bool) → Bool → List Bool → List ℕ → List Bool
moved repeats takes before [] text = []
moved repeats takes before (mark ∷ marks) [] = is_reached repeats before mark ∷ []
moved repeats takes before (mark ∷ marks) (b ∷ text) =
    is_reached repeats before mark ∷ moved repeats takes (is_open repeats before mark && takes b) marks text

-- the last mark, where there is one
abbrev pub last_so : Bool → List Bool → Bool
last_so before [] = before
last_so before (mark ∷ marks) = last_so mark marks

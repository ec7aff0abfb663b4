-- The places of bars beside their lane.
use Rattle.std.specs.Prelude.{ℕ, ◌==◌, ◌&&◌, ◌||◌, Bool, nat_le, nat_lt, List, [], ◌∷◌, Option, None, Some, position, slice_set}
use Rattle.av_chart.specs.Life.{Life}
use Rattle.av_chart.specs.declared.life.End.{End}
use Rattle.av_chart.specs.declared.life.Moment.{Moment}

-- whether a moment is this one or before it
abbrev pub is_by : Moment → Moment → Bool
is_by m other = nat_lt m.step other.step || (m.step == other.step && nat_le m.line other.line)

-- the four places beside a lane are free at the beginning; each is held until a moment
abbrev pub free_places : List Moment
free_places = let m : Moment = record { step = 0; line = 0 } in m ∷ m ∷ m ∷ m ∷ []

-- the place of what was found free; behind the four is the shared one
abbrev pub place_or_shared : Option ℕ → ℕ
place_or_shared None = 4
place_or_shared (Some k) = k

-- the first place that is free at a moment
abbrev pub first_free : List Moment → Moment → Option ℕ
first_free held at = position (λ m. is_by m at) held

-- the places once this one is held
abbrev pub hold : List Moment → Option ℕ → Moment → List Moment
hold held None until = held
hold held (Some k) until = slice_set held k until

-- until when a life holds its place: what has not ended, up to the last moment
abbrev pub until : Moment → Option End → Moment
until last None = last
until last (Some e) = e.at

-- the places of lives in turn
abbrev pub slots : Moment → List Moment → List Life → List ℕ
slots last held [] = []
slots last held (l ∷ ls) =
    place_or_shared (first_free held l.begin) ∷ slots last (hold held (first_free held l.begin) (until last l.end)) ls

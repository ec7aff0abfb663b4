-- The lanes, their names, and the shapes that several parts of a picture have.
use Rattle.std.specs.Prelude.{ℕ, ◌+◌, ◌-◌, ◌*◌, ◌/◌, ◌%◌, ◌==◌, ◌&&◌, nat_lt, List, [], ◌∷◌, length, codes, if◌then◌else◌}
use Rattle.av_base.specs.Part.{spelt}
use Rattle.av_chart.specs.Mark.{band_text, block_text, line_text, words_text}
use Rattle.av_chart.specs.Place.{top_of}
use Rattle.av_chart.specs.Spot.{above, below, left_of, spot, within}
use Rattle.av_chart.specs.declared.place.Places.{Places}
use Rattle.av_chart.specs.declared.spot.Spot.{Spot}

-- a lane, down to the end of the last row
unfoldable pub lane_text : List ℕ → ℕ → ℕ → List ℕ
lane_text class x bottom = line_text class (spot x 78) (spot x bottom)

-- the lanes
unfoldable pub lanes_text : ℕ → List ℕ
lanes_text bottom =
    spelt
    (
    lane_text (codes "l") 332 bottom ∷ lane_text (codes "l") 452 bottom ∷ lane_text (codes "l") 712 bottom
    ∷ lane_text (codes "l") 1030 bottom ∷ lane_text (codes "l spent") 871 bottom ∷ []
    )

-- the name of a lane
unfoldable pub name_text : List ℕ → ℕ → ℕ → List ℕ
name_text words x y = words_text (spot x y) (codes " class=\"h halo\" text-anchor=\"middle\"") words

-- the names of the lanes
unfoldable pub names_text : ℕ → List ℕ
names_text y =
    spelt
    (
    name_text (codes "volume") 332 y ∷ name_text (codes "opener") 452 y ∷ name_text (codes "filter") 712 y
    ∷ name_text (codes "port") 871 y ∷ name_text (codes "service") 1030 y ∷ []
    )

-- the names of the lanes in a band, with their feet at a height
unfoldable pub band_of_names : ℕ → List ℕ
band_of_names y = spelt (band_text (y - 14) ∷ names_text y ∷ [])

-- the band above the row of a step, which is the one at k: before each fortieth there is one
abbrev pub band_at : Places → ℕ → ℕ → List ℕ
band_at p step k = if nat_lt 0 k && (k % 40 == 0) then band_of_names (top_of p step - 14) else []

-- about how wide words are
abbrev pub wide : List ℕ → ℕ
wide words = within (length words * 7)

-- half the width of a pill round words
abbrev pub half : List ℕ → ℕ
half words = within (wide words / 2 + 7)

-- words in a pill round a spot
unfoldable pub pill_text : Spot → List ℕ → List ℕ
pill_text at words =
    spelt
    (
    block_text (codes "pill") (above (left_of at (half words)) 9) (within (half words * 2)) 17 (codes " rx=\"8\"")
    ∷ words_text (below at 4) (codes " text-anchor=\"middle\"") words ∷ []
    )

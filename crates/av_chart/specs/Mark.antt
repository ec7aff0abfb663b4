-- The text of each mark of a picture.
use Rattle.std.specs.Prelude.{ℕ, List, [], ◌∷◌, ◌++◌, map, codes, decimal}
use Rattle.av_base.specs.Part.{spelt}
use Rattle.av_chart.specs.Escape.{escaped}
use Rattle.av_chart.specs.Spot.{above, below, left_of, right_of}
use Rattle.av_chart.specs.declared.mark.Mark.{Mark}
use Rattle.av_chart.specs.declared.mark.Mark.TheVariants.{Band, Bar, Bent, Block, Dot, Head, Line, Titled, Words}
use Rattle.av_chart.specs.declared.mark.Side.{Side}
use Rattle.av_chart.specs.declared.mark.Side.TheVariants.{Left, Right}
use Rattle.av_chart.specs.declared.spot.Spot.{Spot}

-- a spot of a path
unfoldable pub spot_text : Spot → List ℕ
spot_text s = spelt (decimal s.x ∷ codes " " ∷ decimal s.y ∷ [])

-- and one behind another
unfoldable pub next_spot_text : Spot → List ℕ
next_spot_text s = spelt (codes " L" ∷ spot_text s ∷ [])

-- the beginning of words: where they stand and how they look
unfoldable pub place_text : Spot → List ℕ → List ℕ
place_text at look =
    spelt (codes "<text x=\"" ∷ decimal at.x ∷ codes "\" y=\"" ∷ decimal at.y ∷ codes "\"" ∷ look ∷ codes ">" ∷ [])

-- what is told to who points at a mark
unfoldable pub title_text : List ℕ → List ℕ
title_text title = spelt (codes "<title>" ∷ escaped title ∷ codes "</title>" ∷ [])

unfoldable pub words_text : Spot → List ℕ → List ℕ → List ℕ
words_text at look words = spelt (place_text at look ∷ escaped words ∷ codes "</text>\n" ∷ [])

unfoldable pub titled_text : Spot → List ℕ → List ℕ → List ℕ → List ℕ
titled_text at look title words = spelt (place_text at look ∷ title_text title ∷ escaped words ∷ codes "</text>\n" ∷ [])

-- the beginning of a path
unfoldable pub path_text : List ℕ → List ℕ
path_text class = spelt (codes "<path class=\"" ∷ class ∷ codes "\" d=\"M" ∷ [])

unfoldable pub line_text : List ℕ → Spot → Spot → List ℕ
line_text class from to =
    spelt
    (
    codes "<path class=\"" ∷ class ∷ codes "\" d=\"M" ∷ decimal from.x ∷ codes " " ∷ decimal from.y ∷ codes " L"
    ∷ decimal to.x ∷ codes " " ∷ decimal to.y ∷ codes "\"/>\n" ∷ []
    )

unfoldable pub bent_text : List ℕ → Spot → Spot → Spot → Spot → List ℕ
bent_text class from leaves arrives to =
    spelt
    (path_text class ∷ spot_text from ∷ next_spot_text leaves ∷ next_spot_text arrives ∷ next_spot_text to ∷ codes "\"/>\n" ∷ [])

-- the spot behind an arrow's tip
abbrev pub behind : Side → Spot → Spot
behind Right tip = left_of tip 8
behind Left tip = right_of tip 8

unfoldable pub head_text : List ℕ → Spot → Side → List ℕ
head_text class tip side =
    spelt
    (
    path_text class ∷ spot_text tip ∷ next_spot_text (above (behind side tip) 4) ∷ next_spot_text (below (behind side tip) 4)
    ∷ codes " Z\"/>\n" ∷ []
    )

unfoldable pub dot_text : List ℕ → Spot → List ℕ
dot_text class at =
    spelt
    (codes "<circle class=\"" ∷ class ∷ codes "\" cx=\"" ∷ decimal at.x ∷ codes "\" cy=\"" ∷ decimal at.y ∷ codes "\" r=\"3\"/>\n" ∷ [])

-- the beginning of a block, up to its width
unfoldable pub corner_text : List ℕ → Spot → List ℕ
corner_text class at =
    spelt
    (
    codes "<rect class=\"" ∷ class ∷ codes "\" x=\"" ∷ decimal at.x ∷ codes "\" y=\"" ∷ decimal at.y ∷ codes "\" width=\"" ∷ []
    )

-- the size of a block, and what else it has
unfoldable pub size_text : ℕ → ℕ → List ℕ → List ℕ
size_text width height more =
    spelt (decimal width ∷ codes "\" height=\"" ∷ decimal height ∷ codes "\"" ∷ more ∷ codes "/>\n" ∷ [])

unfoldable pub block_text : List ℕ → Spot → ℕ → ℕ → List ℕ → List ℕ
block_text class at width height more = spelt (corner_text class at ∷ size_text width height more ∷ [])

-- the size of a bar
unfoldable pub bar_size_text : ℕ → List ℕ
bar_size_text height = spelt (codes "6\" height=\"" ∷ decimal height ∷ codes "\" rx=\"2\">" ∷ [])

unfoldable pub bar_text : List ℕ → Spot → ℕ → List ℕ → List ℕ
bar_text class at height title =
    spelt (corner_text class at ∷ bar_size_text height ∷ title_text title ∷ codes "</rect>\n" ∷ [])

unfoldable pub band_text : ℕ → List ℕ
band_text y = spelt (codes "<rect class=\"pill\" x=\"-1\" y=\"" ∷ decimal y ∷ codes "\" width=\"1292\" height=\"20\"/>\n" ∷ [])

-- bytes as text, and what ends it
unfoldable pub until_text : List ℕ → List ℕ → List ℕ
until_text bytes end = escaped bytes ++ end

-- the text of a mark
abbrev pub mark_text : Mark → List ℕ
mark_text (Words at look words) = words_text at look.now words.now
mark_text (Titled at look title words) = titled_text at look.now title.now words.now
mark_text (Line class from to) = line_text class.now from to
mark_text (Bent class from leaves arrives to) = bent_text class.now from leaves arrives to
mark_text (Head class tip side) = head_text class.now tip side
mark_text (Dot class at) = dot_text class.now at
mark_text (Block class at width height more) = block_text class.now at width height more.now
mark_text (Bar class at height title) = bar_text class.now at height title.now
mark_text (Band y) = band_text y

-- marks one behind the other
abbrev pub marks_text : List Mark → List ℕ
marks_text marks = spelt (map mark_text marks)

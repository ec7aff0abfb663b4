-- The legend under a picture.
use Rattle.std.specs.Prelude.{ℕ, ◌+◌, List, [], ◌∷◌, codes}
use Rattle.av_base.specs.Part.{spelt}
use Rattle.av_chart.specs.Arrow.{cross_text}
use Rattle.av_chart.specs.Lanes.{wide}
use Rattle.av_chart.specs.Mark.{block_text, line_text, words_text}
use Rattle.av_chart.specs.Spot.{above, below, right_of, spot, within}
use Rattle.av_chart.specs.declared.spot.Spot.{Spot}

-- where the next sign stands behind words at a spot
abbrev pub behind_word : Spot → List ℕ → Spot
behind_word at words = right_of at (within (wide words + 18))

-- words beside their sign
unfoldable pub word_text : Spot → List ℕ → List ℕ
word_text at words = words_text (below at 4) (codes " class=\"n\"") words

-- a kind of bar and its name
unfoldable pub life_sign : Spot → List ℕ → List ℕ → List ℕ
life_sign at class words = spelt (block_text class (above at 6) 6 12 (codes " rx=\"2\"") ∷ word_text (right_of at 12) words ∷ [])

-- a kind of line and its name
unfoldable pub line_sign : Spot → List ℕ → List ℕ → List ℕ
line_sign at class words = spelt (line_text class at (right_of at 34) ∷ word_text (right_of at 40) words ∷ [])

-- the line of a message that never arrives, and its name
unfoldable pub lost_sign : Spot → List ℕ
lost_sign at =
    spelt
    (
    line_text (codes "d") at (right_of at 28) ∷ cross_text (right_of at 28)
    ∷ word_text (right_of at 40) (codes "never delivered") ∷ []
    )

-- where the sign behind a bar's stands, and behind a line's
abbrev pub behind_life : Spot → List ℕ → Spot
behind_life at words = behind_word (right_of at 12) words

abbrev pub behind_line : Spot → List ℕ → Spot
behind_line at words = behind_word (right_of at 40) words

-- the bars of a legend that begins at a spot
unfoldable pub lives_legend : Spot → List ℕ
lives_legend at =
    let questions = behind_life at (codes "open") in
    let jobs = behind_life questions (codes "question") in
    let works = behind_life jobs (codes "job") in
    spelt
    (
    life_sign at (codes "bo") (codes "open") ∷ life_sign questions (codes "bq") (codes "question")
    ∷ life_sign jobs (codes "bj") (codes "job") ∷ life_sign works (codes "bw") (codes "work") ∷ []
    )

-- where the lines begin
abbrev pub behind_lives : Spot → Spot
behind_lives at =
    behind_life (behind_life (behind_life (behind_life at (codes "open")) (codes "question")) (codes "job")) (codes "work")

-- the sign of what brings nothing any more, and where the next one stands
unfoldable pub spent_sign : Spot → List ℕ
spent_sign at = line_sign at (codes "d spent") (codes "brings nothing any more")

unfoldable pub behind_spent : Spot → Spot
behind_spent at = behind_line at (codes "brings nothing any more")

-- the sign of what comes again, and where the next one stands
unfoldable pub again_sign : Spot → List ℕ
again_sign at = line_sign at (codes "d again") (codes "delivered again")

unfoldable pub behind_again : Spot → Spot
behind_again at = behind_line at (codes "delivered again")

-- the lines of a legend
unfoldable pub lines_legend : Spot → List ℕ
lines_legend at =
    let spent = behind_line at (codes "message") in
    let again = behind_spent spent in
    spelt
    (
    line_sign at (codes "d") (codes "message") ∷ spent_sign spent ∷ again_sign again ∷ lost_sign (behind_again again) ∷ []
    )

-- the legend at a height
unfoldable pub legend_text : ℕ → List ℕ
legend_text y = let start = spot 52 y in spelt (lives_legend start ∷ lines_legend (behind_lives start) ∷ [])

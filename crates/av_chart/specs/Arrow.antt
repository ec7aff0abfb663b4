-- The arrows of messages.
use Rattle.std.specs.Prelude.{ℕ, ◌+◌, max, Bool, true, false, List, [], ◌∷◌, ◌++◌, codes, if◌then◌else◌}
use Rattle.av_base.specs.Part.{spelt}
use Rattle.av_chart.specs.Lanes.{wide}
use Rattle.av_chart.specs.Mark.{bent_text, dot_text, head_text, line_text, titled_text, words_text}
use Rattle.av_chart.specs.Place.{y_of}
use Rattle.av_chart.specs.Spot.{above, below, left_of, right_of, spot, within}
use Rattle.av_output.specs.declared.message.Direction.{Direction}
use Rattle.av_output.specs.declared.message.Direction.TheVariants.{Down, Up}
use Rattle.av_chart.specs.declared.life.Moment.{Moment}
use Rattle.av_chart.specs.declared.mark.Side.{Side}
use Rattle.av_chart.specs.declared.mark.Side.TheVariants.{Left, Right}
use Rattle.av_chart.specs.declared.picture.messages.Manner.{Manner}
use Rattle.av_chart.specs.declared.picture.messages.Manner.TheVariants.{Again, Plain, Spent}
use Rattle.av_chart.specs.declared.place.Places.{Places}
use Rattle.av_chart.specs.declared.spot.Spot.{Spot}

-- an arrow with its head
unfoldable pub arrow_text : List ℕ → List ℕ → Spot → Spot → Side → List ℕ
arrow_text class head from to side = spelt (line_text class from to ∷ head_text head to side ∷ [])

-- a cross
unfoldable pub cross_text : Spot → List ℕ
cross_text at =
    spelt
    (
    line_text (codes "x") (above (left_of at 5) 5) (below (right_of at 5) 5)
    ∷ line_text (codes "x") (below (left_of at 5) 5) (above (right_of at 5) 5) ∷ []
    )

-- how an arrival is drawn: one that brings nothing any more before one that comes again
abbrev pub manner_of : Bool → Bool → Manner
manner_of true again = Spent
manner_of false true = Again
manner_of false false = Plain

-- the class of a line: dashes for what comes again, dots for what brings nothing any more
abbrev pub class_of : Direction → Manner → List ℕ
class_of Down Plain = codes "d"
class_of Down Again = codes "d again"
class_of Down Spent = codes "d spent"
class_of Up Plain = codes "u"
class_of Up Again = codes "u again"
class_of Up Spent = codes "u spent"

-- the lane on which a message leaves, and the one on which it arrives
abbrev pub start_of : Direction → ℕ
start_of Down = 712
start_of Up = 1030

abbrev pub goal_of : Direction → ℕ
goal_of Down = 1030
goal_of Up = 712

-- on which end an arrow has its head, and the class of the head
abbrev pub side_of : Direction → Side
side_of Down = Right
side_of Up = Left

abbrev pub head_of : Direction → List ℕ
head_of Down = codes "hd"
head_of Up = codes "hu"

-- so far towards the goal of a message, and away from it
abbrev pub towards : Direction → Spot → ℕ → Spot
towards Down s by = right_of s by
towards Up s by = left_of s by

abbrev pub back : Direction → Spot → ℕ → Spot
back Down s by = left_of s by
back Up s by = right_of s by

-- where a message leaves its lane: at its moment, so much lower
abbrev pub leaves_at : Places → Direction → Moment → ℕ → Spot
leaves_at p way sent late = below (spot (start_of way) (y_of p sent)) late

-- where a message arrives: on its goal's lane, on the first line of the step's row
abbrev pub arrives_at : Places → Direction → ℕ → Spot
arrives_at p way step = let first : Moment = record { step = step; line = 0 } in spot (goal_of way) (y_of p first)

-- one arrow from where a message leaves to where it arrives
unfoldable pub near_text : Direction → Manner → Spot → Spot → List ℕ
near_text way m from to =
    spelt (bent_text (class_of way m) from (towards way from 24) (back way to 18) to ∷ head_text (head_of way) to (side_of way) ∷ [])

-- the line of a message that never arrives: it has no head, and ends in a cross
unfoldable pub crossed_text : Direction → Spot → Spot → List ℕ
crossed_text way from end = spelt (line_text (class_of way Plain) from end ∷ cross_text end ∷ [])

-- and is clear of its words
abbrev pub lost_text : Direction → List ℕ → Spot → List ℕ
lost_text way words from = crossed_text way from (towards way from (max (within (wide words + 36)) 159))

-- the spot of the port beside another
abbrev pub at_port : Spot → Spot
at_port s = spot 871 s.y

-- the line of a message that arrives elsewhere: it ends in a dot at the port
unfoldable pub cut_text : Direction → Spot → List ℕ
cut_text way from = spelt (line_text (class_of way Plain) from (at_port from) ∷ dot_text (head_of way) (at_port from) ∷ [])

-- the words of a message where it leaves
abbrev pub look_of_departure : Direction → List ℕ
look_of_departure Down = codes " class=\"td halo\""
look_of_departure Up = codes " class=\"tu halo\" text-anchor=\"end\""

unfoldable pub leaving_text : Direction → Spot → List ℕ → List ℕ → List ℕ
leaving_text way from title words = titled_text (above (towards way from 28) 3) (look_of_departure way) title words

-- the look of the words of an arrival
abbrev pub look_of : Direction → List ℕ
look_of Down = codes " class=\"td halo\" text-anchor=\"end\""
look_of Up = codes " class=\"tu halo\""

-- an arrival that begins at a dot at the port, with its words
unfoldable pub arrival_text : Direction → Manner → Spot → List ℕ → List ℕ
arrival_text way m to words =
    spelt
    (
    dot_text (head_of way) (at_port to) ∷ line_text (class_of way m) (at_port to) to ∷ head_text (head_of way) to (side_of way)
    ∷ words_text (above (back way to 22) 3) (look_of way) words ∷ []
    )

-- the words of an arrival: whether it comes late or again, and those of its message
abbrev pub arrival_words : Bool → List ℕ → List ℕ
arrival_words again words = (if again then codes "again " else codes "late ") ++ words

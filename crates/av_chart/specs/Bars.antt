-- The bars of what lives, beside their lanes.
use Rattle.std.specs.Prelude.{ℕ, ◌+◌, ◌-◌, ◌*◌, ◌&&◌, max, Bool, nat_le, nat_lt, List, [], ◌∷◌, ◌++◌, Option, None, Some, slice_get, map, codes, decimal, if◌then◌else◌}
use Rattle.std.specs.declared.vec.Vec.{Vec}
use Rattle.std.specs.declared.alloc.Global.{Global}
use Rattle.av_base.specs.Part.{spelt}
use Rattle.av_chart.specs.Mark.{bar_text}
use Rattle.av_chart.specs.Number.{capped}
use Rattle.av_chart.specs.Place.{y_of}
use Rattle.av_chart.specs.Spot.{spot, within}
use Rattle.av_chart.specs.declared.life.Bar.{Bar}
use Rattle.av_chart.specs.declared.life.End.{End}
use Rattle.av_chart.specs.declared.life.How.{How}
use Rattle.av_chart.specs.declared.life.How.TheVariants.{Granted, Unscanned, Denied, Aborted, Clean, Infected, Failed, Ended, Dropped, Run, Byte}
use Rattle.av_chart.specs.declared.life.Moment.{Moment}
use Rattle.av_chart.specs.declared.picture.Picture.{Picture}
use Rattle.av_chart.specs.declared.picture.bars.Kind.{Kind}
use Rattle.av_chart.specs.declared.picture.bars.Kind.TheVariants.{Open, Question, Job, Work}

-- the color of a bar
abbrev pub class_of : Kind → List ℕ
class_of Open = codes "bo"
class_of Question = codes "bq"
class_of Job = codes "bj"
class_of Work = codes "bw"

-- how far from its lane a place is
abbrev pub far : ℕ → ℕ
far slot = within (within (slot * 8) + 4)

-- the left edge of a bar at a place beside its lane
abbrev pub edge_of : Kind → ℕ → ℕ
edge_of Open slot = 452 - far slot - 6
edge_of Question slot = 712 - far slot - 6
edge_of Job slot = within (1030 + far slot)
edge_of Work slot = within (1074 + far slot)

-- how a life ended
unfoldable pub how_text : How → List ℕ
how_text Granted = codes ", granted"
how_text Unscanned = codes ", unscanned"
how_text Denied = codes ", denied"
how_text Aborted = codes ", aborted"
how_text Clean = codes ", clean"
how_text Infected = codes ", infected"
how_text Failed = codes ", failed"
how_text Ended = codes ", ended"
how_text Dropped = codes ", dropped"
how_text Run = codes ", run"
how_text (Byte byte) = spelt (codes ", " ∷ decimal byte ∷ [])

-- and whether it did
unfoldable pub ended_text : Option End → List ℕ
ended_text None = codes ", not ended"
ended_text (Some e) = how_text e.how

-- this line, where it is there
abbrev pub line_or_none : Option (Vec ℕ Global) → List ℕ
line_or_none None = []
line_or_none (Some line) = line.items

-- the line that told a piece of work, by its number
abbrev pub told_by : Picture → ℕ → List ℕ
told_by p number = line_or_none (slice_get p.happened.now.works_told.items (number - 1))

-- what lives
unfoldable pub life_text : Picture → Kind → Bar → List ℕ
life_text p Open b = spelt (codes "open " ∷ decimal b.id.seq ∷ codes " of " ∷ b.name.now ∷ [])
life_text p Question b =
    spelt
    (
    codes "question " ∷ decimal b.id.boot ∷ codes "." ∷ decimal b.id.seq ∷ codes ": " ∷ b.name.now ∷ codes " generation "
    ∷ decimal b.generation ∷ []
    )
life_text p Job b = spelt (codes "job of " ∷ decimal b.id.boot ∷ codes "." ∷ decimal b.id.seq ∷ [])
life_text p Work b = told_by p b.id.seq

-- what lives, and how it ended
unfoldable pub bar_title : Picture → Kind → Bar → List ℕ
bar_title p kind b = life_text p kind b ++ ended_text b.end

-- the first step behind the picture
abbrev pub behind : Picture → ℕ
behind p = capped (p.first + p.count)

-- when an end is; what never ended ends behind the picture
abbrev pub end_at : Picture → Option End → Moment
end_at p None = record { step = behind p; line = 0 }
end_at p (Some e) = e.at

-- whether a life reaches into the picture
abbrev pub reaches : Picture → Bar → Bool
reaches p b = nat_le p.first (end_at p b.end).step && nat_lt b.begin.step (behind p)

-- the bar of a life
unfoldable pub life_bar : Picture → Kind → Bar → List ℕ
life_bar p kind b =
    bar_text (class_of kind) (spot (edge_of kind b.slot) (y_of p.places.now b.begin))
    (max (y_of p.places.now (end_at p b.end) - y_of p.places.now b.begin) 4) (bar_title p kind b)

-- the bar of a life, where it reaches into the picture
abbrev pub bar_shown : Picture → Kind → Bar → List ℕ
bar_shown p kind b = if reaches p b then life_bar p kind b else []

-- the bars of one kind, and all
abbrev pub bars_text : Picture → Kind → List Bar → List ℕ
bars_text p kind bars = spelt (map (bar_shown p kind) bars)

unfoldable pub all_bars_text : Picture → List ℕ
all_bars_text p =
    spelt
    (
    bars_text p Open p.happened.now.opens ∷ bars_text p Question p.happened.now.questions
    ∷ bars_text p Job p.happened.now.jobs ∷ bars_text p Work p.happened.now.works ∷ []
    )

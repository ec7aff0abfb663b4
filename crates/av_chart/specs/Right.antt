-- What a step did on the right of the port: to the service and its works.
use Rattle.std.specs.Prelude.{ℕ, ◌*◌, ◌/◌, ◌==◌, Bool, true, false, List, [], ◌∷◌, ◌++◌, Option, None, Some, slice_get, codes, decimal, if◌then◌else◌}
use Rattle.std.specs.declared.vec.Vec.{Vec}
use Rattle.std.specs.declared.alloc.Global.{Global}
use Rattle.av_base.specs.Part.{spelt}
use Rattle.av_history.specs.World.{WorldState}
use Rattle.av_history.specs.declared.report.EventNote.{EventNote}
use Rattle.av_history.specs.declared.report.EventNote.TheVariants.{Filter, Service}
use Rattle.av_chart.specs.Arrow.{arrow_text}
use Rattle.av_chart.specs.Lanes.{pill_text, wide}
use Rattle.av_chart.specs.Left.{height_at}
use Rattle.av_chart.specs.Mark.{words_text}
use Rattle.av_chart.specs.Row.{is_noted, note_of}
use Rattle.av_chart.specs.Spot.{below, right_of, spot, within}
use Rattle.av_chart.specs.Words.{port_end, told_note, word_at}
use Rattle.av_chart.specs.declared.happened.ServiceMark.{ServiceMark}
use Rattle.av_chart.specs.declared.happened.ServiceMark.TheVariants.{FilterLost, Restart, Set}
use Rattle.av_chart.specs.declared.happened.Step.{Step}
use Rattle.av_chart.specs.declared.life.Bar.{Bar}
use Rattle.av_chart.specs.declared.mark.Side.TheVariants.{Left}
use Rattle.av_chart.specs.declared.picture.Picture.{Picture}

-- words right of the works
unfoldable pub told_text : List ℕ → List ℕ → ℕ → List ℕ
told_text look words y = words_text (below (spot 1126 y) 4) look words

-- what befalls the service
unfoldable pub service_label : ServiceMark → List ℕ
service_label (FilterLost port) = spelt (codes "filter is lost" ∷ port_end port ∷ [])
service_label (Restart port) = spelt (codes "restart" ∷ port_end port ∷ [])
service_label (Set version signatures) =
    spelt
    (
    codes "set v" ∷ decimal version ∷ codes ", " ∷ decimal signatures
    ∷ (if signatures == 1 then codes " signature" else codes " signatures") ∷ []
    )

unfoldable pub service_pill : List ℕ → ℕ → List ℕ
service_pill words y = pill_text (right_of (spot 1126 y) (wide words / 2)) words

abbrev pub service_text : Option ServiceMark → ℕ → List ℕ
service_text None y = []
service_text (Some mark) y = service_pill (service_label mark) y

-- the note of the service
abbrev pub note_right : WorldState → EventNote → ℕ → List ℕ
note_right w (Filter note) y = []
note_right w (Service note) y = told_text (codes " class=\"tw halo\"") (word_at 1 (told_note w (Service note))) y

abbrev pub noted_right : WorldState → Step → ℕ → List ℕ
noted_right w s y = if is_noted s.note then note_right w (note_of s.note) y else []

-- work that was lent: its number, how many bytes, and from where
unfoldable pub lent_label : List ℕ → List ℕ
lent_label line =
    spelt (codes "work " ∷ word_at 1 line ∷ codes ": " ∷ word_at 7 line ∷ codes " B from " ∷ word_at 5 line ∷ [])

abbrev pub lent_line : Option (Vec ℕ Global) → ℕ → List ℕ
lent_line None y = []
lent_line (Some line) y = told_text (codes " class=\"halo\"") (lent_label line.items) y

abbrev pub lent_text : List (Vec ℕ Global) → Option ℕ → ℕ → List ℕ
lent_text told None y = []
lent_text told (Some k) y = lent_line (slice_get told k) y

-- work that comes back: an arrow from its bar, and words unless a note stands there
unfoldable pub back_words : Bar → Bool → ℕ → List ℕ
back_words b true y = []
back_words b false y = told_text (codes " class=\"n halo\"") (spelt (codes "work " ∷ decimal b.id.seq ∷ codes " comes back" ∷ [])) y

unfoldable pub back_text : Bar → Bool → ℕ → List ℕ
back_text b noted y =
    arrow_text (codes "o") (codes "ho") (right_of (spot 1080 y) (within (b.slot * 8))) (spot 1030 y) Left ++ back_words b noted y

abbrev pub ran_bar : Option Bar → Bool → ℕ → List ℕ
ran_bar None noted y = []
ran_bar (Some b) noted y = back_text b noted y

abbrev pub ran_text : List Bar → Option ℕ → Bool → ℕ → List ℕ
ran_text bars None noted y = []
ran_text bars (Some k) noted y = ran_bar (slice_get bars k) noted y

-- what a step did on the right
unfoldable pub right_text : Picture → ℕ → Step → List ℕ
right_text p number s =
    let y = height_at p.places.now number 0 in
    spelt
    (
    service_text s.service y ∷ noted_right p.world.now s y ∷ lent_text p.happened.now.works_told.items s.lent y
    ∷ ran_text p.happened.now.works s.ran (is_noted s.note) y ∷ []
    )

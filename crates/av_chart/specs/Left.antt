-- What a step did on the left of the port: to the volume, the opener and the filter.
use Rattle.std.specs.Prelude.{ℕ, ◌+◌, ◌/◌, max, List, [], ◌∷◌, ◌++◌, Option, None, Some, codes, decimal, if◌then◌else◌}
use Rattle.av_base.specs.Part.{spelt}
use Rattle.av_pend.specs.declared.answer.Answer.{Answer}
use Rattle.av_pend.specs.declared.answer.Answer.TheVariants.{Granted, Unscanned, Denied}
use Rattle.av_history.specs.World.{WorldState}
use Rattle.av_history.specs.declared.given.Given.{Given}
use Rattle.av_history.specs.declared.report.EventNote.{EventNote}
use Rattle.av_history.specs.declared.report.EventNote.TheVariants.{Filter, Service}
use Rattle.av_chart.specs.Arrow.{arrow_text}
use Rattle.av_chart.specs.Escape.{printed, short}
use Rattle.av_chart.specs.Lanes.{pill_text, wide}
use Rattle.av_chart.specs.Mark.{words_text}
use Rattle.av_chart.specs.Place.{y_of}
use Rattle.av_chart.specs.Row.{asked_lines, is_noted, note_of, spanned}
use Rattle.av_chart.specs.Spot.{above, below, left_of, right_of, spot, within}
use Rattle.av_chart.specs.Words.{answer_label, port_end, told_note, verdict_word, word_at}
use Rattle.av_chart.specs.declared.happened.Asks.{Asks}
use Rattle.av_chart.specs.declared.happened.Asks.TheVariants.{Open, Cleanup}
use Rattle.av_chart.specs.declared.happened.FilterMark.{FilterMark}
use Rattle.av_chart.specs.declared.happened.FilterMark.TheVariants.{Boot, Timeout, ServiceLost}
use Rattle.av_chart.specs.declared.happened.Step.{Step}
use Rattle.av_chart.specs.declared.happened.VolumeMark.{VolumeMark}
use Rattle.av_chart.specs.declared.happened.VolumeMark.TheVariants.{Created, Changed, Removed, Judged}
use Rattle.av_chart.specs.declared.life.Moment.{Moment}
use Rattle.av_chart.specs.declared.mark.Side.TheVariants.{Left, Right}
use Rattle.av_chart.specs.declared.picture.Picture.{Picture}
use Rattle.av_chart.specs.declared.place.Places.{Places}
use Rattle.av_chart.specs.declared.spot.Spot.{Spot}

-- the height of a line of a step's row
abbrev pub height_at : Places → ℕ → ℕ → ℕ
height_at p step line = let m : Moment = record { step = step; line = line } in y_of p m

-- what befell the stream that a command names
unfoldable pub volume_label : VolumeMark → List ℕ → List ℕ
volume_label Created name = spelt (short 9 (printed name) ∷ codes " g1" ∷ [])
volume_label (Changed generation size) name =
    spelt (short 9 (printed name) ∷ codes " g" ∷ decimal generation ∷ codes " " ∷ decimal size ∷ codes " B" ∷ [])
volume_label Removed name = spelt (short 9 (printed name) ∷ codes " removed" ∷ [])
volume_label (Judged generation version verdict) name =
    spelt (codes "judge g" ∷ decimal generation ∷ codes " v" ∷ decimal version ∷ verdict_word verdict ∷ [])

abbrev pub volume_text : Option VolumeMark → List ℕ → ℕ → List ℕ
volume_text None command y = []
volume_text (Some mark) command y = pill_text (spot 332 y) (volume_label mark (word_at 1 command))

-- the least version that an open asks for, where it asks for one
unfoldable pub least_text : List ℕ → List ℕ
least_text [] = []
least_text (b ∷ bs) = spelt (codes " least " ∷ (b ∷ bs) ∷ [])

-- what the opener asks
unfoldable pub open_label : ℕ → List ℕ → List ℕ → List ℕ
open_label open_id name least = spelt (codes "open " ∷ decimal open_id ∷ codes " " ∷ name ∷ []) ++ least_text least

unfoldable pub asks_label : Asks → List ℕ → List ℕ
asks_label (Open open_id) command = open_label open_id (short 14 (printed (word_at 1 command))) (word_at 2 command)
asks_label Cleanup command = spelt (codes "cleanup " ∷ short 14 (printed (word_at 1 command)) ∷ [])

-- the arrow of what the opener asks, with its words
unfoldable pub asked_text : Asks → List ℕ → ℕ → List ℕ
asked_text asks command y =
    words_text (above (right_of (spot 452 y) 10) 3) (codes " class=\"halo\"") (asks_label asks command)
    ++ arrow_text (codes "o") (codes "ho") (spot 452 y) (spot 712 y) Right

abbrev pub asks_text : Option Asks → List ℕ → ℕ → List ℕ
asks_text None command y = []
asks_text (Some asks) command y = asked_text asks command y

-- how an answer looks: green, amber or red
abbrev pub answer_class : Answer → List ℕ
answer_class (Granted open_id least stream generation version) = codes "sg"
answer_class (Unscanned open_id stream generation cause) = codes "su"
answer_class (Denied open_id cause) = codes "sd"

abbrev pub answer_head : Answer → List ℕ
answer_head (Granted open_id least stream generation version) = codes "granted"
answer_head (Unscanned open_id stream generation cause) = codes "unscanned"
answer_head (Denied open_id cause) = codes "denied"

abbrev pub answer_look : Answer → List ℕ
answer_look (Granted open_id least stream generation version) = codes " class=\"granted halo\""
answer_look (Unscanned open_id stream generation cause) = codes " class=\"unscanned halo\""
answer_look (Denied open_id cause) = codes " class=\"denied halo\""

-- the arrow of an answer, with its words
unfoldable pub answer_text : Answer → ℕ → List ℕ
answer_text a y =
    arrow_text (answer_class a) (answer_head a) (spot 712 y) (spot 452 y) Left
    ++ words_text (above (right_of (spot 452 y) 14) 3) (answer_look a) (answer_label a)

-- the answers of a step from a line of its row on, each on a line of its own
abbrev pub answers_text : Places → ℕ → ℕ → List Given → List ℕ
answers_text p step line [] = []
answers_text p step line (g ∷ gs) = answer_text g.answer (height_at p step line) ++ answers_text p step (within (line + 1)) gs

-- what befalls the filter
unfoldable pub filter_label : FilterMark → List ℕ → List ℕ
filter_label (Boot boot) seq = spelt (codes "boot " ∷ decimal boot ∷ [])
filter_label Timeout seq = spelt (codes "timeout " ∷ seq ∷ [])
filter_label (ServiceLost port) seq = spelt (codes "service is lost" ∷ port_end port ∷ [])

unfoldable pub filter_pill : List ℕ → ℕ → List ℕ
filter_pill words y = pill_text (left_of (spot 712 y) (wide words / 2)) words

abbrev pub filter_text : Option FilterMark → List ℕ → ℕ → List ℕ
filter_text None command y = []
filter_text (Some mark) command y = filter_pill (filter_label mark (word_at 1 command)) y

-- how far left of the filter a note stands clear: of the bars, and of what befalls the filter
abbrev pub clear_of : Option FilterMark → List ℕ → ℕ
clear_of None command = 50
clear_of (Some mark) command = max 50 (within (wide (filter_label mark (word_at 1 command)) + 20))

-- the note of the filter
unfoldable pub filter_note : WorldState → EventNote → Spot → List ℕ
filter_note w note at = words_text (below at 4) (codes " class=\"tw halo\" text-anchor=\"end\"") (word_at 1 (told_note w note))

abbrev pub note_left : WorldState → EventNote → Spot → List ℕ
note_left w (Filter note) at = filter_note w (Filter note) at
note_left w (Service note) at = []

unfoldable pub noted_left : WorldState → Step → List ℕ → ℕ → List ℕ
noted_left w s command y =
    if is_noted s.note then note_left w (note_of s.note) (left_of (spot 712 y) (clear_of s.filter command)) else []

-- what a step did on the left
unfoldable pub left_text : Picture → ℕ → Step → List ℕ
left_text p number s =
    let command = spanned s.command p.text.now in
    let y = height_at p.places.now number 0 in
    spelt
    (
    volume_text s.volume command y ∷ asks_text s.asks command y
    ∷ answers_text p.places.now number (asked_lines s) (spanned s.answers p.world.now.answers)
    ∷ filter_text s.filter command y ∷ noted_left p.world.now s command y ∷ []
    )

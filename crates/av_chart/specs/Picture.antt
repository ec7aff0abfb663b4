-- The whole picture.
use Rattle.std.specs.Prelude.{ℕ, ◌+◌, ◌-◌, ◌%◌, ◌==◌, List, [], ◌∷◌, Option, None, Some, is_none, slice_get, length, codes, decimal, if◌then◌else◌}
use Rattle.av_base.specs.Part.{spelt}
use Rattle.av_output.specs.Text.Messages.{placed}
use Rattle.av_history.specs.Refusals.{judge_word_of, word_of}
use Rattle.av_chart.specs.Bars.{all_bars_text, behind}
use Rattle.av_chart.specs.Escape.{printed, short}
use Rattle.av_chart.specs.Lanes.{band_at, lanes_text, names_text}
use Rattle.av_chart.specs.Left.{left_text}
use Rattle.av_chart.specs.Legend.{legend_text}
use Rattle.av_chart.specs.Mark.{block_text, titled_text, until_text, words_text}
use Rattle.av_chart.specs.Messages.{messages_text}
use Rattle.av_chart.specs.Number.{capped}
use Rattle.av_chart.specs.Place.{top_of}
use Rattle.av_chart.specs.Right.{right_text}
use Rattle.av_chart.specs.Row.{height_of, spanned}
use Rattle.av_chart.specs.Spot.{spot, within}
use Rattle.av_chart.specs.declared.happened.Counts.{Counts}
use Rattle.av_chart.specs.declared.happened.Happened.{Happened}
use Rattle.av_chart.specs.declared.happened.Refused.{Refused}
use Rattle.av_chart.specs.declared.happened.Refused.TheVariants as refused
use Rattle.av_chart.specs.declared.happened.Sent.{Sent}
use Rattle.av_chart.specs.declared.happened.Step.{Step}
use Rattle.av_chart.specs.declared.life.Bar.{Bar}
use Rattle.av_chart.specs.declared.picture.Picture.{Picture}
use Rattle.av_chart.specs.declared.picture.style.TheConstants.{STYLE}

-- the steps that are shown
abbrev pub steps_of : Picture → List Step
steps_of p = spanned (record { from = p.first; to = behind p }) p.happened.now.steps.items

-- the number of the step at k of these
abbrev pub step_number : Picture → ℕ → ℕ
step_number p k = capped (p.first + k)

-- how many there are of what a word names
unfoldable pub count_text : ℕ → List ℕ → List ℕ → List ℕ
count_text n word behind = spelt (decimal n ∷ word ∷ (if n == 1 then [] else codes "s") ∷ behind ∷ [])

-- how many of these opens wait
abbrev pub waiting : List Bar → ℕ
waiting [] = 0
waiting (b ∷ bs) = if is_none b.end then 1 + waiting bs else waiting bs

-- how many messages never arrived
abbrev pub lost_of : List Sent → ℕ
lost_of [] = 0
lost_of (s ∷ ss) = if length s.arrivals.items == 0 then 1 + lost_of ss else lost_of ss

-- how many arrivals were not the first of their message
abbrev pub again_of : List Sent → ℕ
again_of [] = 0
again_of (s ∷ ss) = (length s.arrivals.items - 1) + again_of ss

-- how many opens were told what, and how many wait
unfoldable pub answered_told : Counts → ℕ → List ℕ
answered_told c waits =
    spelt
    (
    decimal c.granted ∷ codes " granted, " ∷ decimal c.unscanned ∷ codes " let through unscanned, " ∷ decimal c.denied
    ∷ codes " denied, " ∷ decimal waits ∷ codes " waiting; " ∷ []
    )

-- what is told of opens
unfoldable pub opens_told : Happened → List ℕ
opens_told h =
    let waits = waiting h.opens in
    let answered = capped (capped (h.counts.granted + h.counts.unscanned) + h.counts.denied) in
    spelt (count_text (capped (answered + waits)) (codes " open") (codes ": ") ∷ answered_told h.counts waits ∷ [])

-- how many messages never arrived, and how often one came again
unfoldable pub delivered_told : ℕ → ℕ → List ℕ
delivered_told lost again = spelt (decimal lost ∷ codes " never delivered, " ∷ decimal again ∷ codes " delivered again." ∷ [])

-- what is told of messages
unfoldable pub messages_told : Happened → List ℕ
messages_told h =
    spelt
    (
    count_text (capped (length h.down.items + length h.up.items)) (codes " message") (codes ": ")
    ∷ delivered_told (capped (lost_of h.down.items + lost_of h.up.items))
    (capped (capped (again_of h.down.items) + capped (again_of h.up.items)))
    ∷ []
    )

-- which lines are shown, from the first step to the last
abbrev pub lines_told : Option Step → Option Step → List ℕ
lines_told None last = []
lines_told (Some first) None = []
lines_told (Some first) (Some last) =
    spelt (codes " Shown: lines " ∷ decimal first.line ∷ codes " to " ∷ decimal last.line ∷ codes "." ∷ [])

-- where these are not all
unfoldable pub shown_told : Picture → List ℕ
shown_told p =
    let shown = steps_of p in
    if length shown == length p.happened.now.steps.items then []
    else lines_told (slice_get shown 0) (slice_get shown (length shown - 1))

-- what is told of the whole run, in words
unfoldable pub run_told : Picture → List ℕ
run_told p =
    let h = p.happened.now in
    spelt
    (count_text (length h.steps.items) (codes " step") (codes "; ") ∷ opens_told h ∷ messages_told h ∷ shown_told p ∷ [])

-- the beginning, up to the title
unfoldable pub size_text : ℕ → List ℕ
size_text height =
    spelt
    (
    codes "<svg xmlns=\"http://www.w3.org/2000/svg\" viewBox=\"0 0 1290 " ∷ decimal height
    ∷ codes "\" width=\"1290\" height=\"" ∷ decimal height
    ∷ codes "\" role=\"img\" aria-labelledby=\"title told\">\n<title id=\"title\">" ∷ []
    )

-- the title, and what is told, up to the style
unfoldable pub title_part : List ℕ → List ℕ
title_part title = until_text title (codes "</title>\n<desc id=\"told\">")

unfoldable pub told_part : List ℕ → List ℕ
told_part told = until_text told (codes "</desc>\n<style>\n")

unfoldable pub told_text : List ℕ → List ℕ → List ℕ
told_text title told = spelt (title_part title ∷ told_part told ∷ [])

-- the background, behind the style
unfoldable pub ground_text : ℕ → List ℕ
ground_text height =
    spelt (codes "</style>\n<rect class=\"bg\" width=\"1290\" height=\"" ∷ decimal height ∷ codes "\"/>\n" ∷ [])

-- the rules of the style
unfoldable pub style_text : List ℕ
style_text = STYLE.now

-- the beginning, with the words for who can't see the picture, and its style
unfoldable pub opening_text : ℕ → List ℕ → List ℕ → List ℕ
opening_text height title told = spelt (size_text height ∷ told_text title told ∷ style_text ∷ ground_text height ∷ [])

-- the stripe under a row
unfoldable pub stripe_text : Picture → ℕ → Step → List ℕ
stripe_text p number s = block_text (codes "stripe") (spot 0 (top_of p.places.now number - 4)) 1290 (within (height_of s + 9)) []

-- there is one under every other row
abbrev pub stripe_at : Picture → ℕ → Step → List ℕ
stripe_at p k s = if k % 2 == 1 then stripe_text p (step_number p k) s else []

unfoldable pub stripes_text : Picture → List ℕ
stripes_text p = placed (stripe_at p) 0 (steps_of p)

-- the names of the lanes, before each fortieth row
abbrev pub band_over : Picture → ℕ → Step → List ℕ
band_over p k s = band_at p.places.now (step_number p k) k

unfoldable pub bands_text : Picture → List ℕ
bands_text p = placed (band_over p) 0 (steps_of p)

-- why a command is refused
abbrev pub refusal_word : Refused → List ℕ
refusal_word (refused.Step fault) = word_of fault
refusal_word (refused.Judge fault) = judge_word_of fault

unfoldable pub refusal_text : Refused → ℕ → List ℕ
refusal_text why y =
    words_text (spot 270 y) (codes " class=\"r halo\"") (spelt (codes "refused " ∷ refusal_word why ∷ []))

abbrev pub refused_text : Option Refused → ℕ → List ℕ
refused_text None y = []
refused_text (Some why) y = refusal_text why y

-- a command is grey where it is refused
abbrev pub command_look : Option Refused → List ℕ
command_look None = []
command_look (Some why) = codes " class=\"n\""

-- the number of a line
unfoldable pub number_text : ℕ → ℕ → List ℕ
number_text line y = words_text (spot 44 y) (codes " class=\"n\" text-anchor=\"end\"") (spelt (decimal line ∷ []))

-- the text of a command
unfoldable pub typed_text : Option Refused → List ℕ → ℕ → List ℕ
typed_text why command y = titled_text (spot 52 y) (command_look why) command (short 27 (printed command))

-- the number and the text of a command's line, and why it is refused
unfoldable pub command_text : Step → List ℕ → ℕ → List ℕ
command_text s command y = spelt (number_text s.line y ∷ typed_text s.refused command y ∷ refused_text s.refused y ∷ [])

-- a command and what it did
unfoldable pub step_text : Picture → ℕ → Step → List ℕ
step_text p number s =
    spelt
    (
    command_text s (spanned s.command p.text.now) (within (top_of p.places.now number + 16))
    ∷ left_text p number s ∷ right_text p number s ∷ []
    )

-- the commands and what each did
abbrev pub step_at : Picture → ℕ → Step → List ℕ
step_at p k s = step_text p (step_number p k) s

unfoldable pub steps_text : Picture → List ℕ
steps_text p = placed (step_at p) 0 (steps_of p)

-- the words above the picture
unfoldable pub caption_text : List ℕ → List ℕ → List ℕ
caption_text title told =
    spelt (words_text (spot 14 24) (codes " class=\"t\"") title ∷ words_text (spot 14 42) (codes " class=\"n\"") told ∷ [])

-- what stands before the lives: the beginning, the stripes, the words above, and the lanes
unfoldable pub under_text : Picture → List ℕ → List ℕ → List ℕ
under_text p title told =
    spelt
    (
    opening_text (within (p.places.now.bottom + 62)) title told ∷ stripes_text p ∷ caption_text title told
    ∷ lanes_text p.places.now.bottom ∷ names_text 72 ∷ []
    )

-- the lives, the messages and the steps
unfoldable pub happened_text : Picture → List ℕ
happened_text p = spelt (all_bars_text p ∷ messages_text p ∷ steps_text p ∷ [])

-- what stands behind them: the names again, the legend, and the end
unfoldable pub over_text : Picture → List ℕ
over_text p =
    spelt
    (
    bands_text p ∷ names_text (within (p.places.now.bottom + 16)) ∷ legend_text (within (p.places.now.bottom + 42))
    ∷ codes "</svg>\n" ∷ []
    )

-- a picture with its title
unfoldable pub picture_text : Picture → List ℕ → List ℕ
picture_text p title = spelt (under_text p title (run_told p) ∷ happened_text p ∷ over_text p ∷ [])

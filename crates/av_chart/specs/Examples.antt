-- Worked examples: lines of pictures, and what happened in some steps, computed by the definitions.
use Rattle.std.specs.Prelude.{ℕ, ◌≡◌, List, [], ◌∷◌, None, Some, codes}
use Rattle.av_base.specs.declared.port.Port.TheVariants.{One, Two}
use Rattle.av_frame.specs.Message.{via}
use Rattle.av_frame.specs.declared.message.Body.TheVariants.{Scan, Abort}
use Rattle.av_chart.specs.Arrow.{near_text}
use Rattle.av_chart.specs.Bars.{how_text}
use Rattle.av_chart.specs.Escape.{escaped, printed, short}
use Rattle.av_chart.specs.Lanes.{lane_text, name_text}
use Rattle.av_chart.specs.Life.{Life, begins, ends, ends_at}
use Rattle.av_chart.specs.Mark.{bar_text, block_text}
use Rattle.av_chart.specs.Picture.{answered_told, count_text, number_text, typed_text}
use Rattle.av_chart.specs.Place.{bottom_of, top_at}
use Rattle.av_chart.specs.Slot.{free_places, slots}
use Rattle.av_chart.specs.Spot.{spot}
use Rattle.av_chart.specs.Story.{Post, arrived, asked_by, life, moment, number_id, posted}
use Rattle.av_chart.specs.Words.{message_label, word_at}
use Rattle.av_output.specs.declared.message.Direction.TheVariants.{Down}
use Rattle.av_chart.specs.declared.life.End.{End}
use Rattle.av_chart.specs.declared.life.How.TheVariants.{Aborted, Denied}
use Rattle.av_chart.specs.declared.picture.messages.Manner.TheVariants.{Plain, Spent}

-- lines of the picture of a late reply
pub record AreLines : Type 0 where
  pub stripe : block_text (codes "stripe") (spot 0 114) 1290 28 [] ≡ codes "<rect class=\"stripe\" x=\"0\" y=\"114\" width=\"1290\" height=\"28\"/>\n"
  pub a_lane : lane_text (codes "l") 332 685 ≡ codes "<path class=\"l\" d=\"M332 78 L332 685\"/>\n"
  pub name : name_text (codes "volume") 332 72 ≡ codes "<text x=\"332\" y=\"72\" class=\"h halo\" text-anchor=\"middle\">volume</text>\n"
  pub number : number_text 2 106 ≡ codes "<text x=\"44\" y=\"106\" class=\"n\" text-anchor=\"end\">2</text>\n"
  pub command : typed_text None (codes "create letter") 162 ≡ codes "<text x=\"52\" y=\"162\"><title>create letter</title>create letter</text>\n"
  pub life : bar_text (codes "bo") (spot 442 270) 399 (codes "open 1 of letter, denied")
      ≡ codes "<rect class=\"bo\" x=\"442\" y=\"270\" width=\"6\" height=\"399\" rx=\"2\"><title>open 1 of letter, denied</title></rect>\n"
  pub arrow : near_text Down Plain (spot 712 270) (spot 1030 298)
      ≡ codes "<path class=\"d\" d=\"M712 270 L736 270 L1012 298 L1030 298\"/>\n<path class=\"hd\" d=\"M1030 298 L1022 294 L1022 302 Z\"/>\n"
  pub late : near_text Down Spent (spot 712 404) (spot 1030 507)
      ≡ codes "<path class=\"d spent\" d=\"M712 404 L736 404 L1012 507 L1030 507\"/>\n<path class=\"hd\" d=\"M1030 507 L1022 503 L1022 511 Z\"/>\n"
  pub steps : count_text 19 (codes " step") (codes "; ") ≡ codes "19 steps; "
  pub opens : count_text 1 (codes " open") (codes ": ") ≡ codes "1 open: "
  pub answers : answered_told (record { granted = 0; unscanned = 0; denied = 1 }) 0
      ≡ codes "0 granted, 0 let through unscanned, 1 denied, 0 waiting; "
  pub denied : how_text Denied ≡ codes ", denied"

-- bytes and words
pub record AreWords : Type 0 where
  pub signs : escaped (codes "a<b>&\"") ≡ codes "a&lt;b&gt;&amp;&quot;"
  pub bytes : printed (97 ∷ 255 ∷ 10 ∷ []) ≡ codes "a\\xff\\x0a"
  pub cut : short 9 (codes "ninebytes.") ≡ codes "ninebyt.."
  pub whole : short 9 (codes "ninebytes") ≡ codes "ninebytes"
  pub word : word_at 1 (codes "write letter 0 48") ≡ codes "letter"
  pub none : word_at 4 (codes "write letter 0 48") ≡ []
  pub scan : message_label Down 1 (via One (Scan (record { boot = 1; seq = 1 }) 1 2 5)) ≡ codes "down 1 scan 1.1 g2"
  pub abort : message_label Down 3 (via One (Abort (record { boot = 1; seq = 1 }))) ≡ codes "down 3 abort 1.1"
  pub spare : message_label Down 2 (via Two (Scan (record { boot = 1; seq = 2 }) 1 2 5)) ≡ codes "down 2 scan 1.2 g2 port 2"

-- rows of the heights 19, 38 and 19
pub record AreRows : Type 0 where
  pub first : top_at (19 ∷ 38 ∷ 19 ∷ []) 0 ≡ 90
  pub second : top_at (19 ∷ 38 ∷ 19 ∷ []) 1 ≡ 118
  pub third : top_at (19 ∷ 38 ∷ 19 ∷ []) 2 ≡ 165
  pub bottom : bottom_of (19 ∷ 38 ∷ 19 ∷ []) ≡ 193

-- two messages that step 4 sent, the second of which arrives in steps 6 and 9
abbrev pub two_posts : List Post
two_posts = arrived 9 2 (arrived 6 2 (posted 4 0 2))

abbrev pub question : ℕ → Life
question n = life One (record { boot = 1; seq = n }) (codes "letter") 2 (moment 4 n)

-- the same at the other port
abbrev pub on_spare : ℕ → Life
on_spare n = record (question n) { port = Two }

abbrev pub aborted : End
aborted = record { at = moment 7 1; how = Aborted }

-- the three lives of opens from steps 1, 2 and 5 on, the first of which ended in step 4
abbrev pub three_opens : List Life
three_opens =
    ends One (number_id 1) (record { at = moment 4 0; how = Denied })
    (
    life One (number_id 1) [] 0 (moment 1 0) ∷ life One (number_id 2) [] 0 (moment 2 0)
    ∷ life One (number_id 3) [] 0 (moment 5 0) ∷ []
    )

-- what happens
pub record AreDeeds : Type 0 where
  pub posts : two_posts
      ≡ record { sent = moment 4 0; arrivals = [] } ∷ record { sent = moment 4 1; arrivals = 6 ∷ 9 ∷ [] } ∷ []
  pub nowhere : arrived 6 3 (posted 4 0 2) ≡ posted 4 0 2
  pub begun : begins (question 2) (question 1 ∷ []) ≡ question 1 ∷ question 2 ∷ []
  pub once : begins (question 1) (question 1 ∷ []) ≡ question 1 ∷ []
  pub by_scan : asked_by (codes "letter" ∷ []) 4 1 One (Scan (record { boot = 1; seq = 1 }) 1 2 5) [] ≡ question 1 ∷ []
  pub by_abort : asked_by [] 7 1 One (Abort (record { boot = 1; seq = 1 })) (question 1 ∷ question 2 ∷ [])
      ≡ record (question 1) { «end» = Some aborted } ∷ question 2 ∷ []
  pub apart : asked_by [] 7 1 Two (Abort (record { boot = 1; seq = 1 })) (question 1 ∷ []) ≡ question 1 ∷ []
  pub lost : ends_at One aborted (question 1 ∷ on_spare 2 ∷ []) ≡ record (question 1) { «end» = Some aborted } ∷ on_spare 2 ∷ []
  pub places : slots (moment 9 0) free_places three_opens ≡ 0 ∷ 1 ∷ 0 ∷ []

pub record WorkedExamples : Type 0 where
  pub lines : AreLines
  pub words : AreWords
  pub rows : AreRows
  pub deeds : AreDeeds

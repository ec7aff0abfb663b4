use Rattle.std.proofs.Common.{refl}
use Rattle.std.specs.Fmt.{digits}
use Rattle.hex.specs.Hex.{encode_with}
use Rattle.av_chart.specs.Arrow.{near_text}
use Rattle.av_chart.specs.Bars.{how_text}
use Rattle.av_chart.specs.Examples.{AreDeeds, AreLines, AreRows, AreWords}
use Rattle.av_chart.specs.Lanes.{lane_text, name_text}
use Rattle.av_chart.specs.Mark.{bar_size_text, bar_text, bent_text, block_text, corner_text, head_text, line_text, next_spot_text, path_text, place_text, size_text, spot_text, title_text, titled_text, words_text}
use Rattle.av_chart.specs.Picture.{answered_told, count_text, number_text, typed_text}
use Rattle.av_chart.specs.Words.{about_text, body_text, message_label, number_text as number_word, numbered_text}
use Rattle.av_chart.proofs.laws.worked_examples.Goals as goal

lines : AreLines
unfolding digits near_text how_text lane_text name_text bar_size_text bar_text bent_text block_text corner_text head_text line_text next_spot_text path_text place_text size_text spot_text title_text titled_text words_text answered_told count_text number_text typed_text
lines =
    record {
      stripe = refl;
      a_lane = refl;
      name = refl;
      number = refl;
      command = refl;
      life = refl;
      arrow = refl;
      late = refl;
      steps = refl;
      opens = refl;
      answers = refl;
      denied = refl;
    }

words : AreWords
unfolding digits encode_with about_text body_text message_label number_word numbered_text
words = record { signs = refl; bytes = refl; cut = refl; whole = refl; word = refl; none = refl; scan = refl; abort = refl; spare = refl }

rows : AreRows
rows = record { first = refl; second = refl; third = refl; bottom = refl }

deeds : AreDeeds
deeds = record { posts = refl; nowhere = refl; begun = refl; once = refl; by_scan = refl; by_abort = refl; apart = refl; lost = refl; places = refl }

pub returns : goal.returns
returns c = record { lines = lines; words = words; rows = rows; deeds = deeds }

-- What is known of a question that runs.
use Rattle.std.specs.Prelude.{◌≡◌, Some}
use Rattle.av_filter_table.specs.Table.{Table, question_at}
use Rattle.av_filter_table.specs.declared.question.Question.{Question}
use Rattle.av_frame.specs.Message.{IsId}

-- a question runs in this boot, under an id that a message can name
pub record IsRunning (t : Table) (q : Question) : Type 0 where
  pub found : question_at q.id t.questions ≡ Some q
  pub boot : q.id.boot ≡ t.boot
  pub id : IsId q.id

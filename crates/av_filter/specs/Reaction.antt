-- What an event of the filter leaves and gives out.
use Rattle.std.specs.Prelude.{List, [], ◌∷◌}
use Rattle.av_filter.specs.declared.note.Note.{Note}
use Rattle.av_filter.specs.declared.note.Note.TheVariants.{Quiet}
use Rattle.av_filter_table.specs.Table.{Table}
use Rattle.av_frame.specs.Message.{Letter}
use Rattle.av_pend.specs.declared.answer.Answer.{Answer}
use Rattle.av_store.specs.Store.{Store}

-- the next table and volume, the answers, the messages in the order sent, and a note
pub record Reaction : Type 0 where
  pub table : Table
  pub volume : Store
  pub answers : List Answer
  pub messages : List Letter
  pub note : Note

-- nothing but a note, and one message
abbrev pub only : Table → Store → Note → Reaction
only t v note = record { table = t; volume = v; answers = []; messages = []; note = note }

-- one message, and nothing else changes
abbrev pub sends : Table → Store → Letter → Reaction
sends t v m = record { table = t; volume = v; answers = []; messages = m ∷ []; note = Quiet }

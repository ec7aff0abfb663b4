-- An open that has come in, as the code has it.
use Rattle.std.specs.Prelude.{◌≡◌, ℕ, ◌+◌, ◌∷◌, [], max, Some}
use Rattle.av_filter.specs.declared.note.Note.TheVariants.{Submitted}
use Rattle.av_filter.specs.declared.opening.Arrival.{Arrival}
use Rattle.av_filter.specs.declared.out.Out.{Out}
use Rattle.av_filter_table.specs.Table.{Table, raised}
use Rattle.av_pend.specs.declared.answer.Answer.{Answer}
use Rattle.av_store.specs.Rows.{stream_at}
use Rattle.av_store.specs.Store.{Store}
use Rattle.av_store.specs.declared.stream.Stream.{Stream}

-- its stream is there at this generation, its number is the next of the volume, and the floor that it finds is not below its
-- least
pub record IsArrival (a : Arrival) (t : Table) (v : Store) : Type 0 where
  pub present : Stream
  pub there : stream_at a.stream v.streams ≡ Some present
  pub generation : a.generation ≡ present.generation
  pub open_id : a.open_id ≡ v.opens + 1
  pub floor : a.floor ≡ max t.floor a.least

-- it was answered at once, and nothing but the floor has changed
pub record IsAnswered (out : Out) (old new : Table) (open_id least : ℕ) (a : Answer) : Type 0 where
  pub answers : out.answers.items ≡ a ∷ []
  pub messages : out.messages.items ≡ []
  pub note : out.note ≡ Submitted open_id
  pub table : new ≡ raised least old

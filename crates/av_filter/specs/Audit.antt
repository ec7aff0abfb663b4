-- A filter's audit: its events in order, each with the reply.
use Rattle.std.specs.Prelude.{◌≡◌, ℕ, ◌+◌, List, [], ◌∷◌, ◌++◌, None}
use Rattle.av_filter.specs.Conduct.{FilterEvent, Opens, filter_refusal, filter_step}
use Rattle.av_filter.specs.Mount.{Mount}
use Rattle.av_filter.specs.Reaction.{Reaction}
use Rattle.av_filter_table.specs.Table.{Table}
use Rattle.av_filter.specs.declared.note.Note.{Note}
use Rattle.av_frame.specs.Message.{Letter}
use Rattle.av_pend.specs.declared.answer.Answer.{Answer}
use Rattle.av_store.specs.Store.{Store}

-- an event of the filter, with what it gave out
pub record FilterEntry : Type 0 where
  pub event : FilterEvent
  pub answers : List Answer
  pub messages : List Letter
  pub note : Note

-- an entry has what the reaction gives out
pub record IsReply (x : FilterEntry) (r : Reaction) : Type 0 where
  pub answers : x.answers ≡ r.answers
  pub messages : x.messages ≡ r.messages
  pub note : x.note ≡ r.note

-- no event is refused, and each reply is the conduct's at that place
abbrev pub IsFilterAudit : Table → Store → List FilterEntry → Type 0
IsFilterAudit t v [] = Unit {0}
IsFilterAudit t v (x ∷ xs) =
    (filter_refusal t v x.event ≡ None) × IsReply x (filter_step t v x.event)
    × IsFilterAudit (filter_step t v x.event).table (filter_step t v x.event).volume xs

-- where the entries lead table and volume
abbrev pub filter_end : Table → Store → List FilterEntry → Mount
filter_end t v [] = record { table = t; volume = v }
filter_end t v (x ∷ xs) = filter_end (filter_step t v x.event).table (filter_step t v x.event).volume xs

-- what it sent, after what had been sent before; what it answered; and how many opens it took
abbrev pub sent_down : List Letter → List FilterEntry → List Letter
sent_down down [] = down
sent_down down (x ∷ xs) = sent_down (down ++ x.messages) xs

-- all answers of the entries, in order
abbrev pub answers_given : List FilterEntry → List Answer
answers_given [] = []
answers_given (x ∷ xs) = x.answers ++ answers_given xs

-- how many open numbers an event takes
abbrev pub opens_of_event : FilterEvent → ℕ
opens_of_event (Opens s least) = 1
opens_of_event _ = 0

-- how many open numbers the entries took
abbrev pub opens_taken : List FilterEntry → ℕ
opens_taken [] = 0
opens_taken (x ∷ xs) = opens_of_event x.event + opens_taken xs

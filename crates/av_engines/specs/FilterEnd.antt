-- How the engine of a filter ends.
use Rattle.std.specs.Prelude.{ℕ, ◌≡◌, ◌≤◌, Bool, true, false, List, [], ◌∷◌, ◌++◌, ◌⊎◌, length, Option, IfSome}
use Rattle.std.specs.Io.KnownBytes.{prepend_known}
use Rattle.std.specs.List.{flat_map}
use Rattle.av_frame.specs.declared.end.End.{End}
use Rattle.av_frame.specs.declared.end.End.TheVariants.{Done, WriteFault, Memory, AuditFull}
use Rattle.av_engines.specs.Incoming.{Received, Takes, budget, unread}
use Rattle.av_engines.specs.Spelled.{AreSpelled, CameIn, IsSent, SpellsFirst}
use Rattle.av_engines.specs.Watching.{Led, Standing, all_happened, due, events_of, filter_run, filter_text, happened, is_done, run_from, text_from, unled}
use Rattle.av_base.specs.declared.port.Port.TheVariants.{One}
use Rattle.av_filter.specs.Conduct.{FilterEvent, Disconnects}
use Rattle.av_filter_table.specs.Table.{Table}
use Rattle.av_frame.specs.Message.{Letter}
use Rattle.av_frame.specs.Spelling.{frame}
use Rattle.av_pend.specs.declared.answer.Answer.{Answer}
use Rattle.av_store.specs.Store.{Store}

-- a filter, its volume and the answers so far are where events led
pub record IsAt (w : Led) (t : Table) (v : Store) (answers : List Answer) : Type 0 where
  pub table : t ≡ w.table
  pub volume : v ≡ w.volume
  pub answered : answers ≡ w.answers

-- they are where the first of these events led
pub record IsAmid (w : Led) (all : List FilterEvent) (t : Table) (v : Store) (answers : List Answer) : Type 0 where
  pub events : List FilterEvent
  pub rest : List FilterEvent
  pub first : events ++ rest ≡ all
  pub at : IsAt (all_happened w events) t v answers

-- What a want of memory leaves behind messages of the input: what they led to; where opens are left to be answered, what
-- the first of the events led to that the input's next message brings; or, before any message, what the first opens led to
-- of a filter that was connected, where they are submitted at once.
pub data IsWithin (at_once : Bool) (opens : List ℕ) (from : Led) (input : Option (List ℕ)) (messages : List Letter) (s : Standing)
    (t : Table) (v : Store) (answers : List Answer) : Type 0 where
  begun : at_once ≡ true → messages ≡ [] → IsAmid from (due opens false from.table) t v answers
      → IsWithin at_once opens from input messages s t v answers
  between : IsAt s.led t v answers → IsWithin at_once opens from input messages s t v answers
  amid : (next : Letter) → IfSome input (SpellsFirst (messages ++ next ∷ [])) → is_done from.volume.opens (length opens) s ≡ false
      → IsAmid s.led (events_of opens s next) t v answers → IsWithin at_once opens from input messages s t v answers

-- Where the run of the messages is left: as it is, where all opens are answered; disconnected, where the input ended or
-- failed and they are not, or where a write failed; and where memory was refused, as `within` says.
abbrev pub IsLeft : End → Type 0 → Bool → Led → Table → Store → List Answer → Type 0
IsLeft Done within done w t v answers = (done ≡ true) × IsAt w t v answers
IsLeft Memory within done w t v answers = within
IsLeft WriteFault within done w t v answers = IsAt (happened w (Disconnects One)) t v answers
IsLeft _ within done w t v answers = (done ≡ false) × IsAt (happened w (Disconnects One)) t v answers

-- some messages of the input, which came in so many reads at most, were handled, and the filter sent its text of them and
-- answered as its conduct does
pub record WatchesTo (opens : List ℕ) (t : Table) (v : Store) (t' : Table) (v' : Store) (answers : List Answer)
    (input held holds : Option (List ℕ)) (turns : ℕ) (end : End) : Type 0 where
  pub messages : List Letter
  pub spelled : AreSpelled end input messages
  pub few : CameIn turns messages
  pub sent : IsSent end held holds (filter_text t v opens messages)
  pub left : IsLeft end (IsWithin false opens (unled t v []) input messages (filter_run t v opens messages) t' v' answers)
      (is_done v.opens (length opens) (filter_run t v opens messages)) (filter_run t v opens messages).led t' v' answers

-- what came of a stream before, and what is still to come, where that is known
abbrev pub input_of : Received → Option (List ℕ) → Option (List ℕ)
input_of from had = prepend_known (unread from) had

-- of a stream that goes on the messages alone were taken, where the engine was done
abbrev pub GoesOn : End → Type 0 → Type 0
GoesOn Done taken = taken
GoesOn _ taken = Unit {0}

-- The same over a stream that may go on: its opens wait for a message, or are submitted at once.
pub record WatchesOver (at_once : Bool) (opens : List ℕ) (t : Table) (v : Store) (t' : Table) (v' : Store) (answers : List Answer)
    (from now : Received) (had has held holds : Option (List ℕ)) (end : End) : Type 0 where
  pub messages : List Letter
  pub spelled : AreSpelled end (input_of from had) messages
  pub few : length (flat_map frame messages) ≤ budget from
  pub taken : GoesOn end (Takes from now had has messages)
  pub sent : IsSent end held holds (text_from at_once t v opens messages)
  pub left : IsLeft end
      (IsWithin at_once opens (unled t v []) (input_of from had) messages (run_from at_once t v opens messages) t' v' answers)
      (is_done v.opens (length opens) (run_from at_once t v opens messages)) (run_from at_once t v opens messages).led t' v' answers

-- the same before the filter is disconnected
abbrev pub IsStill : End → Type 0 → Bool → Led → Table → Store → List Answer → Type 0
IsStill Done within done w t v answers = (done ≡ true) × IsAt w t v answers
IsStill Memory within done w t v answers = within
IsStill WriteFault within done w t v answers = IsAt w t v answers
IsStill _ within done w t v answers = (done ≡ false) × IsAt w t v answers

-- the same before the filter is disconnected
pub record RunsOver (at_once : Bool) (opens : List ℕ) (t : Table) (v : Store) (t' : Table) (v' : Store) (answers : List Answer)
    (from now : Received) (had has held holds : Option (List ℕ)) (end : End) : Type 0 where
  pub messages : List Letter
  pub spelled : AreSpelled end (input_of from had) messages
  pub few : length (flat_map frame messages) ≤ budget from
  pub taken : GoesOn end (Takes from now had has messages)
  pub sent : IsSent end held holds (text_from at_once t v opens messages)
  pub left : IsStill end
      (IsWithin at_once opens (unled t v []) (input_of from had) messages (run_from at_once t v opens messages) t' v' answers)
      (is_done v.opens (length opens) (run_from at_once t v opens messages)) (run_from at_once t v opens messages).led t' v' answers

-- events led from a table, a volume and answers to others, and their frames wait to go out behind those that did
pub record Puts (w : Led) (t : Table) (v : Store) (answers : List Answer) (waited waits : List ℕ) : Type 0 where
  pub at : IsAt w t v answers
  pub sent : waits ≡ waited ++ flat_map frame w.sent

-- the same of a message, behind which the opens were submitted or were not
pub record Hears (s : Standing) (t : Table) (v : Store) (answers : List Answer) (submitted : Bool)
    (waited waits : List ℕ) : Type 0 where
  pub puts : Puts s.led t v answers waited waits
  pub submitted_is : submitted ≡ s.submitted

-- An engine that would end so ends as it says, and its filter is disconnected before, where it had to be; where memory was
-- refused to that, nothing has changed, and the end is Memory.
abbrev pub Leaves : End → End → Table → Store → List Answer → Table → List Answer → Type 0
Leaves Done end t v answers t' answers' = (end ≡ Done) × (t' ≡ t) × (answers' ≡ answers)
Leaves Memory end t v answers t' answers' = (end ≡ Memory) × (t' ≡ t) × (answers' ≡ answers)
Leaves AuditFull end t v answers t' answers' = (end ≡ AuditFull) × (t' ≡ t) × (answers' ≡ answers)
Leaves would end t v answers t' answers' =
    ((end ≡ would) × IsAt (happened (unled t v answers) (Disconnects One)) t' v answers')
    ⊎ ((end ≡ Memory) × (t' ≡ t) × (answers' ≡ answers))

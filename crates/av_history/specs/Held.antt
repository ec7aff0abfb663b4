-- What stands in a world: the verdicts that are held, and the opens that were submitted, wait, or were answered.
use Rattle.std.specs.Prelude.{ℕ, suc, ◌+◌, nat_le, List, [], ◌∷◌, ◌++◌, length, map, flat_map, Option, Some, None, if◌then◌else◌}
use Rattle.std.specs.Option.{option_or}
use Rattle.av_base.specs.MessageId.{same_id}
use Rattle.av_base.specs.declared.message_id.MessageId.{MessageId}
use Rattle.av_base.specs.declared.port.Port.{Port}
use Rattle.av_base.specs.declared.verdict.Verdict.{Verdict}
use Rattle.av_cache.specs.declared.entry.Entry.{Entry}
use Rattle.av_context.specs.declared.context_state.ContextState.{ContextState}
use Rattle.av_filter_table.specs.Table.{Table, context_of}
use Rattle.av_frame.specs.Message.{Letter}
use Rattle.av_frame.specs.declared.message.Body.TheVariants.{Scan, Reply}
use Rattle.av_frame.specs.declared.message.Body.{Body}
use Rattle.av_frame.specs.declared.outcome.Outcome.TheVariants.{Judged}
use Rattle.av_pend.specs.Pend.{open_of}
use Rattle.av_service.specs.Desk.{Desk}
use Rattle.av_store.specs.Rows.{Streams}
use Rattle.av_history.specs.declared.event.Event.{Event}
use Rattle.av_history.specs.declared.event.Event.TheVariants.{Open}
use Rattle.av_history.specs.World.{WorldState}
use Rattle.av_context.specs.declared.context_state.ContextState.TheVariants as context

-- where and about what the scan of an id was asked
pub record Asked : Type 0 where
  pub port : Port
  pub stream : ℕ
  pub generation : ℕ
  pub length : ℕ

-- what these fields ask about at a port, where they ask under this id
abbrev pub asked_at : MessageId → Port → Body → Option Asked
asked_at id port (Scan i s g l) =
    if same_id i id then Some (record { port = port; stream = s; generation = g; length = l }) else None
asked_at id port _ = None

-- what a message asks about, where it asks under this id
abbrev pub asked_by : MessageId → Letter → Option Asked
asked_by id m = asked_at id m.port m.body

-- what a question asked about: what the first Scan of its id names
unfoldable pub asked : List Letter → MessageId → Option Asked
asked [] id = None
asked (m ∷ ms) id = option_or (asked_by id m) (asked ms id)

-- ---- verdicts: in the contexts, the three caches, and the replies that were sent

-- a verdict of a content under a version
abbrev pub entry : ℕ → ℕ → ℕ → Verdict → Entry
entry s g v r = record { stream = s; generation = g; version = v; verdict = r }

-- what a context of a stream at this generation holds
abbrev pub state_held : ℕ → ℕ → ContextState → List Entry
state_held s g (context.Judged v r) = entry s g v r ∷ []
state_held s g context.Modified = []
state_held s g (context.Scanning id) = []

-- the verdict that a context keeps, if it has one
abbrev pub held_in : ℕ → ℕ → Option ContextState → List Entry
held_in s g None = []
held_in s g (Some c) = state_held s g c

-- what the contexts of the streams that are there hold
unfoldable pub held_contexts : List (ℕ × ContextState) → Streams → List Entry
held_contexts contexts [] = []
held_contexts contexts (x ∷ xs) = held_in x.0 x.1.generation (context_of contexts x.0) ++ held_contexts contexts xs

-- what a reply holds, of what its id was asked about
abbrev pub held_by : Option Asked → ℕ → Verdict → List Entry
held_by None v r = []
held_by (Some a) v r = entry a.stream a.generation v r ∷ []

-- the verdict that these fields of a reply carry, about what its question asked
abbrev pub held_body : List Letter → Body → List Entry
held_body down (Reply id (Judged v r)) = held_by (asked down id) v r
held_body down _ = []

-- the same of a message
abbrev pub held_reply : List Letter → Letter → List Entry
held_reply down m = held_body down m.body

-- every verdict that stands in contexts, caches and replies
abbrev pub held_among : Table → Streams → Desk → Desk → List Letter → List Letter → List Entry
held_among t streams one two down up =
    held_contexts t.contexts streams ++ t.cache ++ one.cache ++ two.cache ++ flat_map (held_reply down) up

-- every verdict that stands in a world
unfoldable pub held : WorldState → List Entry
held w = held_among w.table w.volume.streams w.one w.two w.down w.up

-- ---- opens

-- how many opens were submitted
unfoldable pub submitted : List Event → ℕ
submitted [] = 0
submitted (Open name least ∷ es) = submitted es + 1
submitted (_ ∷ es) = submitted es

-- the numbers of the opens that wait
abbrev pub pended : WorldState → List ℕ
pended w = map (λ p. p.held.open_id) w.table.pended

-- the numbers of the opens that were answered
abbrev pub answered : WorldState → List ℕ
answered w = map (λ a. open_of a.answer) w.answers

-- the history when it had n events
unfoldable pub history_at : ℕ → List Event → List Event
history_at n [] = []
history_at n (e ∷ es) = if nat_le (suc (length es)) n then e ∷ es else history_at n es

-- The conduct by its rows: what an event does is one of these cases, and one that changes something says what was found then.
use Rattle.std.specs.Prelude.{ℕ, ◌≡◌, ◌==◌, ◌&&◌, true, false, nat_le, nat_lt, List, [], ◌∷◌, ◌++◌, length, map, filter, Option, Some, None}
use Rattle.std.specs.List.{list_any}
use Rattle.av_base.specs.declared.cause.Cause.{Cause}
use Rattle.av_base.specs.declared.cause.Cause.TheVariants as cause
use Rattle.av_base.specs.declared.message_id.MessageId.{MessageId}
use Rattle.av_base.specs.declared.port.Port.{Port}
use Rattle.av_base.specs.declared.verdict.Verdict.{Verdict}
use Rattle.av_cache.specs.Cache.{look, in_front}
use Rattle.av_cache.specs.declared.entry.Entry.{Entry}
use Rattle.av_context.specs.Contexts.{set_at}
use Rattle.av_context.specs.declared.context_state.ContextState.{ContextState}
use Rattle.av_context.specs.declared.context_state.ContextState.TheVariants as context
use Rattle.av_filter.specs.Again.{again, ends, scan_message}
use Rattle.av_filter.specs.Changing.{changed_volume}
use Rattle.av_filter.specs.Conduct.{FilterEvent, Opens, Changes, CleansUp, Receives, TimesOut, Disconnects, Restarts, loses_all, moves, restarts}
use Rattle.av_filter.specs.Opening.{answers_with, new_open, pends, taken}
use Rattle.av_filter.specs.Reaction.{Reaction, only, sends}
use Rattle.av_filter.specs.Receiving.{chunk_of}
use Rattle.av_filter.specs.declared.note.Note.TheVariants.{Quiet, Welcome, NoWaiter, Ignored, NoStream, WrongVolume, Connected, OldVersion}
use Rattle.av_filter_table.specs.Answering.{all_judged, by_mode, judged, present_bytes}
use Rattle.av_filter_table.specs.Asking.{asked_again, asks, ended, is_held, is_lost, settled}
use Rattle.av_filter_table.specs.Ports.{is_open, least_port, with_port, without_port}
use Rattle.av_filter_table.specs.Table.{Table, asking, context_of, current, has_room, is_modified, next_id, on_port, opens_of, question_at, question_of, question_on, raised, sequence_left}
use Rattle.av_filter_table.specs.declared.question.Question.{Question}
use Rattle.av_frame.specs.Message.{Letter, via}
use Rattle.av_frame.specs.declared.cause.FailCause.{FailCause}
use Rattle.av_frame.specs.declared.cause.NoChunkCause.{NoChunkCause}
use Rattle.av_frame.specs.declared.message.Body.TheVariants.{Abort, Chunk, Hello, NoChunk, Read, Reply, Updated}
use Rattle.av_frame.specs.declared.outcome.Outcome.{Outcome}
use Rattle.av_frame.specs.declared.outcome.Outcome.TheVariants.{Failed, Judged}
use Rattle.av_pend.specs.Pend.{denied, refused}
use Rattle.av_pend.specs.declared.answer.Answer.{Answer}
use Rattle.av_store.specs.Files.{Change, Create, Write, Cut, Remove}
use Rattle.av_store.specs.Rows.{stream_at}
use Rattle.av_store.specs.Store.{Store}
use Rattle.av_store.specs.declared.stream.Stream.{Stream}

-- why an open is answered by the mode, and for which cause
pub data Hinders (t : Table) : Cause → Type 0 where
  full : has_room t ≡ false → Hinders t cause.Busy
  not_connected : least_port t.connected ≡ None → Hinders t cause.NotConnected
  not_asked : (port : Port) → least_port t.connected ≡ Some port → asking t ≡ None → Hinders t cause.Busy

-- an open: t has its floor raised, and v its number taken
pub data OpenRow (t : Table) (v : Store) (s least : ℕ) : Reaction → Type 0 where
  no_stream : stream_at s v.streams ≡ None → OpenRow t v s least (answers_with t v (denied cause.NoStream (new_open v s least)))
  known : (x : Stream) (r : Verdict) → stream_at s v.streams ≡ Some x → current (context_of t.contexts s) t.floor ≡ Some r
      → OpenRow t v s least (answers_with t v (judged r x.generation t.floor (new_open v s least)))
  hindered : (x : Stream) (c : Cause) → stream_at s v.streams ≡ Some x → Hinders t c
      → OpenRow t v s least (answers_with t v (refused t.mode x.generation c (new_open v s least)))
  joins : (x : Stream) (q : Question) → stream_at s v.streams ≡ Some x → question_of s t.questions ≡ Some q → has_room t ≡ true
      → OpenRow t v s least (pends t v s least q.id [])
  cached : (x : Stream) (e : Entry) → stream_at s v.streams ≡ Some x → question_of s t.questions ≡ None
      → look s x.generation t.floor t.cache ≡ Some e
      → OpenRow t v s least (answers_with
      (record t { contexts = set_at t.contexts s (Some (context.Judged t.floor e.verdict)); cache = in_front e t.cache }) v
      (judged e.verdict x.generation t.floor (new_open v s least)))
  asked : (x : Stream) (port : Port) → stream_at s v.streams ≡ Some x → question_of s t.questions ≡ None → has_room t ≡ true
      → asking t ≡ Some port
      → OpenRow t v s least (pends (asks t v port s) v s least (next_id t) (scan_message t v port s ∷ []))

-- a question ends, its stream has this context, and its opens are answered
abbrev pub closes : Table → Store → Question → Option ContextState → List Answer → List Letter → Reaction
closes t v q c answers messages = record { table = ended t q c; volume = v; answers = answers; messages = messages; note = Quiet }

-- a question that is to be asked again, at this port if any
pub data AgainRow (o : Option Port) (t : Table) (v : Store) (q : Question) (early : List Letter) : Reaction → Type 0 where
  anew : (port : Port) → o ≡ Some port → (list_any (is_held q.id) t.pended && sequence_left t) ≡ true
      → AgainRow o t v q early (record {
        table = asked_again t v port q;
        volume = v;
        answers = by_mode t v cause.Unsettled (filter (is_lost q.id) t.pended);
        messages = early ++ scan_message t v port q.stream ∷ [];
        note = Quiet;
      })
  over : ((port : Port) → o ≡ Some port → (list_any (is_held q.id) t.pended && sequence_left t) ≡ false)
      → AgainRow o t v q early (ends t v q early)

-- the change writes or cuts this stream
abbrev pub Rewrites : ℕ → Change → Type 0
Rewrites s (Create name) = ⊥
Rewrites s (Write t o b) = s ≡ t
Rewrites s (Cut t l) = s ≡ t
Rewrites s (Remove t) = ⊥

-- the table with this context of a stream
abbrev pub marked : Table → ℕ → Option ContextState → Table
marked t s c = record t { contexts = set_at t.contexts s c }

-- a table without a port
abbrev pub without : Table → Port → Table
without t port = record t { connected = without_port port t.connected }

-- an event
pub data Row (t : Table) (v : Store) : FilterEvent → Reaction → Type 0 where
  opens : (s least : ℕ) (r : Reaction) → OpenRow (raised least t) (taken v) s least r → Row t v (Opens s least) r
  created : (name : List ℕ) → Row t v (Changes (Create name)) (only t (changed_volume v (Create name)) Quiet)
  rewritten : (c : Change) (s : ℕ) → Rewrites s c → question_of s t.questions ≡ None
      → Row t v (Changes c) (only (marked t s (Some context.Modified)) (changed_volume v c) Quiet)
  outdated : (c : Change) (s : ℕ) (q : Question) → Rewrites s c → question_of s t.questions ≡ Some q
      → Row t v (Changes c) (again t (changed_volume v c) q (via q.port (Abort q.id) ∷ []))
  removed : (s : ℕ) → question_of s t.questions ≡ None
      → Row t v (Changes (Remove s)) (only (marked t s None) (changed_volume v (Remove s)) Quiet)
  gone : (s : ℕ) (q : Question) → question_of s t.questions ≡ Some q
      → Row t v (Changes (Remove s)) (closes t (changed_volume v (Remove s)) q None
      (map (λ p. denied cause.StreamRemoved p.held) (opens_of q.id t.pended)) (via q.port (Abort q.id) ∷ []))
  cleaned : (s : ℕ) (x : Stream) (port : Port) → stream_at s v.streams ≡ Some x → is_modified (context_of t.contexts s) ≡ true
      → asking t ≡ Some port → Row t v (CleansUp s) (sends (asks t v port s) v (scan_message t v port s))
  not_there : (s : ℕ) → Row t v (CleansUp s) (only t v NoStream)
  clean : (s : ℕ) → Row t v (CleansUp s) (only t v Quiet)
  other_volume : (port : Port) (number version : ℕ) → Row t v (Receives (via port (Hello number version))) (only t v WrongVolume)
  taken_port : (port : Port) (number version : ℕ) → Row t v (Receives (via port (Hello number version))) (only t v Connected)
  old_version : (port : Port) (number version : ℕ) → Row t v (Receives (via port (Hello number version))) (only t v OldVersion)
  greeted : (port : Port) (number version : ℕ) → (number == v.number) ≡ true → is_open port t.connected ≡ false
      → nat_lt version t.floor ≡ false → Row t v (Receives (via port (Hello number version)))
      (only (record t { connected = with_port port t.connected; floor = version }) v Welcome)
  updated : (port : Port) (version : ℕ) → Row t v (Receives (via port (Updated version))) (only (raised version t) v Quiet)
  not_read : (port : Port) (id : MessageId) (offset count : ℕ) (c : NoChunkCause)
      → Row t v (Receives (via port (Read id offset count))) (sends t v (via port (NoChunk id offset c)))
  read : (port : Port) (id : MessageId) (offset count : ℕ) (q : Question) → question_on port id t.questions ≡ Some q
      → nat_le (length (present_bytes v q.stream)) offset ≡ false → Row t v (Receives (via port (Read id offset count)))
      (sends t v (via port (Chunk id offset (chunk_of t (present_bytes v q.stream) offset count))))
  no_waiter : (port : Port) (id : MessageId) (o : Outcome) → Row t v (Receives (via port (Reply id o))) (only t v NoWaiter)
  failed : (port : Port) (id : MessageId) (why : FailCause) (q : Question) → question_on port id t.questions ≡ Some q
      → Row t v (Receives (via port (Reply id (Failed why)))) (closes t v q (Some context.Modified)
      (by_mode t v cause.ScanFailed (opens_of q.id t.pended)) [])
  stale : (port : Port) (id : MessageId) (version : ℕ) (r : Verdict) (q : Question) → question_on port id t.questions ≡ Some q
      → nat_lt version t.floor ≡ true → Row t v (Receives (via port (Reply id (Judged version r)))) (again t v q [])
  replied : (port : Port) (id : MessageId) (version : ℕ) (r : Verdict) (q : Question) → question_on port id t.questions ≡ Some q
      → nat_lt version t.floor ≡ false → Row t v (Receives (via port (Reply id (Judged version r)))) (record {
        table = settled t q version r;
        volume = v;
        answers = all_judged r q.generation version (opens_of q.id t.pended);
        messages = [];
        note = Quiet;
      })
  ignored : (m : Letter) → Row t v (Receives m) (only t v Ignored)
  timed_out : (seq : ℕ) (q : Question) → question_at (record { boot = t.boot; seq = seq }) t.questions ≡ Some q
      → Row t v (TimesOut seq) (closes t v q (Some context.Modified)
      (by_mode t v cause.TimedOut (opens_of q.id t.pended)) (via q.port (Abort q.id) ∷ []))
  not_waited : (seq : ℕ) → Row t v (TimesOut seq) (only t v NoWaiter)
  moved : (port other : Port) → least_port (without_port port t.connected) ≡ Some other
      → Row t v (Disconnects port) (moves (without t port) v (on_port port t.questions))
  lost : (port : Port) → least_port (without_port port t.connected) ≡ None → Row t v (Disconnects port) (loses_all (without t port) v)
  restarted : Row t v Restarts (restarts t v)

-- An open: it is answered by the stream, its context or the cache, or it waits for a question.
use Rattle.std.specs.Prelude.{ℕ, ◌+◌, Bool, true, false, not, List, [], ◌∷◌, ◌++◌, Option, Some, None, if◌then◌else◌}
use Rattle.std.specs.Option.{is_some}
use Rattle.av_base.specs.declared.cause.Cause.TheVariants.{NoStream, NotConnected, Busy}
use Rattle.av_base.specs.declared.message_id.MessageId.{MessageId}
use Rattle.av_base.specs.declared.verdict.Verdict.{Verdict}
use Rattle.av_cache.specs.Cache.{look, in_front}
use Rattle.av_cache.specs.declared.entry.Entry.{Entry}
use Rattle.av_context.specs.Contexts.{set_at}
use Rattle.av_context.specs.declared.context_state.ContextState.TheVariants.{Judged}
use Rattle.av_filter_table.specs.Asking.{asks}
use Rattle.av_filter.specs.Again.{scan_message}
use Rattle.av_filter.specs.declared.note.Note.TheVariants.{Submitted}
use Rattle.av_frame.specs.Message.{Letter}
use Rattle.av_base.specs.declared.port.Port.{Port}
use Rattle.av_filter_table.specs.declared.question.Question.{Question}
use Rattle.av_filter_table.specs.Ports.{least_port}
use Rattle.av_filter.specs.Reaction.{Reaction}
use Rattle.av_filter_table.specs.Answering.{judged}
use Rattle.av_filter_table.specs.Table.{Table, context_of, current, question_of, next_id, asking, has_room, raised}
use Rattle.av_pend.specs.Pend.{waiting_from, denied, refused}
use Rattle.av_pend.specs.Waiting.{Waiting}
use Rattle.av_pend.specs.declared.answer.Answer.{Answer}
use Rattle.av_store.specs.Rows.{stream_at}
use Rattle.av_store.specs.Store.{Store}
use Rattle.av_store.specs.declared.stream.Stream.{Stream}

-- the volume with one open number more taken
abbrev pub taken : Store → Store
taken v = record v { opens = v.opens + 1 }

-- the open whose number was taken last
abbrev pub new_open : Store → ℕ → ℕ → Waiting
new_open v s least = waiting_from v.opens s least

-- it is answered at once
abbrev pub answers_with : Table → Store → Answer → Reaction
answers_with t v a = record { table = t; volume = v; answers = a ∷ []; messages = []; note = Submitted v.opens }

-- or waits for a question
abbrev pub pends : Table → Store → ℕ → ℕ → MessageId → List Letter → Reaction
pends t v s least id messages =
    record {
      table = record t { pended = t.pended ++ record { question = id; held = new_open v s least } ∷ [] };
      volume = v;
      answers = [];
      messages = messages;
      note = Submitted v.opens;
    }

-- by a new question: whether any port is connected, and where one is asked
unfoldable pub open_new : Table → Store → ℕ → ℕ → Stream → Bool → Option Port → Reaction
open_new t v s least x false port = answers_with t v (refused t.mode x.generation NotConnected (new_open v s least))
open_new t v s least x true None = answers_with t v (refused t.mode x.generation Busy (new_open v s least))
open_new t v s least x true (Some port) = pends (asks t v port s) v s least (next_id t) (scan_message t v port s ∷ [])

-- by what the cache has of the content under the floor
unfoldable pub open_cached : Table → Store → ℕ → ℕ → Stream → Option Entry → Reaction
open_cached t v s least x (Some e) =
    answers_with (record t { contexts = set_at t.contexts s (Some (Judged t.floor e.verdict)); cache = in_front e t.cache }) v
    (judged e.verdict x.generation t.floor (new_open v s least))
open_cached t v s least x None =
    if not (has_room t) then answers_with t v (refused t.mode x.generation Busy (new_open v s least))
    else open_new t v s least x (is_some (least_port t.connected)) (asking t)

-- by the question of the stream
unfoldable pub open_asked : Table → Store → ℕ → ℕ → Stream → Option Question → Reaction
open_asked t v s least x (Some q) =
    if has_room t then pends t v s least q.id [] else answers_with t v (refused t.mode x.generation Busy (new_open v s least))
open_asked t v s least x None = open_cached t v s least x (look s x.generation t.floor t.cache)

-- by the verdict of its context under the floor
unfoldable pub open_judged : Table → Store → ℕ → ℕ → Stream → Option Verdict → Reaction
open_judged t v s least x (Some r) = answers_with t v (judged r x.generation t.floor (new_open v s least))
open_judged t v s least x None = open_asked t v s least x (question_of s t.questions)

-- by the stream
unfoldable pub open_found : Table → Store → ℕ → ℕ → Option Stream → Reaction
open_found t v s least None = answers_with t v (denied NoStream (new_open v s least))
open_found t v s least (Some x) = open_judged t v s least x (current (context_of t.contexts s) t.floor)

-- an open takes its number and raises the floor to its least version, and is then looked up by its stream
unfoldable pub opened : Table → Store → ℕ → ℕ → Reaction
opened t v s least = open_found (raised least t) (taken v) s least (stream_at s v.streams)

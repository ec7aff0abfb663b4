-- Questions: how one is asked, ends, and is asked again.
use Rattle.std.specs.Prelude.{ℕ, ◌+◌, Bool, not, ◌&&◌, nat_le, List, [], ◌∷◌, ◌++◌, map, filter, Option, Some, if◌then◌else◌}
use Rattle.av_base.specs.declared.cause.Cause.{Cause}
use Rattle.av_base.specs.declared.cause.Cause.TheVariants.{Unsettled, Busy}
use Rattle.av_base.specs.declared.message_id.MessageId.{MessageId}
use Rattle.av_base.specs.declared.port.Port.{Port}
use Rattle.av_base.specs.declared.verdict.Verdict.{Verdict}
use Rattle.av_cache.specs.Cache.{put}
use Rattle.av_context.specs.Contexts.{set_at}
use Rattle.av_context.specs.declared.context_state.ContextState.{ContextState}
use Rattle.av_context.specs.declared.context_state.ContextState.TheVariants.{Modified, Scanning, Judged}
use Rattle.av_filter_table.specs.declared.pended.Pended.{Pended}
use Rattle.av_filter_table.specs.declared.question.Question.{Question}
use Rattle.av_filter_table.specs.Answering.{present_generation}
use Rattle.av_filter_table.specs.Table.{Table, next_id, without_question, waits_for, other_opens}
use Rattle.av_store.specs.Store.{Store}

-- the next question on a port is of the present content of a stream
abbrev pub next_question : Table → Store → Port → ℕ → Question
next_question t v port s = record { id = next_id t; port = port; stream = s; generation = present_generation v s }

-- a stream's scan is asked for on a port
unfoldable pub asks : Table → Store → Port → ℕ → Table
asks t v port s =
    record t {
      sequence = t.sequence + 1;
      contexts = set_at t.contexts s (Some (Scanning (next_id t)));
      questions = t.questions ++ next_question t v port s ∷ [];
    }

-- a question ends, its stream has this context, and its opens leave the table
unfoldable pub ended : Table → Question → Option ContextState → Table
ended t q c =
    record t {
      contexts = set_at t.contexts q.stream c;
      questions = without_question q.id t.questions;
      pended = other_opens q.id t.pended;
    }

-- a question ends with this verdict under this version, which is the floor from then on, and the cache keeps it
abbrev pub settled : Table → Question → ℕ → Verdict → Table
settled t q version r =
    record (ended t q (Some (Judged version r))) {
      floor = version;
      cache =
          put t.limits.cache (record { stream = q.stream; generation = q.generation; version = version; verdict = r }) t.cache;
    }

-- each scan that runs is lost, and the context of its stream is Modified
unfoldable pub lost_contexts : List Question → List (ℕ × ContextState) → List (ℕ × ContextState)
lost_contexts [] contexts = contexts
lost_contexts (q ∷ qs) contexts = set_at (lost_contexts qs contexts) q.stream (Some Modified)

-- an open saw as many rescans as it may
abbrev pub is_spent : Pended → Bool
is_spent p = nat_le 8 p.held.rescans

-- it waits for this question, with a rescan left, or with none
abbrev pub is_held : MessageId → Pended → Bool
is_held id p = waits_for id p && not (is_spent p)

-- an open that waits for this question and has no rescan left
abbrev pub is_lost : MessageId → Pended → Bool
is_lost id p = waits_for id p && is_spent p

-- an open waits for another question, and has seen one rescan more
abbrev pub again_under : MessageId → Pended → Pended
again_under id p =
    record {
      question = id;
      held = record { open_id = p.held.open_id; stream = p.held.stream; least = p.held.least; rescans = p.held.rescans + 1 };
    }

-- an open of the old question waits for the new one; any other stays
abbrev pub moved : MessageId → MessageId → Pended → Pended
moved old new p = if waits_for old p then again_under new p else p

-- those of the question `old` that have a rescan left wait for the question `new`
abbrev pub moved_opens : MessageId → MessageId → List Pended → List Pended
moved_opens old new ps = map (moved old new) (filter (λ p. not (is_lost old p)) ps)

-- a question has ended, and is asked anew on a port for those of its opens that have a rescan left
abbrev pub asked_again : Table → Store → Port → Question → Table
asked_again t v port q =
    asks (record t { questions = without_question q.id t.questions; pended = moved_opens q.id (next_id t) t.pended }) v port q.stream

-- why an open is not asked for again
abbrev pub again_cause : Pended → Cause
again_cause p = if is_spent p then Unsettled else Busy

-- Changes of the volume, and the cleanup that follows some.
use Rattle.std.specs.Prelude.{ℕ, Bool, true, [], ◌∷◌, map, Option, Some, None}
use Rattle.av_base.specs.declared.cause.Cause.TheVariants.{StreamRemoved}
use Rattle.av_context.specs.Contexts.{set_at}
use Rattle.av_context.specs.declared.context_state.ContextState.TheVariants.{Modified}
use Rattle.av_filter_table.specs.Asking.{asks, ended}
use Rattle.av_filter.specs.Again.{again, scan_message}
use Rattle.av_filter.specs.declared.note.Note.TheVariants.{Quiet, NoStream}
use Rattle.av_base.specs.declared.port.Port.{Port}
use Rattle.av_filter_table.specs.declared.question.Question.{Question}
use Rattle.av_frame.specs.Message.{via}
use Rattle.av_filter.specs.Reaction.{Reaction, only, sends}
use Rattle.av_filter_table.specs.Table.{Table, context_of, is_modified, asking, question_of, opens_of}
use Rattle.av_frame.specs.declared.message.Body.TheVariants.{Abort}
use Rattle.av_pend.specs.Pend.{denied}
use Rattle.av_store.specs.Files.{Change, Create, Write, Cut, Remove}
use Rattle.av_store.specs.Seen.{change_of, kept_or}
use Rattle.av_store.specs.Store.{Store}
use Rattle.av_store.specs.declared.stream.Stream.{Stream}

-- the volume after a change, which stays where the change is refused
abbrev pub changed_volume : Store → Change → Store
changed_volume v c = kept_or v (change_of v c)

-- a stream was written or cut; v: the volume after it
unfoldable pub rewritten : Table → Store → ℕ → Option Question → Reaction
rewritten t v s None = only (record t { contexts = set_at t.contexts s (Some Modified) }) v Quiet
rewritten t v s (Some q) = again t v q (via q.port (Abort q.id) ∷ [])

-- a stream was removed
unfoldable pub removed : Table → Store → ℕ → Option Question → Reaction
removed t v s None = only (record t { contexts = set_at t.contexts s None }) v Quiet
removed t v s (Some q) =
    record {
      table = ended t q None;
      volume = v;
      answers = map (λ p. denied StreamRemoved p.held) (opens_of q.id t.pended);
      messages = via q.port (Abort q.id) ∷ [];
      note = Quiet;
    }

-- what a change of the volume that was accepted does: a creation nothing, the others end what is known of the stream
unfoldable pub changes : Table → Store → Change → Reaction
changes t v (Create name) = only t (changed_volume v (Create name)) Quiet
changes t v (Write s o b) = rewritten t (changed_volume v (Write s o b)) s (question_of s t.questions)
changes t v (Cut s n) = rewritten t (changed_volume v (Cut s n)) s (question_of s t.questions)
changes t v (Remove s) = removed t (changed_volume v (Remove s)) s (question_of s t.questions)

-- a cleanup of a stream that is there: whether it was written, and where its scan would be asked for
unfoldable pub cleaned_at : Table → Store → ℕ → Bool → Option Port → Reaction
cleaned_at t v s true (Some port) = sends (asks t v port s) v (scan_message t v port s)
cleaned_at t v s _ _ = only t v Quiet

-- a cleanup
unfoldable pub cleaned : Table → Store → ℕ → Option Stream → Reaction
cleaned t v s None = only t v NoStream
cleaned t v s (Some x) =
    cleaned_at t v s (is_modified (context_of t.contexts s)) (asking t)

-- Questions that are asked again: the content of their stream has changed, or a verdict came too late.
use Rattle.std.specs.Prelude.{ℕ, ◌&&◌, List, [], ◌∷◌, ◌++◌, length, map, filter, Option, None, Some, if◌then◌else◌}
use Rattle.std.specs.List.{list_any}
use Rattle.av_base.specs.declared.cause.Cause.TheVariants.{Unsettled}
use Rattle.av_context.specs.declared.context_state.ContextState.TheVariants.{Modified}
use Rattle.av_filter.specs.declared.note.Note.TheVariants.{Quiet}
use Rattle.av_filter.specs.Reaction.{Reaction}
use Rattle.av_filter_table.specs.Answering.{present_generation, present_bytes, refused_now, by_mode}
use Rattle.av_filter_table.specs.Asking.{again_cause, asked_again, ended, is_held, is_lost}
use Rattle.av_frame.specs.Message.{Letter, via}
use Rattle.av_base.specs.declared.port.Port.{Port}
use Rattle.av_filter_table.specs.declared.question.Question.{Question}
use Rattle.av_filter_table.specs.Ports.{least_port}
use Rattle.av_filter_table.specs.Table.{Table, next_id, sequence_left, opens_of}
use Rattle.av_frame.specs.declared.message.Body.TheVariants.{Scan}
use Rattle.av_store.specs.Store.{Store}

-- what asks for the scan of a stream's present content
abbrev pub scan_message : Table → Store → Port → ℕ → Letter
scan_message t v port s = via port (Scan (next_id t) s (present_generation v s) (length (present_bytes v s)))

-- a question ends, and its opens are answered
unfoldable pub ends : Table → Store → Question → List Letter → Reaction
ends t v q early =
    record {
      table = ended t q (Some Modified);
      volume = v;
      answers = map (λ p. refused_now t v (again_cause p) p) (opens_of q.id t.pended);
      messages = early;
      note = Quiet;
    }

-- a question ends, and is asked anew for those of its opens that have a rescan left, if a number is; else all its opens are
-- answered. `early` is sent before
unfoldable pub again_at : Option Port → Table → Store → Question → List Letter → Reaction
again_at None t v q early = ends t v q early
again_at (Some port) t v q early =
    if list_any (is_held q.id) t.pended && sequence_left t
    then record {
      table = asked_again t v port q;
      volume = v;
      answers = by_mode t v Unsettled (filter (is_lost q.id) t.pended);
      messages = early ++ scan_message t v port q.stream ∷ [];
      note = Quiet;
    }
    else ends t v q early

-- it is asked again on the least connected port
abbrev pub again : Table → Store → Question → List Letter → Reaction
again t v q early = again_at (least_port t.connected) t v q early

-- What a filter knows: its table.
use Rattle.std.specs.Prelude.{ℕ, ◌+◌, Bool, true, false, not, ◌&&◌, max, nat_lt, ◌==◌, List, [], length, filter, find, Option, None, Some, if◌then◌else◌}
use Rattle.av_base.specs.declared.limits.LimitValues.{LimitValues}
use Rattle.av_base.specs.declared.message_id.MessageId.{MessageId}
use Rattle.av_base.specs.declared.mode.Mode.{Mode}
use Rattle.av_base.specs.declared.port.Port.{Port}
use Rattle.av_base.specs.declared.verdict.Verdict.{Verdict}
use Rattle.av_base.specs.MessageId.{same_id}
use Rattle.av_base.specs.Port.{same_port}
use Rattle.av_cache.specs.declared.entry.Entry.{Entry}
use Rattle.av_context.specs.Contexts.{at}
use Rattle.av_context.specs.declared.context_state.ContextState.{ContextState}
use Rattle.av_context.specs.declared.context_state.ContextState.TheVariants.{Modified, Scanning, Judged}
use Rattle.av_filter_table.specs.Ports.{least_port, none_open}
use Rattle.av_filter_table.specs.declared.pended.Pended.{Pended}
use Rattle.av_filter_table.specs.declared.ports.Ports.{Ports}
use Rattle.av_filter_table.specs.declared.question.Question.{Question}
use Rattle.av_store.specs.Store.{greatest}

-- all that a filter knows but its volume
pub record Table : Type 0 where
  pub mode : Mode
  pub limits : LimitValues
  pub boot : ℕ
  pub sequence : ℕ  -- of the last question
  pub connected : Ports
  pub floor : ℕ  -- no version below it grants
  pub contexts : List (ℕ × ContextState)  -- by stream, the least first
  pub questions : List Question  -- in the order in which they were asked
  pub pended : List Pended  -- in the order of submission
  pub cache : List Entry  -- the most recent first

-- a filter just mounted
abbrev pub mounted : Mode → LimitValues → ℕ → Table
mounted mode limits boot =
    record {
      mode = mode;
      limits = limits;
      boot = boot;
      sequence = 0;
      connected = none_open;
      floor = 0;
      contexts = [];
      questions = [];
      pended = [];
      cache = [];
    }

-- what is known of the content of a stream
abbrev pub context_of : List (ℕ × ContextState) → ℕ → Option ContextState
context_of contexts s = at contexts s

-- the verdict of a context under this version
abbrev pub judged_under : ℕ → ContextState → Option Verdict
judged_under version Modified = None
judged_under version (Scanning id) = None
judged_under version (Judged v r) = if v == version then Some r else None

-- the verdict of a stream's context under the floor
abbrev pub current : Option ContextState → ℕ → Option Verdict
current None floor = None
current (Some c) floor = judged_under floor c

-- the stream was written, and no scan of it runs
abbrev pub is_written : ContextState → Bool
is_written Modified = true
is_written (Scanning id) = false
is_written (Judged v r) = false

-- the content changed since it was judged or asked about
abbrev pub is_modified : Option ContextState → Bool
is_modified None = false
is_modified (Some c) = is_written c

-- the question of a stream, and the one of an id
abbrev pub question_of : ℕ → List Question → Option Question
question_of s qs = find (λ q. q.stream == s) qs

-- the question of this id
abbrev pub question_at : MessageId → List Question → Option Question
question_at id qs = find (λ q. same_id q.id id) qs

-- the other questions
abbrev pub without_question : MessageId → List Question → List Question
without_question id qs = filter (λ q. not (same_id q.id id)) qs

-- the opens that wait for a question, and the others
abbrev pub waits_for : MessageId → Pended → Bool
waits_for id p = same_id p.question id

-- the opens that wait for this question
abbrev pub opens_of : MessageId → List Pended → List Pended
opens_of id ps = filter (waits_for id) ps

-- the opens that wait for another
abbrev pub other_opens : MessageId → List Pended → List Pended
other_opens id ps = filter (λ p. not (waits_for id p)) ps

-- the id of the next question
abbrev pub next_id : Table → MessageId
next_id t = record { boot = t.boot; seq = t.sequence + 1 }

-- one question more can have a number
abbrev pub sequence_left : Table → Bool
sequence_left t = nat_lt t.sequence greatest

-- where one question more would be asked, if it can be
abbrev pub asking : Table → Option Port
asking t = if nat_lt (length t.questions) t.limits.questions && sequence_left t then least_port t.connected else None

-- the question of this id, where it runs on this port
abbrev pub question_on : Port → MessageId → List Question → Option Question
question_on port id qs = find (λ q. same_id q.id id && same_port q.port port) qs

-- the questions of a port, in the order of their ids
abbrev pub on_port : Port → List Question → List Question
on_port port qs = filter (λ q. same_port q.port port) qs

-- one open more can be held
abbrev pub has_room : Table → Bool
has_room t = nat_lt (length t.pended) t.limits.pended

-- the table with its floor at this version, where that is higher
abbrev pub raised : ℕ → Table → Table
raised version t = record t { floor = max t.floor version }

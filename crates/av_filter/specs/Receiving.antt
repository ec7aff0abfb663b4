-- Messages of the scanning service.
use Rattle.std.specs.Prelude.{ℕ, not, min, nat_le, nat_lt, ◌==◌, List, [], length, take, drop, Option, Some, None, if◌then◌else◌}
use Rattle.av_base.specs.declared.cause.Cause.TheVariants.{ScanFailed}
use Rattle.av_base.specs.declared.message_id.MessageId.{MessageId}
use Rattle.av_context.specs.declared.context_state.ContextState.TheVariants as context
use Rattle.av_filter_table.specs.Asking.{ended, settled}
use Rattle.av_filter.specs.Again.{again}
use Rattle.av_filter.specs.declared.note.Note.TheVariants.{Quiet, Welcome, NoWaiter, Ignored, WrongVolume, Connected, OldVersion}
use Rattle.av_frame.specs.Message.{Letter, via}
use Rattle.av_base.specs.declared.port.Port.{Port}
use Rattle.av_filter_table.specs.declared.question.Question.{Question}
use Rattle.av_filter_table.specs.Ports.{is_open, with_port}
use Rattle.av_filter.specs.Reaction.{Reaction, only, sends}
use Rattle.av_filter_table.specs.Answering.{present_bytes, all_judged, by_mode}
use Rattle.av_filter_table.specs.Table.{Table, question_on, opens_of, raised}
use Rattle.av_frame.specs.declared.cause.NoChunkCause.TheVariants.{NoQuestion, PastEnd}
use Rattle.av_frame.specs.declared.message.Body.{Body}
use Rattle.av_frame.specs.declared.message.Body.TheVariants.{Chunk, NoChunk, Hello, Read, Reply, Updated}
use Rattle.av_frame.specs.declared.outcome.Outcome.{Outcome}
use Rattle.av_frame.specs.declared.outcome.Outcome.TheVariants.{Judged, Failed}
use Rattle.av_store.specs.Store.{Store}

-- the service greets
unfoldable pub greeted : Table → Store → Port → ℕ → ℕ → Reaction
greeted t v port number version =
    if not (number == v.number) then only t v WrongVolume
    else (if is_open port t.connected then only t v Connected
    else (if nat_lt version t.floor then only t v OldVersion
    else only (record t { connected = with_port port t.connected; floor = version }) v Welcome))

-- it reads content of a question
abbrev pub chunk_of : Table → List ℕ → ℕ → ℕ → List ℕ
chunk_of t bytes offset count = take (min count t.limits.chunk) (drop offset bytes)

-- a read of a question: its content from the offset on, or why there is none
unfoldable pub reads : Table → Store → Port → MessageId → ℕ → ℕ → Option Question → Reaction
reads t v port id offset count None = sends t v (via port (NoChunk id offset NoQuestion))
reads t v port id offset count (Some q) =
    if nat_le (length (present_bytes v q.stream)) offset then sends t v (via port (NoChunk id offset PastEnd))
    else sends t v (via port (Chunk id offset (chunk_of t (present_bytes v q.stream) offset count)))

-- it replies
unfoldable pub replies : Table → Store → Outcome → Option Question → Reaction
replies t v outcome None = only t v NoWaiter
replies t v (Failed cause) (Some q) =
    record {
      table = ended t q (Some context.Modified);
      volume = v;
      answers = by_mode t v ScanFailed (opens_of q.id t.pended);
      messages = [];
      note = Quiet;
    }
replies t v (Judged version r) (Some q) =
    if nat_lt version t.floor then again t v q []
    else record {
      table = settled t q version r;
      volume = v;
      answers = all_judged r q.generation version (opens_of q.id t.pended);
      messages = [];
      note = Quiet;
    }

-- what each message does at the port at which it comes; those that only a filter sends do nothing
unfoldable pub receives_at : Table → Store → Port → Body → Reaction
receives_at t v port (Hello number version) = greeted t v port number version
receives_at t v port (Updated version) = only (raised version t) v Quiet
receives_at t v port (Read id offset count) = reads t v port id offset count (question_on port id t.questions)
receives_at t v port (Reply id outcome) = replies t v outcome (question_on port id t.questions)
receives_at t v port _ = only t v Ignored

-- the same of a message with its port
abbrev pub receives : Table → Store → Letter → Reaction
receives t v m = receives_at t v m.port m.body

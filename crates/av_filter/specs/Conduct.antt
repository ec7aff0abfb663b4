-- The filter's conduct: what each event does, and why it may be refused.
use Rattle.std.specs.Prelude.{ℕ, ◌+◌, nat_le, ◌==◌, List, [], ◌∷◌, ◌++◌, Option, Some, None, if◌then◌else◌}
use Rattle.std.specs.Option.{option_map}
use Rattle.av_base.specs.declared.cause.Cause.TheVariants.{TimedOut, PortDisconnected, FilterRestart}
use Rattle.av_context.specs.declared.context_state.ContextState.TheVariants.{Modified}
use Rattle.av_filter_table.specs.Asking.{ended, lost_contexts}
use Rattle.av_filter.specs.Changing.{changes, cleaned}
use Rattle.av_filter.specs.declared.fault.FilterFault.{FilterFault}
use Rattle.av_filter.specs.declared.fault.FilterFault.TheVariants as fault
use Rattle.av_filter.specs.declared.note.Note.TheVariants.{Quiet, NoWaiter}
use Rattle.av_frame.specs.Message.{Letter, via}
use Rattle.av_base.specs.declared.port.Port.{Port}
use Rattle.av_filter_table.specs.declared.question.Question.{Question}
use Rattle.av_filter_table.specs.Ports.{least_port, without_port}
use Rattle.av_pend.specs.Pend.{open_of}
use Rattle.av_pend.specs.declared.answer.Answer.{Answer}
use Rattle.av_filter.specs.Again.{again}
use Rattle.av_filter.specs.Opening.{opened}
use Rattle.av_filter.specs.Reaction.{Reaction, only}
use Rattle.av_filter_table.specs.Answering.{by_mode}
use Rattle.av_filter.specs.Receiving.{receives}
use Rattle.av_filter_table.specs.Table.{Table, mounted, on_port, question_at, opens_of}
use Rattle.av_frame.specs.declared.message.Body.TheVariants.{Abort}
use Rattle.std.specs.Result.{result_err}
use Rattle.av_store.specs.Files.{Change}
use Rattle.av_store.specs.Seen.{change_of}
use Rattle.av_store.specs.Store.{Store, greatest}
use Rattle.av_store.specs.Rows.{stream_at}

-- what can happen to a filter
pub data FilterEvent : Type 0 where
  Opens : (stream least : ℕ) → FilterEvent
  Changes : (change : Change) → FilterEvent
  CleansUp : (stream : ℕ) → FilterEvent
  Receives : (message : Letter) → FilterEvent
  TimesOut : (seq : ℕ) → FilterEvent
  Disconnects : (port : Port) → FilterEvent
  Restarts : FilterEvent

-- a question's time is up
unfoldable pub times_out : Table → Store → Option Question → Reaction
times_out t v None = only t v NoWaiter
times_out t v (Some q) =
    record {
      table = ended t q (Some Modified);
      volume = v;
      answers = by_mode t v TimedOut (opens_of q.id t.pended);
      messages = via q.port (Abort q.id) ∷ [];
      note = Quiet;
    }

-- each of these questions is asked again, the first one first
unfoldable pub again_each : Table → Store → List Question → Reaction
again_each t v [] = only t v Quiet
again_each t v (q ∷ qs) =
    let r = again t v q [] in
    let rest = again_each r.table v qs in
    record {
      table = rest.table;
      volume = v;
      answers = r.answers ++ rest.answers;
      messages = r.messages ++ rest.messages;
      note = Quiet;
    }

-- an answer among others, by the number of its open
abbrev pub placed : Answer → List Answer → List Answer
placed a [] = a ∷ []
placed a (b ∷ bs) = if nat_le (open_of a) (open_of b) then a ∷ b ∷ bs else b ∷ placed a bs

-- answers in the order in which their opens were submitted
abbrev pub in_order : List Answer → List Answer
in_order [] = []
in_order (a ∷ answers) = placed a (in_order answers)

-- a port is lost, and another is connected: its questions are asked there
unfoldable pub moves : Table → Store → List Question → Reaction
moves t v qs = let r = again_each t v qs in record r { volume = v; answers = in_order r.answers }

-- the last port is lost, and with it each scan that runs
unfoldable pub loses_all : Table → Store → Reaction
loses_all t v =
    record {
      table = record t { contexts = lost_contexts t.questions t.contexts; questions = []; pended = [] };
      volume = v;
      answers = by_mode t v PortDisconnected t.pended;
      messages = [];
      note = Quiet;
    }

-- by the least port that is still connected
unfoldable pub disconnects_to : Option Port → Table → Store → Port → Reaction
disconnects_to None t v port = loses_all t v
disconnects_to (Some least) t v port = moves t v (on_port port t.questions)

-- a port is lost
unfoldable pub disconnects : Table → Store → Port → Reaction
disconnects t v port =
    disconnects_to (least_port (without_port port t.connected)) (record t { connected = without_port port t.connected }) v port

-- the filter is mounted anew
abbrev pub booted : Store → Store
booted v = record v { boot = v.boot + 1 }

-- a restart: every open is answered by the mode, and a filter just mounted goes on, in the next boot
unfoldable pub restarts : Table → Store → Reaction
restarts t v =
    record {
      table = mounted t.mode t.limits (v.boot + 1);
      volume = booted v;
      answers = by_mode t v FilterRestart t.pended;
      messages = [];
      note = Quiet;
    }

-- what each event does, where it is not refused
unfoldable pub filter_step : Table → Store → FilterEvent → Reaction
filter_step t v (Opens s least) = opened t v s least
filter_step t v (Changes c) = changes t v c
filter_step t v (CleansUp s) = cleaned t v s (stream_at s v.streams)
filter_step t v (Receives m) = receives t v m
filter_step t v (TimesOut seq) = times_out t v (question_at (record { boot = t.boot; seq = seq }) t.questions)
filter_step t v (Disconnects port) = disconnects t v port
filter_step t v Restarts = restarts t v

-- why it is refused
unfoldable pub filter_refusal : Table → Store → FilterEvent → Option FilterFault
filter_refusal t v (Opens s least) = if v.opens == greatest then Some fault.OpensSpent else None
filter_refusal t v (Changes c) = option_map fault.Store (result_err (change_of v c))
filter_refusal t v (CleansUp s) = None
filter_refusal t v (Receives m) = None
filter_refusal t v (TimesOut seq) = None
filter_refusal t v (Disconnects port) = None
filter_refusal t v Restarts = if v.boot == greatest then Some fault.BootSpent else None

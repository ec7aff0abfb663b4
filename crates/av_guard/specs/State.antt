-- What a guard knows, and what an event of its filter does to it.
use Rattle.std.specs.Prelude.{◌≡◌, ℕ, List, [], MatchOption, Result, Ok, Err}
use Rattle.std.specs.declared.random_state.RandomState.{RandomState}
use Rattle.av_base.specs.declared.port.Port.{Port}
use Rattle.av_filter.specs.Conduct.{FilterEvent, Disconnects, filter_step, loses_all, moves}
use Rattle.av_filter.specs.Reaction.{Reaction}
use Rattle.av_filter.specs.Rows.{without}
use Rattle.av_filter_table.specs.Ports.{least_port, without_port}
use Rattle.av_filter_table.specs.Table.{Table, on_port}
use Rattle.av_frame.specs.Message.{Letter}
use Rattle.av_guard.specs.declared.given.GuardOut.{GuardOut}
use Rattle.av_guard.specs.declared.given.Told.{Told}
use Rattle.av_guard.specs.Telling.{Waiters, left_by, told_by}
use Rattle.av_store.specs.Store.{Store}

-- the filter and its volume, the key of the names, the bytes of contents that are kept, the clients that are there and the number of the last one,
-- and who waits for which open
pub record State : Type 0 where
  pub table : Table
  pub volume : Store
  pub key : RandomState
  pub keep : ℕ
  pub clients : List ℕ
  pub last : ℕ
  pub waiting : Waiters

-- a state, and what was given out on the way to it
pub record Turn : Type 0 where
  pub state : State
  pub told : List Told
  pub messages : List Letter

-- the filter reacted: its answers are told, and its messages are sent
abbrev pub reacted : State → Reaction → Turn
reacted g r =
    record {
      state = record g { table = r.table; volume = r.volume; waiting = left_by g.waiting r.answers };
      told = told_by g.clients r.table g.waiting r.answers;
      messages = r.messages;
    }

-- an event of the filter
abbrev pub happens : State → FilterEvent → Turn
happens g e = reacted g (filter_step g.table g.volume e)

-- nothing happens
abbrev pub rests : State → Turn
rests g = record { state = g; told = []; messages = [] }

-- The service of a port is lost: where none is left at the other every question ends, and else those of the port are asked again at the other.
abbrev pub LosesService : Table → Store → Port → Type 0
LosesService t v port =
    MatchOption (least_port (without_port port t.connected)) (filter_step t v (Disconnects port) ≡ loses_all (without t port) v)
    (λ other. filter_step t v (Disconnects port) ≡ moves (without t port) v (on_port port t.questions))

-- what was given and left is the turn's
pub record Gives (given : GuardOut) (new : State) (turn : Turn) : Type 0 where
  pub told : given.told.items ≡ turn.told
  pub messages : given.messages.items ≡ turn.messages
  pub state : new ≡ turn.state

-- a call that memory alone refuses, and that changes nothing then
abbrev pub Turns : {E : Type 0} → State → State → Result GuardOut E → Turn → Type 0
Turns old new (Ok given) turn = Gives given new turn
Turns old new (Err e) turn = new ≡ old

-- no content, nobody there
abbrev pub opening : Table → Store → RandomState → ℕ → State
opening t v key keep = record { table = t; volume = v; key = key; keep = keep; clients = []; last = 0; waiting = [] }

-- The calls of a guard one after the other, what they told, and the history of its filter.
use Rattle.std.specs.Prelude.{◌≡◌, ℕ, List, [], ◌∷◌, All, Option, Some, None, Result, Ok, Err}
use Rattle.std.specs.List.{flat_map}
use Rattle.std.specs.declared.alloc.AllocError.{AllocError}
use Rattle.av_base.specs.Among.{Among}
use Rattle.av_base.specs.declared.cause.Cause.{Cause}
use Rattle.av_base.specs.declared.port.Port.{Port}
use Rattle.av_base.specs.declared.refusal.Refusal.{Refusal}
use Rattle.av_filter.specs.Audit.{FilterEntry, IsFilterAudit, answers_given, filter_end, sent_down}
use Rattle.av_filter.specs.Conduct.{FilterEvent, Changes, Disconnects, Receives, TimesOut}
use Rattle.av_frame.specs.Message.{Letter}
use Rattle.av_guard.specs.Asking.{Refuses, Takes, refusal_of}
use Rattle.av_guard.specs.Beginning.{Joins, begun, first_table, first_volume, left}
use Rattle.av_guard.specs.Room.{RoomOf}
use Rattle.av_guard.specs.Serving.{AreForServices}
use Rattle.av_guard.specs.State.{State, Turns, happens}
use Rattle.av_guard.specs.declared.answered.Answered.{Answered}
use Rattle.av_guard.specs.declared.answered.Answered.TheVariants as told
use Rattle.av_guard.specs.Ask.{Ask}
use Rattle.av_guard.specs.declared.fault.AskFault.{AskFault}
use Rattle.av_guard.specs.declared.given.GuardOut.{GuardOut}
use Rattle.av_guard.specs.declared.given.Told.{Told}
use Rattle.av_guard.specs.declared.settings.Settings.{Settings}
use Rattle.av_pend.specs.declared.answer.Answer.TheVariants.{Granted, Unscanned}
use Rattle.av_store.specs.History.{StreamHistory, content, histories_after}

-- a call, with what it was given and what it answered
pub data Call : Type 0 where
  Client : (number : Option ℕ) → Call
  ClientLost : (client : ℕ) → Call
  Asks : (client tag : ℕ) (content : List ℕ) (result : Result GuardOut (Refusal AskFault)) → Call
  MakeRoom : (result : Result (Option GuardOut) AllocError) → Call
  Message : (message : Letter) (result : Result GuardOut AllocError) → Call
  ServiceLost : (port : Port) (result : Result GuardOut AllocError) → Call
  TimeUp : (seq : ℕ) (result : Result GuardOut AllocError) → Call

-- what the contract of the call says of the guard before and after
abbrev pub Does : Call → State → State → Type 0
Does (Client number) old new = Joins old new number
Does (ClientLost client) old new = new ≡ left old client
Does (Asks client tag c (Ok given)) old new = (refusal_of old client c ≡ None) × Takes old new given client tag c
Does (Asks client tag c (Err why)) old new = Refuses old new client c why
Does (MakeRoom result) old new = RoomOf old new result
Does (Message m result) old new = Turns old new result (happens old (Receives m))
Does (ServiceLost port result) old new = Turns old new result (happens old (Disconnects port))
Does (TimeUp seq result) old new = Turns old new result (happens old (TimesOut seq))

-- calls in turn lead from one state to another
abbrev pub Lead : List Call → State → State → Type 0
Lead [] old new = new ≡ old
Lead (c ∷ cs) old new = (next : State) × Does c old next × Lead cs next new

-- what a call gave out
abbrev pub given_by : Call → List GuardOut
given_by (Asks client tag c (Ok given)) = given ∷ []
given_by (MakeRoom (Ok (Some given))) = given ∷ []
given_by (Message m (Ok given)) = given ∷ []
given_by (ServiceLost port (Ok given)) = given ∷ []
given_by (TimeUp seq (Ok given)) = given ∷ []
given_by _ = []

-- the ask that a call took
abbrev pub taken_by : Call → List Ask
taken_by (Asks client tag c (Ok given)) = record { client = client; tag = tag; content = c } ∷ []
taken_by _ = []

-- all that was told, all messages for the service, and all asks that were taken
abbrev pub told_in : List Call → List Told
told_in cs = flat_map (λ given. given.told.items) (flat_map given_by cs)

abbrev pub sent_in : List Call → List Letter
sent_in cs = flat_map (λ given. given.messages.items) (flat_map given_by cs)

abbrev pub asks_in : List Call → List Ask
asks_in cs = flat_map taken_by cs

-- what streams have held, after an event of the filter, and after all of a history
abbrev pub held_after : List StreamHistory → FilterEvent → List StreamHistory
held_after hs (Changes c) = histories_after hs c
held_after hs _ = hs

abbrev pub all_held : List StreamHistory → List FilterEntry → List StreamHistory
all_held hs [] = hs
all_held hs (x ∷ xs) = all_held (held_after hs x.event) xs

-- The filter granted an open of a stream whose generation is 2, and its content of that generation, the one that was written,
-- is this.
pub record IsGrantOf (history : List FilterEntry) (c : List ℕ) (generation version : ℕ) : Type 0 where
  pub open_id : ℕ
  pub least : ℕ
  pub stream : ℕ
  pub granted : Among (Granted open_id least stream generation version) (answers_given history)
  pub once : generation ≡ 2
  pub bytes : content (all_held [] history) stream generation ≡ Some c

-- The filter let an open through unscanned.
pub record IsLetThrough (history : List FilterEntry) (generation : ℕ) (cause : Cause) : Type 0 where
  pub open_id : ℕ
  pub stream : ℕ
  pub let_through : Among (Unscanned open_id stream generation cause) (answers_given history)

-- what a content was told rests on the history
abbrev pub RestsOn : List FilterEntry → List ℕ → Answered → Type 0
RestsOn history c (told.Granted generation version) = IsGrantOf history c generation version
RestsOn history c (told.Unscanned generation cause) = IsLetThrough history generation cause
RestsOn history c _ = Unit {0}

-- an answer was told to an ask that was taken, and rests on the history
pub record IsFounded (asks : List Ask) (history : List FilterEntry) (t : Told) : Type 0 where
  pub ask : Ask
  pub taken : Among ask asks
  pub client : t.client ≡ ask.client
  pub tag : t.tag ≡ ask.tag
  pub rests : RestsOn history ask.content t.answer

-- The history of a guard's filter since the guard was made: a legal audit that leads to its table and volume, whose messages are
-- those that the calls gave out, each for a service that is there, and on which each answer that they told rests.
pub record IsHistoryOf (settings : Settings) (calls : List Call) (g : State) (history : List FilterEntry) : Type 0 where
  pub legal : IsFilterAudit (first_table settings) (first_volume settings) history
  pub leads : filter_end (first_table settings) (first_volume settings) history ≡ record { table = g.table; volume = g.volume }
  pub sent : sent_down [] history ≡ sent_in calls
  pub ports : AreForServices (first_table settings) (first_volume settings) history
  pub founded : All (IsFounded (asks_in calls) history) (told_in calls)

-- every guard has one
abbrev pub GuardsHaveHistory : Type 0
GuardsHaveHistory =
    (settings : Settings) (calls : List Call) (g : State) → Lead calls (begun settings) g
    → (history : List FilterEntry) × IsHistoryOf settings calls g history

-- Events, one after another: what is told, and what is sent to the service.
use Rattle.std.specs.Prelude.{ℕ, List, [], ◌∷◌, ◌++◌, Result, Ok, Err, option_to_list}
use Rattle.av_large.specs.Calls.{Turn, begun_by, brought_by, ended_by, greeted_with, heard, late, left_by, lost}
use Rattle.av_large.specs.State.{State, Step, quiet}
use Rattle.av_large.specs.declared.answer.Told.{Told}
use Rattle.av_large.specs.declared.content.Ending.{Ending}
use Rattle.av_large.specs.declared.content.ServicePresence.{ServicePresence}
use Rattle.av_large.specs.declared.fault.BeginFault.{BeginFault}
use Rattle.av_large.specs.declared.fault.Unwelcome.{Unwelcome}
use Rattle.av_parts.specs.Orders.{Order}
use Rattle.av_parts.specs.declared.word.Word.{Word}

-- an event: a call with what it was given
pub data Event : Type 0 where
  Greets : (floor version : ℕ) → Event
  Begin : (service : ServicePresence) (client tag most : ℕ) → Event
  Bring : (client : ℕ) (some : List ℕ) → Event
  End : (client : ℕ) (ending : Ending) → Event
  Hears : (floor : ℕ) (word : Word) → Event
  IsLate : (client : ℕ) → Event
  Leaves : (client : ℕ) → Event
  Loses : Event

-- a refused call is no step: nothing happens
abbrev pub greeted : State → Result State Unwelcome → Step
greeted g (Ok new) = quiet new
greeted g (Err why) = quiet g

abbrev pub begun : State → Result Step BeginFault → Step
begun g (Ok step) = step
begun g (Err why) = quiet g

abbrev pub turned : State → Turn → Step
turned g (Ok (told, new)) = record { state = new; told = option_to_list told; orders = [] }
turned g (Err why) = quiet g

-- what an event does
unfoldable pub step_of : State → Event → Step
step_of g (Greets floor version) = greeted g (greeted_with g floor version)
step_of g (Begin service client tag most) = begun g (begun_by g service client tag most)
step_of g (Bring client some) = brought_by g client some
step_of g (End client ending) = ended_by g client ending
step_of g (Hears floor w) = turned g (heard g floor w)
step_of g (IsLate client) = late g client
step_of g (Leaves client) = left_by g client
step_of g Loses = lost g

-- the state that events lead to
unfoldable pub state_after : State → List Event → State
state_after g [] = g
state_after g (e ∷ es) = state_after (step_of g e).state es

-- what they tell
unfoldable pub told_in : State → List Event → List Told
told_in g [] = []
told_in g (e ∷ es) = (step_of g e).told ++ told_in (step_of g e).state es

-- what they send to the service
unfoldable pub orders_in : State → List Event → List Order
orders_in g [] = []
orders_in g (e ∷ es) = (step_of g e).orders ++ orders_in (step_of g e).state es

-- What each event does.
use Rattle.std.specs.Prelude.{ℕ, ◌≡◌, ◌+◌, ◌-◌, ◌^◌, ◌==◌, ◌&&◌, Bool, true, false, nat_le, nat_lt, List, [], ◌∷◌, length, is_some, map, Option, None, Some, Result, Ok, Err, IsOk, if◌then◌else◌}
use Rattle.av_asks.specs.declared.large_answer.LargeCause.TheVariants.{AskAgain, NoParts}
use Rattle.av_asks.specs.declared.large_answer.LargeCause.TheVariants as lacks
use Rattle.av_base.specs.declared.cause.Cause.TheVariants.{Busy, NotConnected, PortDisconnected, TimedOut}
use Rattle.av_base.specs.declared.refusal.Refusal.{Refusal}
use Rattle.av_base.specs.declared.refusal.Refusal.TheVariants.{Fault, NoMemory}
use Rattle.av_large.specs.State.{State, Step, answers, forget, others, quiet, tell, theirs}
use Rattle.av_large.specs.declared.answer.Answer.{Answer}
use Rattle.av_large.specs.declared.answer.Answer.TheVariants.{Granted, Infected, Lacks, Unjudged}
use Rattle.av_large.specs.declared.answer.Begun.{Begun}
use Rattle.av_large.specs.declared.answer.Begun.TheVariants.{Answered, Sent}
use Rattle.av_large.specs.declared.answer.Told.{Told}
use Rattle.av_large.specs.declared.content.Content.{Content}
use Rattle.av_large.specs.declared.content.Ending.{Ending}
use Rattle.av_large.specs.declared.content.Ending.TheVariants.{Whole, GivenUp}
use Rattle.av_large.specs.declared.content.ServicePresence.{ServicePresence}
use Rattle.av_large.specs.declared.content.ServicePresence.TheVariants.{Connected, Away}
use Rattle.av_large.specs.declared.fault.BeginFault.{BeginFault}
use Rattle.av_large.specs.declared.fault.BeginFault.TheVariants.{NumbersSpent, Within}
use Rattle.av_large.specs.declared.fault.Unwelcome.{Unwelcome}
use Rattle.av_large.specs.declared.fault.Unwelcome.TheVariants.{Count, NotEnded, NotGiven, Older, PastEnd, Twice}
use Rattle.av_parts.specs.Judge.{at, with, without}
use Rattle.av_parts.specs.Orders.{Order, Begins, Brings, Ends, Drops}
use Rattle.av_parts.specs.declared.word.Unjudged.TheVariants.{Full, Newer}
use Rattle.av_parts.specs.declared.word.Word.{Word}
use Rattle.av_parts.specs.declared.word.Word.TheVariants as word

-- ---- the second connection

-- the service greets at its second connection, with a version that is not below the guard's floor
abbrev pub greeted_with : State → ℕ → ℕ → Result State Unwelcome
greeted_with g floor version = if g.takes then Err Twice else (if nat_lt version floor then Err Older else Ok (record g { takes = true }))

-- A connection of the service is lost, and the second one with the first: each content has no verdict to wait for.
abbrev pub all_lost : List (ℕ × Content) → List Told
all_lost held = map (λ e. tell e.1 (Unjudged PortDisconnected)) held

abbrev pub lost : State → Step
lost g = record { state = record g { takes = false; held = [] }; told = all_lost g.held; orders = [] }

-- ---- what clients send

-- why a content can't be sent on, if it can't
abbrev pub not_taken : ServicePresence → Bool → Option Answer
not_taken Away takes = Some (Unjudged NotConnected)
not_taken Connected false = Some (Lacks NoParts)
not_taken Connected true = None

-- a content of which nothing came
abbrev pub empty : ℕ → ℕ → ℕ → Content
empty client tag most = record { client = client; tag = tag; most = most; count = 0; ended = false }

-- the state in which a content is held under a new number
abbrev pub opened : State → Content → State
opened g c = record g { last = g.last + 1; held = with g.held (g.last + 1) c; current = with g.current c.client (g.last + 1) }

-- a content begins: it is answered at once, or it has a new number
abbrev pub begins : State → Content → Option Answer → Result Step BeginFault
begins g c (Some answer) = Ok (record { state = record g { current = with g.current c.client 0 }; told = tell c answer ∷ []; orders = [] })
begins g c None =
    if g.last == 2 ^ 64 - 1 then Err NumbersSpent else Ok (record { state = opened g c; told = []; orders = Begins (g.last + 1) ∷ [] })

-- a client begins a content of at most so many bytes
abbrev pub begun_by : State → ServicePresence → ℕ → ℕ → ℕ → Result Step BeginFault
begun_by g service client tag most =
    if is_some (at g.current client) then Err Within else begins g (empty client tag most) (not_taken service g.takes)

-- some of a content comes; of one that was answered it is passed over
abbrev pub grows : State → ℕ → List ℕ → Option Content → Step
grows g n some None = quiet g
grows g n some (Some c) =
    if nat_lt c.most (c.count + length some) then answers g n c (Lacks lacks.TooLarge) (Drops n ∷ []) else
    record { state = record g { held = with g.held n (record c { count = c.count + length some }) }; told = []; orders = Brings n some ∷ [] }

abbrev pub brings : State → List ℕ → Option ℕ → Step
brings g some None = quiet g
brings g some (Some n) = grows g n some (at g.held n)

-- a client sends some of the content that it is within; no bytes are nothing
abbrev pub brought_by : State → ℕ → List ℕ → Step
brought_by g client [] = quiet g
brought_by g client (b ∷ some) = brings g (b ∷ some) (at g.current client)

-- a content is whole, or given up
abbrev pub ends : State → ℕ → Ending → Option Content → Step
ends g n ending None = quiet g
ends g n Whole (Some c) = record { state = record g { held = with g.held n (record c { ended = true }) }; told = []; orders = Ends n c.count ∷ [] }
ends g n GivenUp (Some c) = answers g n c (Lacks lacks.GivenUp) (Drops n ∷ [])

abbrev pub ends_at : State → Ending → Option ℕ → Step
ends_at g ending None = quiet g
ends_at g ending (Some n) = ends g n ending (at g.held n)

-- a client ends the content that it is within, and is within none
abbrev pub ended_by : State → ℕ → Ending → Step
ended_by g client ending = ends_at (record g { current = without g.current client }) ending (at g.current client)

-- a client sends nothing of its content for too long
abbrev pub expires : State → ℕ → Option Content → Step
expires g n None = quiet g
expires g n (Some c) = answers g n c (Unjudged TimedOut) (Drops n ∷ [])

abbrev pub expires_at : State → Option ℕ → Step
expires_at g None = quiet g
expires_at g (Some n) = expires g n (at g.held n)

abbrev pub late : State → ℕ → Step
late g client = expires_at g (at g.current client)

-- a client leaves: each of its contents is dropped, and nobody is told
abbrev pub left_by : State → ℕ → Step
left_by g client = record {
  state = record g { held = others client g.held; current = without g.current client };
  told = [];
  orders = map (λ e. Drops e.0) (theirs client g.held);
}

-- ---- what the service says of a content

-- the service owes the verdict of a content whose end was sent
abbrev pub is_owed : Option Content → Bool
is_owed None = false
is_owed (Some c) = c.ended

-- the number of a word
abbrev pub number_of : Word → ℕ
number_of (word.Clean n version count) = n
number_of (word.Infected n version index end_at) = n
number_of (word.None n why) = n

-- why this may not be said of a content, if it may not
abbrev pub unwelcome : Content → Word → Option Unwelcome
unwelcome c (word.Clean n version count) = if c.ended then (if count == c.count then None else Some Count) else Some NotEnded
unwelcome c (word.Infected n version index end_at) = if nat_lt c.count end_at then Some PastEnd else None
unwelcome c (word.None n why) = None

-- a verdict counts under exactly the guard's floor; else the content is to be asked about again
abbrev pub if_present : ℕ → ℕ → Answer → Answer
if_present floor version answer = if version == floor then answer else Lacks AskAgain

-- what a word answers
abbrev pub answer_of : ℕ → Word → Answer
answer_of floor (word.Clean n version count) = if_present floor version (Granted version)
answer_of floor (word.Infected n version index end_at) = if_present floor version (Infected version index end_at)
answer_of floor (word.None n Full) = Unjudged Busy
answer_of floor (word.None n Newer) = Lacks AskAgain

-- what is told, and the state after a word; or why the second connection is to be closed
abbrev pub Turn : Type 0
Turn = Result (Option Told × State) Unwelcome

abbrev pub decides : State → ℕ → Word → Content → Option Unwelcome → Turn
decides g floor w c (Some why) = Err why
decides g floor w c None = Ok (Some (tell c (answer_of floor w)), forget g (number_of w))

-- a word of a content that was answered, or whose client left, is passed over; one of a number that was never given may not come
abbrev pub heard_of : State → ℕ → Word → Option Content → Turn
heard_of g floor w None = if nat_le 1 (number_of w) && nat_le (number_of w) g.last then Ok (None, g) else Err NotGiven
heard_of g floor w (Some c) = decides g floor w c (unwelcome c w)

abbrev pub heard : State → ℕ → Word → Turn
heard g floor w = heard_of g floor w (at g.held (number_of w))

-- ---- what a call's result says

-- what a content that begins is told, and what is sent of it
abbrev pub told_by : Begun → List Told
told_by (Sent n) = []
told_by (Answered told) = told ∷ []

abbrev pub orders_by : Begun → List Order
orders_by (Sent n) = Begins n ∷ []
orders_by (Answered told) = []

abbrev pub BeginsAs : Result Step BeginFault → State → Begun → Type 0
BeginsAs (Ok step) new begun = (new ≡ step.state) × (told_by begun ≡ step.told) × (orders_by begun ≡ step.orders)
BeginsAs (Err f) new begun = ⊥

-- a beginning did this, or its first fault refused it; memory is refused only where no fault is, and a refusal changes nothing
abbrev pub BeginsBy : State → State → Result Begun (Refusal BeginFault) → Result Step BeginFault → Type 0
BeginsBy old new (Ok begun) wanted = BeginsAs wanted new begun
BeginsBy old new (Err (Fault f)) wanted = (wanted ≡ Err f) × (new ≡ old)
BeginsBy old new (Err NoMemory) wanted = IsOk wanted × (new ≡ old)

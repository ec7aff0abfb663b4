-- What would have to happen for no open to wait any more, and what holds when it did.
use Rattle.std.specs.Prelude.{ℕ, ◌≡◌, ◌≢◌, zero, suc, ◌+◌, ◌*◌, ◌≤◌, Bool, true, false, min, List, [], ◌∷◌, ◌++◌, length, reverse, Option, Some, None, is_some, if◌then◌else◌}
use Rattle.std.specs.Int.{div_ceil}
use Rattle.std.specs.List.{AllByRecursion}
use Rattle.av_base.specs.Among.{Among}
use Rattle.av_base.specs.declared.cause.Cause.TheVariants.{Infected}
use Rattle.av_base.specs.declared.message_id.MessageId.{MessageId}
use Rattle.av_base.specs.declared.port.Port.{Port}
use Rattle.av_base.specs.declared.port.Port.TheVariants.{One, Two}
use Rattle.av_base.specs.declared.verdict.Verdict.{Verdict}
use Rattle.av_filter_table.specs.Answering.{judged, present_bytes, present_generation}
use Rattle.av_filter_table.specs.Table.{on_port}
use Rattle.av_filter_table.specs.declared.pended.Pended.{Pended}
use Rattle.av_filter_table.specs.declared.question.Question.{Question}
use Rattle.av_frame.specs.Message.{Letter}
use Rattle.av_frame.specs.declared.message.Body.TheVariants.{Reply}
use Rattle.av_frame.specs.declared.message.Body.{Body}
use Rattle.av_pend.specs.declared.answer.Answer.{Answer}
use Rattle.av_pend.specs.declared.answer.Answer.TheVariants.{Granted, Unscanned, Denied}
use Rattle.av_service.specs.Scanning.{most_leases}
use Rattle.av_sigset.specs.Catalogue.{latest}
use Rattle.av_history.specs.Held.{asked_by}
use Rattle.av_history.specs.Past.{IsVerdictOf, past}
use Rattle.av_history.specs.World.{WorldState, after, desk_of, given_at, member}
use Rattle.av_history.specs.declared.event.Event.{Event}
use Rattle.av_history.specs.declared.event.Event.TheVariants.{Down, Up, Run, Connect, DisconnectService}
use Rattle.av_history.specs.declared.given.Given.{Given}

-- the world after these events, the first of them first
unfoldable pub onward : List Event → WorldState → WorldState
onward [] w = w
onward (e ∷ es) w = onward es (after w e)

-- how many messages were sent down before the scan of an id
unfoldable pub before_scan : MessageId → List Letter → ℕ
before_scan id [] = 0
before_scan id (m ∷ ms) = if is_some (asked_by id m) then 0 else suc (before_scan id ms)

-- the last message up comes
abbrev pub last_up : WorldState → Event
last_up w = Up (length w.up)

-- one round: the last message up comes, the message comes that this sends down, and the work is run that is lent for that
abbrev pub round : WorldState → List Event
round w = Up (length w.up) ∷ Down (suc (length w.down)) ∷ Run (suc (length w.works)) ∷ []

-- these fields are a reply's
abbrev pub is_reply_body : Body → Bool
is_reply_body (Reply id outcome) = true
is_reply_body _ = false

-- the message is a reply
abbrev pub is_reply : Option Letter → Bool
is_reply None = false
is_reply (Some m) = is_reply_body m.body

-- rounds, up to the one after which the last message up is a reply, but n at most; and that message comes
unfoldable pub to_reply : ℕ → WorldState → List Event
to_reply zero w = last_up w ∷ []
to_reply (suc n) w = if is_reply (member w.up (length w.up)) then last_up w ∷ [] else round w ++ to_reply n (onward (round w) w)

-- how many chunks the content is that a question is about
abbrev pub chunks : WorldState → Question → ℕ
chunks w q = div_ceil (length (present_bytes w.volume q.stream)) (min (desk_of w q.port).limits.chunk w.table.limits.chunk)

-- one question: its scan comes, and each read, chunk and work that follows, and the reply
abbrev pub scan_comes : WorldState → Question → Event
scan_comes w q = Down (suc (before_scan q.id w.down))

-- the deliveries and runs that bring the verdict of a question
abbrev pub settling : WorldState → Question → List Event
settling w q = scan_comes w q ∷ to_reply (chunks w q) (after w (scan_comes w q))

-- these questions, one after another
unfoldable pub settling_all : List Question → WorldState → List Event
settling_all [] w = []
settling_all (q ∷ qs) w = settling w q ++ settling_all qs (onward (settling w q) w)

-- both services connect anew, which drops their jobs
abbrev pub reconnecting : List Event
reconnecting = DisconnectService One ∷ Connect One ∷ DisconnectService Two ∷ Connect Two ∷ []

-- where an open waits, both services connect anew, and each question is settled in the order of their numbers
abbrev pub finishing_of : WorldState → List Pended → List Event
finishing_of w [] = []
finishing_of w (p ∷ ps) = reconnecting ++ settling_all w.table.questions (onward reconnecting w)

-- the events that answer each open that waits
unfoldable pub finishing : WorldState → List Event
finishing w = finishing_of w w.table.pended

-- the world after them
abbrev pub at_last : WorldState → WorldState
at_last w = onward (finishing w) w

-- ---- when it can be

-- how many chunks the contents of some questions are together
abbrev pub all_chunks : WorldState → List Question → ℕ
all_chunks w [] = 0
all_chunks w (q ∷ qs) = chunks w q + all_chunks w qs

-- some open waits
abbrev pub IsWaiting : WorldState → Type 0
IsWaiting w = w.table.pended ≢ []

-- a version was published that an open may be granted under, and each service has a lease left for each chunk that it is asked
-- about
pub record CanFinish (w : WorldState) : Type 0 where
  pub reached : w.table.floor ≤ latest w.sets
  pub leases : (port : Port) → (desk_of w port).last_lease + all_chunks w (on_port port w.table.questions) ≤ most_leases

-- ---- what holds after it

-- a message comes, a work is run, or a service connects anew: no timeout, no disconnection of the filter, no restart, no
-- change of a file
abbrev pub IsCarrying : Event → Type 0
IsCarrying (Down place) = Unit {0}
IsCarrying (Up place) = Unit {0}
IsCarrying (Run place) = Unit {0}
IsCarrying (Connect port) = Unit {0}
IsCarrying (DisconnectService port) = Unit {0}
IsCarrying _ = ⊥

-- an open is among the answers with the verdict of the present content of its stream under the latest set: granted, or denied
-- for infection
pub record GetsVerdict (w : WorldState) (answers : List Given) (p : Pended) : Type 0 where
  pub verdict : Verdict
  pub right : IsVerdictOf (past w.history) p.held.stream (present_generation w.volume p.held.stream) (latest w.sets) verdict
  pub event : ℕ
  pub given : Among (given_at event (judged verdict (present_generation w.volume p.held.stream) (latest w.sets) p.held)) answers

-- Each of the events happens, and carries; they are four, two a question, and three a chunk, at most. Then no open waits, the
-- volume and the sets are what they were, each open that waited got the verdict of its stream's content, and no other answer
-- was given.
pub record Finishes (w : WorldState) : Type 0 where
  pub happens : (at_last w).history ≡ reverse (finishing w) ++ w.history
  pub carries : AllByRecursion IsCarrying (finishing w)
  pub short : length (finishing w) ≤ 4 + 2 * length w.table.questions + 3 * all_chunks w w.table.questions
  pub waits : (at_last w).table.pended ≡ []
  pub volume : (at_last w).volume ≡ w.volume
  pub sets : (at_last w).sets ≡ w.sets
  pub answers : List Given
  pub given : (at_last w).answers ≡ w.answers ++ answers
  pub answered : AllByRecursion (GetsVerdict w answers) w.table.pended
  pub count : length answers ≡ length w.table.pended

-- ---- that a version must be published

-- let through unscanned, or denied for another cause than infection
abbrev pub IsNoVerdict : Answer → Type 0
IsNoVerdict (Granted open_id least stream generation version) = ⊥
IsNoVerdict (Unscanned open_id stream generation cause) = Unit {0}
IsNoVerdict (Denied open_id cause) = cause ≢ Infected

-- from w to a later world no open got a verdict
pub record GaveNoVerdict (w later : WorldState) : Type 0 where
  pub answers : List Given
  pub given : later.answers ≡ w.answers ++ answers
  pub without : AllByRecursion (λ a. IsNoVerdict a.answer) answers

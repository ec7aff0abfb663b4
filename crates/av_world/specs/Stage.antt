-- A stage: all of a world but its history. Its value is that of a world of which the history is empty.
use Rattle.std.specs.Prelude.{ℕ, ◌≡◌, ◌≤◌, ◌+◌, ◌∷◌, length, List, Option, None, Some, Ok}
use Rattle.av_filter.specs.declared.call.FilterCall.{FilterCall}
use Rattle.av_filter.specs.declared.call.FilterCall.TheVariants as call
use Rattle.av_filter.specs.declared.out.Out.{Out}
use Rattle.av_store.specs.Store.{Store}
use Rattle.av_history.specs.World.{Outcome, WorldState, changed_line, step_of}
use Rattle.av_history.specs.declared.event.Event.{Event}
use Rattle.av_history.specs.declared.report.Line.{Line}
use Rattle.av_history.specs.declared.report.Line.TheVariants.{Silent, Created, Removed, Booted}
use Rattle.av_history.specs.declared.report.Report.{Report}

-- the world at a history
abbrev pub at_history : List Event → WorldState → WorldState
at_history h s = record s { history = h }

-- where a report is given the outcome that is wanted has come, behind this history; else nothing has changed
abbrev pub Takes : WorldState → WorldState → List Event → Event → Outcome → Option Report → Type 0
Takes old new h e wanted None = new ≡ old
Takes old new h e wanted (Some report) = wanted ≡ Ok (report, at_history (e ∷ h) new)

-- an event happened as it is to, or nothing has changed
abbrev pub Happens : WorldState → WorldState → List Event → Event → Option Report → Type 0
Happens old new h e = Takes old new h e (step_of (at_history h old) e)

-- ---- the filter's part

-- what is told of the volume after it
abbrev pub line_after : FilterCall → Store → Line
line_after (call.Create name) v = Created v.last
line_after (call.Write s offset bytes) v = changed_line s v
line_after (call.Cut s n) v = changed_line s v
line_after (call.Remove s) v = Removed s
line_after call.Restart v = Booted v.boot
line_after other v = Silent

-- so many messages at most, and no more than one answer beside those to the n opens that wait
pub record IsSmallOut (most : ℕ) (n : ℕ) (out : Out) : Type 0 where
  pub messages : length out.messages.items ≤ most
  pub answers : length out.answers.items ≤ n + 1

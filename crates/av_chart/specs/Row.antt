-- What a step has on its row, and how high the row is.
use Rattle.std.specs.Prelude.{ℕ, ◌+◌, ◌-◌, ◌*◌, ◌||◌, max, Bool, true, false, nat_lt, Option, None, Some, is_some, List, if◌then◌else◌}
use Rattle.std.specs.List.{between}
use Rattle.av_filter.specs.declared.note.Note.TheVariants as filter
use Rattle.av_service.specs.declared.note.ServiceNote.TheVariants as service
use Rattle.av_history.specs.declared.report.EventNote.{EventNote}
use Rattle.av_history.specs.declared.report.EventNote.TheVariants.{Filter, Service}
use Rattle.av_chart.specs.Number.{capped}
use Rattle.av_chart.specs.Spot.{within}
use Rattle.av_chart.specs.declared.happened.Arrival.{Arrival}
use Rattle.av_chart.specs.declared.happened.Said.{Said}
use Rattle.av_chart.specs.declared.happened.Said.TheVariants as said
use Rattle.av_chart.specs.declared.happened.Span.{Span}
use Rattle.av_chart.specs.declared.happened.Step.{Step}

-- how many places a span has
abbrev pub count : Span → ℕ
count s = s.to - s.from

-- what stands in a list at the places of a span
abbrev pub spanned : {A : Type 0} → Span → List A → List A
spanned s xs = between s.from s.to xs

-- the step of a line that has done nothing
abbrev pub silent : ℕ → Span → Step
silent line command =
    record {
      line = line;
      command = command;
      refused = None;
      volume = None;
      asks = None;
      filter = None;
      service = None;
      note = said.Quiet;
      answers = record { from = 0; to = 0 };
      down = record { from = 0; to = 0 };
      up = record { from = 0; to = 0 };
      arrival = None;
      lent = None;
      ran = None;
    }

-- what asks the filter, or befalls it, has a line before the answers
abbrev pub asked_lines : Step → ℕ
asked_lines s = if is_some s.asks || is_some s.filter then 1 else 0

-- how many messages a step sent
abbrev pub sent_by : Step → ℕ
sent_by s = capped (count s.down + count s.up)

-- how much lower than an arrival so many messages leave
abbrev pub below_arrival : Option Arrival → ℕ → ℕ
below_arrival None sent = 0
below_arrival (Some a) sent = if nat_lt 0 sent then if a.is_far then 17 else 11 else 0

-- how much lower what a step sent stands than what arrives in it
abbrev pub late_of : Step → ℕ
late_of s = below_arrival s.arrival (sent_by s)

-- how high so many lines are
abbrev pub lines_high : ℕ → ℕ
lines_high n = within (n * 19)

-- the height of a row: a line at least, its lines between opener and filter, and its messages
abbrev pub height_of : Step → ℕ
height_of s = max (max (lines_high (capped (asked_lines s + count s.answers))) 19) (within (lines_high (sent_by s) + late_of s))

-- the note that has this word
abbrev pub note_of : Said → EventNote
note_of said.Quiet = Filter filter.Quiet
note_of said.Welcome = Filter filter.Welcome
note_of said.NoWaiter = Filter filter.NoWaiter
note_of said.Ignored = Filter filter.Ignored
note_of said.NoStream = Filter filter.NoStream
note_of said.WrongVolume = Filter filter.WrongVolume
note_of said.Connected = Filter filter.Connected
note_of said.OldVersion = Filter filter.OldVersion
note_of said.Repeat = Service service.Repeat
note_of said.IgnoredByService = Service service.Ignored
note_of said.Orphan = Service service.Orphan

-- whether a note has a word
abbrev pub is_noted : Said → Bool
is_noted said.Quiet = false
is_noted _ = true

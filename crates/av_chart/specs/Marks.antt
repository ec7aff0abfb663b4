-- What a step is marked with on each lane, by its event and its report alone.
use Rattle.std.specs.Prelude.{ℕ, ◌-◌, nat_lt, Bool, true, false, List, [], ◌∷◌, Option, None, Some, if◌then◌else◌}
use Rattle.std.specs.List.{between}
use Rattle.av_filter.specs.declared.note.Note.{Note as FilterNote}
use Rattle.av_filter.specs.declared.note.Note.TheVariants as filter
use Rattle.av_pend.specs.Pend.{open_of}
use Rattle.av_service.specs.declared.note.ServiceNote.{ServiceNote}
use Rattle.av_service.specs.declared.note.ServiceNote.TheVariants as service
use Rattle.av_history.specs.World.{WorldState}
use Rattle.av_history.specs.declared.event.Event.{Event}
use Rattle.av_history.specs.declared.event.Event.TheVariants as event
use Rattle.av_history.specs.declared.given.Given.{Given}
use Rattle.av_history.specs.declared.report.Judged.{Judged}
use Rattle.av_history.specs.declared.report.Line.{Line}
use Rattle.av_history.specs.declared.report.Line.TheVariants as line
use Rattle.av_history.specs.declared.report.EventNote.{EventNote}
use Rattle.av_history.specs.declared.report.EventNote.TheVariants.{Filter, Service}
use Rattle.av_history.specs.declared.report.Report.{Report}
use Rattle.av_chart.specs.declared.happened.Asks.{Asks}
use Rattle.av_chart.specs.declared.happened.Asks.TheVariants as asks
use Rattle.av_chart.specs.declared.happened.FilterMark.{FilterMark}
use Rattle.av_chart.specs.declared.happened.FilterMark.TheVariants as on_filter
use Rattle.av_chart.specs.declared.happened.Said.{Said}
use Rattle.av_chart.specs.declared.happened.Said.TheVariants as said
use Rattle.av_chart.specs.declared.happened.ServiceMark.{ServiceMark}
use Rattle.av_chart.specs.declared.happened.ServiceMark.TheVariants as on_service
use Rattle.av_chart.specs.declared.happened.VolumeMark.{VolumeMark}
use Rattle.av_chart.specs.declared.happened.VolumeMark.TheVariants as on_volume
use Rattle.av_output.specs.declared.message.Direction.TheVariants.{Down, Up}
use Rattle.av_chart.specs.declared.happening.marks.Deed.{Deed}
use Rattle.av_chart.specs.declared.happening.marks.Deed.TheVariants as deed

-- what a picture has to know of an event besides its report
abbrev pub deed_of : Event → Deed
deed_of (event.Publish version patterns) = deed.Other
deed_of (event.Create name) = deed.Other
deed_of (event.Write name offset bytes) = deed.Other
deed_of (event.Cut name n) = deed.Other
deed_of (event.Remove name) = deed.Other
deed_of (event.Open name least) = deed.Open
deed_of (event.Cleanup name) = deed.Cleanup
deed_of (event.Down place) = deed.Deliver Down place
deed_of (event.Up place) = deed.Deliver Up place
deed_of (event.Run place) = deed.Run place
deed_of (event.Timeout seq) = deed.Timeout
deed_of (event.Connect port) = deed.Other
deed_of (event.DisconnectFilter port) = deed.DisconnectFilter port
deed_of (event.DisconnectService port) = deed.DisconnectService port
deed_of event.RestartFilter = deed.RestartFilter
deed_of (event.RestartService port) = deed.RestartService port

-- the word of a note, if it has one
abbrev pub said_by_filter : FilterNote → Said
said_by_filter filter.Quiet = said.Quiet
said_by_filter (filter.Submitted open_id) = said.Quiet
said_by_filter filter.Welcome = said.Welcome
said_by_filter filter.NoWaiter = said.NoWaiter
said_by_filter filter.Ignored = said.Ignored
said_by_filter filter.NoStream = said.NoStream
said_by_filter filter.WrongVolume = said.WrongVolume
said_by_filter filter.Connected = said.Connected
said_by_filter filter.OldVersion = said.OldVersion

abbrev pub said_by_service : ServiceNote → Said
said_by_service service.Quiet = said.Quiet
said_by_service service.Repeat = said.Repeat
said_by_service service.Ignored = said.IgnoredByService
said_by_service service.Orphan = said.Orphan

abbrev pub said_of : EventNote → Said
said_of (Filter note) = said_by_filter note
said_of (Service note) = said_by_service note

-- whether what arrived brings nothing any more
abbrev pub is_spent : Said → Bool
is_spent said.NoWaiter = true
is_spent said.Ignored = true
is_spent said.WrongVolume = true
is_spent said.Connected = true
is_spent said.OldVersion = true
is_spent said.Repeat = true
is_spent said.IgnoredByService = true
is_spent _ = false

-- the number under which an open was taken, or 0
abbrev pub filter_id : FilterNote → ℕ
filter_id (filter.Submitted open_id) = open_id
filter_id _ = 0

abbrev pub submitted_id : EventNote → ℕ
submitted_id (Filter note) = filter_id note
submitted_id (Service note) = 0

-- the number that an open was given: that of its answer, or the one under which it waits
abbrev pub asked_id : List Given → EventNote → ℕ
asked_id [] note = submitted_id note
asked_id (g ∷ gs) note = open_of g.answer

-- what the opener asks
abbrev pub asks_of : Deed → List Given → EventNote → Option Asks
asks_of deed.Open given note = Some (asks.Open (asked_id given note))
asks_of deed.Cleanup given note = Some asks.Cleanup
asks_of _ given note = None

-- what befalls the filter
abbrev pub filter_deed : Deed → Option FilterMark
filter_deed deed.Timeout = Some on_filter.Timeout
filter_deed (deed.DisconnectFilter port) = Some (on_filter.ServiceLost port)
filter_deed _ = None

abbrev pub filter_mark : Deed → Line → Option FilterMark
filter_mark what (line.Booted boot) = Some (on_filter.Boot boot)
filter_mark what _ = filter_deed what

-- what befalls the service
abbrev pub service_deed : Deed → Option ServiceMark
service_deed (deed.DisconnectService port) = Some (on_service.FilterLost port)
service_deed (deed.RestartService port) = Some (on_service.Restart port)
service_deed _ = None

abbrev pub service_mark : Deed → Line → Option ServiceMark
service_mark what (line.Published version signatures) = Some (on_service.Set version signatures)
service_mark what _ = service_deed what

-- what befalls the stream that a command names
abbrev pub volume_mark : Line → Option VolumeMark
volume_mark (line.Created stream) = Some on_volume.Created
volume_mark (line.Changed stream generation size) = Some (on_volume.Changed generation size)
volume_mark (line.Removed stream) = Some on_volume.Removed
volume_mark _ = None

abbrev pub judged_mark : Judged → VolumeMark
judged_mark j = on_volume.Judged j.generation j.version j.verdict

-- the piece of work that was run, by its place from 0
abbrev pub ran_of : Deed → Option ℕ
ran_of (deed.Run place) = Some (place - 1)
ran_of _ = None

-- the newest that was lent
abbrev pub lent_of : Report → Option ℕ
lent_of r = if nat_lt r.before.works r.after.works then Some (r.after.works - 1) else None

-- the answers of a step
abbrev pub given_in : Report → WorldState → List Given
given_in r w = between r.before.answers r.after.answers w.answers

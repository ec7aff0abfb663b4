-- The line of a note.
use Rattle.std.specs.Prelude.{ℕ, List, [], ◌∷◌, Option, None, Some, codes}
use Rattle.av_base.specs.Part.{spelt}
use Rattle.av_filter.specs.declared.note.Note.{Note as FilterNote}
use Rattle.av_filter.specs.declared.note.Note.TheVariants as filter
use Rattle.av_service.specs.declared.note.ServiceNote.{ServiceNote}
use Rattle.av_service.specs.declared.note.ServiceNote.TheVariants as service
use Rattle.av_history.specs.declared.report.EventNote.{EventNote}
use Rattle.av_history.specs.declared.report.EventNote.TheVariants.{Filter, Service}

-- the word of a note of the filter, where it has one: that an open waits is told by its own line
abbrev pub filter_word : FilterNote → Option (List ℕ)
filter_word filter.Quiet = None
filter_word (filter.Submitted open_id) = None
filter_word filter.Welcome = Some (codes "Welcome")
filter_word filter.NoWaiter = Some (codes "NoWaiter")
filter_word filter.Ignored = Some (codes "Ignored")
filter_word filter.NoStream = Some (codes "NoStream")
filter_word filter.WrongVolume = Some (codes "WrongVolume")
filter_word filter.Connected = Some (codes "Connected")
filter_word filter.OldVersion = Some (codes "OldVersion")

-- and of the service
abbrev pub service_word : ServiceNote → Option (List ℕ)
service_word service.Quiet = None
service_word service.Repeat = Some (codes "Repeat")
service_word service.Ignored = Some (codes "Ignored")
service_word service.Orphan = Some (codes "Orphan")

-- the word of a note that is printed
abbrev pub note_word : EventNote → Option (List ℕ)
note_word (Filter note) = filter_word note
note_word (Service note) = service_word note

-- the line of this word, if there is one
abbrev pub noted : Option (List ℕ) → List ℕ
noted None = []
noted (Some word) = spelt (codes "note " ∷ word ∷ codes "\n" ∷ [])

-- the line of a note
abbrev pub note_text : EventNote → List ℕ
note_text note = noted (note_word note)

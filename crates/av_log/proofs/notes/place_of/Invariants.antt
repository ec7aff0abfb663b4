use Rattle.std.proofs.Common.{◌≡◌, ◌+◌, ◌++◌, drop, length, take}
use Rattle.av_log.specs.Notes.{note_of, others_of}
use Rattle.av_log.proofs.notes.place_of.Given as goal

-- none of the notes so far has the tag
abbrev pub invariant-notes : goal.invariant-notes
invariant-notes l = record {
  count : l.place + length l.rest ≡ length l.notes;
  left : drop l.place l.notes ≡ l.rest;
  note : note_of l.tag l.rest ≡ note_of l.tag l.notes;
  others : take l.place l.notes ++ others_of l.tag l.rest ≡ others_of l.tag l.notes;
}

abbrev pub decreases-notes : goal.decreases-notes
decreases-notes l = length l.rest

-- What a client asked about and was not answered yet.
use Rattle.std.specs.Prelude.{ℕ, ◌==◌, if◌then◌else◌, List, [], ◌∷◌, Option, None, Some}
use Rattle.av_log.specs.declared.notes.AskNote.{AskNote}

-- the first note of a tag
abbrev pub note_of : ℕ → List AskNote → Option AskNote
note_of tag [] = None
note_of tag (n ∷ notes) = if n.tag == tag then Some n else note_of tag notes

-- the others, in their order
abbrev pub others_of : ℕ → List AskNote → List AskNote
others_of tag [] = []
others_of tag (n ∷ notes) = if n.tag == tag then notes else n ∷ others_of tag notes

-- The objects of a step's own line, of a note, and of a judgement.
use Rattle.std.specs.Prelude.{ℕ, List, [], ◌∷◌, Option, None, Some, codes}
use Rattle.json.specs.Token.{Token}
use Rattle.av_json.specs.Member.{number_tokens, object_tokens, text_tokens}
use Rattle.av_base.specs.declared.verdict.Verdict.{Verdict}
use Rattle.av_base.specs.declared.verdict.Verdict.TheVariants.{Clean, Infected}
use Rattle.av_history.specs.declared.report.Judged.{Judged}
use Rattle.av_history.specs.declared.report.Line.{Line}
use Rattle.av_history.specs.declared.report.Line.TheVariants.{Silent, Published, Created, Changed, Removed, Booted}
use Rattle.av_history.specs.declared.report.EventNote.{EventNote}
use Rattle.av_output.specs.Text.Notes.{note_word}

-- what kind of thing an object tells
abbrev pub is : List ℕ → List Token
is kind = text_tokens (codes "is") kind

-- the object of a step's own line
abbrev pub line_tokens : Line → List Token
line_tokens Silent = []
line_tokens (Published version signatures) =
    object_tokens
    (is (codes "set") ∷ number_tokens (codes "version") version ∷ number_tokens (codes "signatures") signatures ∷ [])
line_tokens (Created stream) =
    object_tokens (is (codes "stream") ∷ number_tokens (codes "stream") stream ∷ number_tokens (codes "generation") 1 ∷ [])
line_tokens (Changed stream generation size) =
    object_tokens
    (is (codes "stream") ∷ number_tokens (codes "stream") stream ∷ number_tokens (codes "generation") generation
    ∷ number_tokens (codes "length") size ∷ [])
line_tokens (Removed stream) = object_tokens (is (codes "removed") ∷ number_tokens (codes "stream") stream ∷ [])
line_tokens (Booted boot) = object_tokens (is (codes "boot") ∷ number_tokens (codes "boot") boot ∷ [])

-- clean, or which signature ends where first, and what follows it
abbrev pub verdict_members : Verdict → List (List Token) → List (List Token)
verdict_members Clean last = text_tokens (codes "verdict") (codes "clean") ∷ last
verdict_members (Infected index end_at) last =
    text_tokens (codes "verdict") (codes "infected")
    ∷ number_tokens (codes "index") index ∷ number_tokens (codes "end") end_at ∷ last

-- the object of a verdict that was asked for
abbrev pub judged_tokens : Judged → List Token
judged_tokens j =
    object_tokens
    (is (codes "judge") ∷ number_tokens (codes "stream") j.stream ∷ number_tokens (codes "generation") j.generation
    ∷ number_tokens (codes "version") j.version ∷ verdict_members j.verdict [])

-- the object of this word, if there is one
abbrev pub noted_tokens : Option (List ℕ) → List Token
noted_tokens None = []
noted_tokens (Some word) = object_tokens (is (codes "note") ∷ text_tokens (codes "note") word ∷ [])

-- the object of a note
abbrev pub note_tokens : EventNote → List Token
note_tokens note = noted_tokens (note_word note)

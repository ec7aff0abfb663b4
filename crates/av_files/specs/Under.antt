-- The lines of a file under one of several sets: they name the set.
use Rattle.std.specs.Prelude.{ℕ, if◌then◌else◌, List, [], ◌∷◌, ◌++◌, Option, None, Some, codes}
use Rattle.json.specs.Token.{Token}
use Rattle.av_base.specs.Part.{spelt}
use Rattle.av_base.specs.declared.verdict.Verdict.{Verdict}
use Rattle.av_base.specs.declared.verdict.Verdict.TheVariants.{Clean, Infected}
use Rattle.av_json.specs.File.{named_object}
use Rattle.av_json.specs.Line.{object_line}
use Rattle.av_json.specs.Member.{named_tokens, number_tokens, text_tokens}
use Rattle.av_sigset.specs.Set.{NumberedSet}
use Rattle.av_status.specs.Tally.{has_line}
use Rattle.av_status.specs.declared.tally.Form.{Form}
use Rattle.av_status.specs.declared.tally.Form.TheVariants.{Lines, Json, ZeroEnded}
use Rattle.av_status.specs.declared.tally.Wishes.{Wishes}
use Rattle.av_files.specs.Quoted.{quoted}
use Rattle.av_files.specs.Scan.{is_shown, line_of, name_at, verdict_text}
use Rattle.av_files.specs.declared.scan.Scanned.{Scanned}

-- the end of a line that names its set
abbrev pub set_end : List ℕ → List ℕ → List ℕ
set_end set_name end = spelt (codes " set " ∷ set_name ∷ end ∷ [])

-- what an object says of a verdict
abbrev pub verdict_members : NumberedSet → Verdict → List (List Token)
verdict_members set Clean = text_tokens (codes "verdict") (codes "clean") ∷ number_tokens (codes "version") set.version ∷ []
verdict_members set (Infected index end_at) =
    text_tokens (codes "verdict") (codes "infected") ∷ number_tokens (codes "version") set.version
    ∷ number_tokens (codes "index") index ∷ named_tokens (codes "name") (codes "name_hex") (name_at set index)
    ∷ number_tokens (codes "end") end_at ∷ []

-- the object of a file, with the name of its set as the last member
abbrev pub tokens_under : List ℕ → NumberedSet → List ℕ → Verdict → List Token
tokens_under set_name set file v = named_object file (verdict_members set v ++ text_tokens (codes "set") set_name ∷ [])

-- the line of a file that names the set
abbrev pub line_naming : Form → List ℕ → NumberedSet → Scanned → List ℕ
line_naming Lines set_name set s = verdict_text set (quoted s.name.now) s.verdict (set_end (quoted set_name) (codes "\n"))
line_naming Json set_name set s = object_line (tokens_under set_name set s.name.now s.verdict)
line_naming ZeroEnded set_name set s = verdict_text set s.name.now s.verdict (set_end set_name (0 ∷ []))

-- the line of a file under a set, which is named where that is wanted
abbrev pub line_under : Form → Option (List ℕ) → NumberedSet → Scanned → List ℕ
line_under form None set s = line_of form set s
line_under form (Some set_name) set s = line_naming form set_name set s

-- the same, where the file has a line
abbrev pub shown_under : Wishes → Option (List ℕ) → NumberedSet → Scanned → List ℕ
shown_under wishes set_name set s = if is_shown wishes.shown s then line_under wishes.form set_name set s else []

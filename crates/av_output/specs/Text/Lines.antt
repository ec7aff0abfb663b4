-- A step's own line, and the line of a judgement.
use Rattle.std.specs.Prelude.{ℕ, List, [], ◌∷◌, codes, decimal}
use Rattle.av_base.specs.Part.{spelt}
use Rattle.av_base.specs.declared.verdict.Verdict.{Verdict}
use Rattle.av_base.specs.declared.verdict.Verdict.TheVariants.{Clean, Infected}
use Rattle.av_history.specs.declared.report.Judged.{Judged}
use Rattle.av_history.specs.declared.report.Line.{Line}
use Rattle.av_history.specs.declared.report.Line.TheVariants.{Silent, Published, Created, Changed, Removed, Booted}

-- what a step tells of the volume or the catalogue
abbrev pub line_parts : Line → List (List ℕ)
line_parts Silent = []
line_parts (Published version signatures) =
    codes "version " ∷ decimal version ∷ codes " signatures " ∷ decimal signatures ∷ codes "\n" ∷ []
line_parts (Created stream) = codes "stream " ∷ decimal stream ∷ codes " generation 1\n" ∷ []
line_parts (Changed stream generation size) =
    codes "stream " ∷ decimal stream ∷ codes " generation " ∷ decimal generation
    ∷ codes " length " ∷ decimal size ∷ codes "\n" ∷ []
line_parts (Removed stream) = codes "removed " ∷ decimal stream ∷ codes "\n" ∷ []
line_parts (Booted boot) = codes "boot " ∷ decimal boot ∷ codes "\n" ∷ []

-- the text of a line
abbrev pub line_text : Line → List ℕ
line_text line = spelt (line_parts line)

-- the last words of a line, before its end: clean, or which signature ends where first
abbrev pub verdict_parts : Verdict → List ℕ → List (List ℕ)
verdict_parts Clean end = codes " clean" ∷ end ∷ []
verdict_parts (Infected index end_at) end = codes " infected " ∷ decimal index ∷ codes " end " ∷ decimal end_at ∷ end ∷ []

-- the line of a verdict that was asked for
abbrev pub judged_text : Judged → List ℕ
judged_text j =
    spelt (codes "judge " ∷ decimal j.stream ∷ codes " generation " ∷ decimal j.generation
    ∷ codes " version " ∷ decimal j.version ∷ verdict_parts j.verdict (codes "\n"))

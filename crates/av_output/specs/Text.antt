-- The lines that a script prints, apart from any way to print them.
pub mod Answers
pub mod Lines
pub mod Messages
pub mod Notes
use Rattle.std.specs.Prelude.{ℕ, ◌+◌, List, [], ◌∷◌, ◌++◌, Option}
use Rattle.std.specs.List.{between}
use Rattle.av_base.specs.Part.{spelt}
use Rattle.av_base.specs.declared.port.Port.{Port}
use Rattle.av_frame.specs.Message.{Letter}
use Rattle.av_service.specs.Work.{WorkState}
use Rattle.av_history.specs.declared.given.Given.{Given}
use Rattle.av_output.specs.declared.message.Direction.TheVariants.{Down, Up}
use Rattle.av_history.specs.declared.report.Report.{Report}
use Rattle.av_output.specs.Text.Answers.{answers_text, pended_text}
use Rattle.av_output.specs.Text.Lines.{line_text}
use Rattle.av_output.specs.Text.Messages.{message_text, placed, work_text}
use Rattle.av_output.specs.Text.Notes.{note_text}
use Rattle.av_history.specs.World.{WorldState}

-- what the answers that a step gave tell, and whether its open waits
abbrev pub opens_text : Report → List Given → List ℕ
opens_text r answers =
    let given = between r.before.answers r.after.answers answers in answers_text given ++ pended_text r.note given

-- what was sent and lent in a step, each by its place
abbrev pub sent_text : Report → List Letter → List Letter → List (Option (Port × WorkState)) → List ℕ
sent_text r down up works =
    spelt
    (
    placed (message_text Down) (r.before.down + 1) (between r.before.down r.after.down down)
    ∷ placed (message_text Up) (r.before.up + 1) (between r.before.up r.after.up up)
    ∷ placed work_text (r.before.works + 1) (between r.before.works r.after.works works) ∷ []
    )

-- the lines of a step, by the world's lists after it: its own line, opens, messages, work, and its note
abbrev pub told_text : Report → List Given → List Letter → List Letter → List (Option (Port × WorkState)) → List ℕ
told_text r answers down up works =
    spelt (line_text r.line ∷ opens_text r answers ∷ sent_text r down up works ∷ note_text r.note ∷ [])

-- the lines of a report, of what its event added to the world's lists
abbrev pub report_text : WorldState → Report → List ℕ
report_text w r = told_text r w.answers w.down w.up w.works

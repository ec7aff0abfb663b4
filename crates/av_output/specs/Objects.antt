-- What a script prints as JSON: an object a command, with an object for each line that Text says of it.
pub mod Answers
pub mod Lines
pub mod Messages
use Rattle.std.specs.Prelude.{◌+◌, List, [], ◌∷◌, ◌++◌, Option}
use Rattle.std.specs.List.{between}
use Rattle.json.specs.Token.{Token}
use Rattle.av_base.specs.declared.port.Port.{Port}
use Rattle.av_frame.specs.Message.{Letter}
use Rattle.av_json.specs.Member.{joined}
use Rattle.av_service.specs.Work.{WorkState}
use Rattle.av_history.specs.declared.given.Given.{Given}
use Rattle.av_output.specs.declared.message.Direction.TheVariants.{Down, Up}
use Rattle.av_history.specs.declared.report.Report.{Report}
use Rattle.av_output.specs.Objects.Answers.{answers_tokens, pended_tokens}
use Rattle.av_output.specs.Objects.Lines.{line_tokens, note_tokens}
use Rattle.av_output.specs.Objects.Messages.{message_tokens, work_tokens}
use Rattle.av_output.specs.Text.Messages.{placed}
use Rattle.av_history.specs.World.{WorldState}

-- what the answers that a step gave tell, and whether its open waits
abbrev pub opens_tokens : Report → List Given → List Token
opens_tokens r answers =
    let given = between r.before.answers r.after.answers answers in answers_tokens given ++ pended_tokens r.note given

-- what was sent and lent in a step, each by its place
abbrev pub sent_tokens : Report → List Letter → List Letter → List (Option (Port × WorkState)) → List Token
sent_tokens r down up works =
    joined
    (
    placed (message_tokens Down) (r.before.down + 1) (between r.before.down r.after.down down)
    ∷ placed (message_tokens Up) (r.before.up + 1) (between r.before.up r.after.up up)
    ∷ placed work_tokens (r.before.works + 1) (between r.before.works r.after.works works) ∷ []
    )

-- the objects of a step, by the world's lists after it: its own line, opens, messages, work, and its note
abbrev pub told_tokens : Report → List Given → List Letter → List Letter → List (Option (Port × WorkState)) → List Token
told_tokens r answers down up works =
    joined (line_tokens r.line ∷ opens_tokens r answers ∷ sent_tokens r down up works ∷ note_tokens r.note ∷ [])

-- the objects of a report, of what its event added to the world's lists
abbrev pub report_tokens : WorldState → Report → List Token
report_tokens w r = told_tokens r w.answers w.down w.up w.works

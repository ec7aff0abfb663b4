use Rattle.std.proofs.Common.{ℕ, ◌≡◌, ◌+◌, ◌++◌, true, false, List, [], ◌∷◌, Option, None, Some, refl, sym, ap, ◌∙◌, append_assoc, append-nil, arith, codes, decimal, if◌then◌else◌}
use Rattle.std.proofs.lemmas.Fmt.{decimal_digit}
use Rattle.std.specs.Fmt.{digits}
use Rattle.std.specs.List.{between}
use Rattle.json.specs.Token.{Token}
use Rattle.av_base.specs.Part.{spelt}
use Rattle.av_base.specs.declared.port.Port.{Port}
use Rattle.av_base.specs.declared.port.Port.TheVariants.{One, Two}
use Rattle.av_base.specs.declared.verdict.Verdict.TheVariants.{Clean, Infected}
use Rattle.av_filter.specs.declared.note.Note.{Note as FilterNote}
use Rattle.av_filter.specs.declared.note.Note.TheVariants as filter
use Rattle.av_frame.specs.Message.{Letter}
use Rattle.av_frame.specs.declared.message.Body.TheVariants.{Scan, Chunk, NoChunk, Abort, Hello, Read, Reply, Updated}
use Rattle.av_frame.specs.declared.message.Body.{Body}
use Rattle.av_frame.specs.declared.outcome.Outcome.TheVariants.{Judged, Failed}
use Rattle.av_json.specs.Member.{number_tokens, object_tokens, text_tokens}
use Rattle.av_pend.specs.declared.answer.Answer.{Answer}
use Rattle.av_pend.specs.declared.answer.Answer.TheVariants.{Granted, Unscanned, Denied}
use Rattle.av_service.specs.Work.{WorkState}
use Rattle.av_output.specs.Back.{JudgementTellsText, ObjectsTellText, behind, text_back}
use Rattle.av_history.specs.declared.given.Given.{Given}
use Rattle.av_output.specs.declared.message.Direction.{Direction}
use Rattle.av_output.specs.declared.message.Direction.TheVariants.{Down, Up}
use Rattle.av_history.specs.declared.report.Line.{Line}
use Rattle.av_history.specs.declared.report.Line.TheVariants.{Silent, Published, Created, Changed, Removed, Booted}
use Rattle.av_history.specs.declared.report.EventNote.{EventNote}
use Rattle.av_history.specs.declared.report.EventNote.TheVariants.{Filter, Service}
use Rattle.av_history.specs.declared.report.Report.{Report}
use Rattle.av_output.specs.Objects.{opens_tokens, report_tokens, sent_tokens}
use Rattle.av_output.specs.Objects.Answers.{answer_tokens, answers_tokens, given_tokens, pended_tokens, submitted_tokens}
use Rattle.av_output.specs.Objects.Lines.{is, line_tokens, note_tokens, noted_tokens, verdict_members}
use Rattle.av_output.specs.Objects.Messages.{body_tokens, lent_tokens, message_tokens, work_tokens}
use Rattle.av_output.specs.Text.{opens_text, report_text, sent_text}
use Rattle.av_output.specs.Text.Answers.{answer_text, answers_text, given_text, is_answered, pended_text, submitted_text}
use Rattle.av_output.specs.Text.Lines.{line_text, verdict_parts}
use Rattle.av_output.specs.Text.Messages.{body_text, lent_text, message_text, placed, work_text}
use Rattle.av_output.specs.Text.Notes.{note_text, note_word, noted}

-- these objects lead back to this text, whatever stands behind them
abbrev pub Tells : List Token → List ℕ → Type 0
Tells objects text = (ts : List Token) → text_back (objects ++ ts) ≡ text ++ text_back ts

pub tells_both : (a b : List Token) (x y : List ℕ) → Tells a x → Tells b y → Tells (a ++ b) (x ++ y)
tells_both a b x y first second ts =
    ap text_back (append_assoc a b ts) ∙ first (b ++ ts) ∙ ap (λ t. x ++ t) (second ts) ∙ sym (append_assoc x y (text_back ts))

pub tells_nothing : Tells [] []
tells_nothing ts = refl

pub tells_line : (line : Line) → Tells (line_tokens line) (line_text line)
unfolding object_tokens text_tokens number_tokens
tells_line Silent ts = refl
tells_line (Published version signatures) ts = refl
tells_line (Created stream) ts =
    ap (λ one. (codes "stream" ++ behind (decimal stream ∷ codes "generation" ∷ one ∷ [])) ++ text_back ts) (decimal_digit 1 (omega arith))
tells_line (Changed stream generation size) ts = refl
tells_line (Removed stream) ts = refl
tells_line (Booted boot) ts = refl

pub tells_word : (word : Option (List ℕ)) → Tells (noted_tokens word) (noted word)
unfolding object_tokens text_tokens number_tokens
tells_word None ts = refl
tells_word (Some word) ts = refl

pub tells_note : (note : EventNote) → Tells (note_tokens note) (note_text note)
tells_note note = tells_word (note_word note)

pub tells_answer : (answer : Answer) → Tells (answer_tokens answer) (answer_text answer)
unfolding object_tokens text_tokens number_tokens
tells_answer (Granted open_id least stream generation version) ts = refl
tells_answer (Unscanned open_id stream generation cause) ts = refl
tells_answer (Denied open_id cause) ts = refl

pub tells_answers : (answers : List Given) → Tells (answers_tokens answers) (answers_text answers)
tells_answers [] = tells_nothing
tells_answers (g ∷ answers) = tells_both (given_tokens g) (answers_tokens answers) (given_text g) (answers_text answers) (tells_answer g.answer) (tells_answers answers)

pub tells_submitted : (note : FilterNote) (answers : List Given) → Tells (submitted_tokens note answers) (submitted_text note answers)
unfolding object_tokens text_tokens number_tokens
tells_submitted (filter.Submitted open_id) answers =
    elim (is_answered open_id answers) as (λ b. Tells (if b then [] else object_tokens (text_tokens (codes "is") (codes "pended") ∷ number_tokens (codes "open") open_id ∷ [])) (if b then [] else spelt (codes "open " ∷ decimal open_id ∷ codes " pended\n" ∷ []))) [
      | true ↦ tells_nothing
      | false ↦ λ ts. refl
    ]
tells_submitted filter.Quiet answers = tells_nothing
tells_submitted filter.Welcome answers = tells_nothing
tells_submitted filter.NoWaiter answers = tells_nothing
tells_submitted filter.Ignored answers = tells_nothing
tells_submitted filter.NoStream answers = tells_nothing
tells_submitted filter.WrongVolume answers = tells_nothing
tells_submitted filter.Connected answers = tells_nothing
tells_submitted filter.OldVersion answers = tells_nothing

pub tells_pended : (note : EventNote) (answers : List Given) → Tells (pended_tokens note answers) (pended_text note answers)
tells_pended (Filter note) answers = tells_submitted note answers
tells_pended (Service note) answers = tells_nothing

tells_body : (way : Direction) (place : ℕ) (port : Port) (body : Body) → Tells (body_tokens way place port body) (body_text way place port body)
unfolding object_tokens text_tokens number_tokens digits
tells_body Down place One (Scan id stream generation size) ts = refl
tells_body Down place One (Chunk id offset bytes) ts = refl
tells_body Down place One (NoChunk id offset cause) ts = refl
tells_body Down place One (Abort id) ts = refl
tells_body Down place One (Hello volume version) ts = refl
tells_body Down place One (Read id offset count) ts = refl
tells_body Down place One (Reply id (Judged version Clean)) ts = refl
tells_body Down place One (Reply id (Judged version (Infected index end_at))) ts = refl
tells_body Down place One (Reply id (Failed cause)) ts = refl
tells_body Down place One (Updated version) ts = refl
tells_body Down place Two (Scan id stream generation size) ts = refl
tells_body Down place Two (Chunk id offset bytes) ts = refl
tells_body Down place Two (NoChunk id offset cause) ts = refl
tells_body Down place Two (Abort id) ts = refl
tells_body Down place Two (Hello volume version) ts = refl
tells_body Down place Two (Read id offset count) ts = refl
tells_body Down place Two (Reply id (Judged version Clean)) ts = refl
tells_body Down place Two (Reply id (Judged version (Infected index end_at))) ts = refl
tells_body Down place Two (Reply id (Failed cause)) ts = refl
tells_body Down place Two (Updated version) ts = refl
tells_body Up place One (Scan id stream generation size) ts = refl
tells_body Up place One (Chunk id offset bytes) ts = refl
tells_body Up place One (NoChunk id offset cause) ts = refl
tells_body Up place One (Abort id) ts = refl
tells_body Up place One (Hello volume version) ts = refl
tells_body Up place One (Read id offset count) ts = refl
tells_body Up place One (Reply id (Judged version Clean)) ts = refl
tells_body Up place One (Reply id (Judged version (Infected index end_at))) ts = refl
tells_body Up place One (Reply id (Failed cause)) ts = refl
tells_body Up place One (Updated version) ts = refl
tells_body Up place Two (Scan id stream generation size) ts = refl
tells_body Up place Two (Chunk id offset bytes) ts = refl
tells_body Up place Two (NoChunk id offset cause) ts = refl
tells_body Up place Two (Abort id) ts = refl
tells_body Up place Two (Hello volume version) ts = refl
tells_body Up place Two (Read id offset count) ts = refl
tells_body Up place Two (Reply id (Judged version Clean)) ts = refl
tells_body Up place Two (Reply id (Judged version (Infected index end_at))) ts = refl
tells_body Up place Two (Reply id (Failed cause)) ts = refl
tells_body Up place Two (Updated version) ts = refl

pub tells_message : (way : Direction) (place : ℕ) (message : Letter) → Tells (message_tokens way place message) (message_text way place message)
tells_message way place m = tells_body way place m.port m.body

tells_lent : (place : ℕ) (port : Port) (work : WorkState) → Tells (lent_tokens place port work) (lent_text place port work)
unfolding object_tokens text_tokens number_tokens digits
tells_lent place One work ts = refl
tells_lent place Two work ts = refl

pub tells_work : (place : ℕ) (work : Option (Port × WorkState)) → Tells (work_tokens place work) (work_text place work)
tells_work place None = tells_nothing
tells_work place (Some x) = tells_lent place x.0 x.1

pub tells_placed : {A : Type 0} (f : ℕ → A → List Token) (g : ℕ → A → List ℕ) → ((k : ℕ) (x : A) → Tells (f k x) (g k x))
    → (k : ℕ) (xs : List A) → Tells (placed f k xs) (placed g k xs)
tells_placed f g one k [] = tells_nothing
tells_placed f g one k (x ∷ xs) = tells_both (f k x) (placed f (k + 1) xs) (g k x) (placed g (k + 1) xs) (one k x) (tells_placed f g one (k + 1) xs)

pub tells_works : (k : ℕ) (works : List (Option (Port × WorkState))) → Tells (placed work_tokens k works) (placed work_text k works)
tells_works k works = tells_placed work_tokens work_text tells_work k works

pub tells_opens : (r : Report) (answers : List Given) → Tells (opens_tokens r answers) (opens_text r answers)
tells_opens r answers =
    let given = between r.before.answers r.after.answers answers in
    tells_both (answers_tokens given) (pended_tokens r.note given) (answers_text given) (pended_text r.note given) (tells_answers given) (tells_pended r.note given)

pub tells_sent : (r : Report) (down up : List Letter) (works : List (Option (Port × WorkState))) → Tells (sent_tokens r down up works) (sent_text r down up works)
tells_sent r down up works =
    let d = between r.before.down r.after.down down in
    let u = between r.before.up r.after.up up in
    let w = between r.before.works r.after.works works in
    let down_tokens = placed (message_tokens Down) (r.before.down + 1) d in
    let up_tokens = placed (message_tokens Up) (r.before.up + 1) u in
    let work_tokens = placed work_tokens (r.before.works + 1) w in
    let down_text = placed (message_text Down) (r.before.down + 1) d in
    let up_text = placed (message_text Up) (r.before.up + 1) u in
    let work_text = placed work_text (r.before.works + 1) w in
    tells_both down_tokens (up_tokens ++ (work_tokens ++ [])) down_text (up_text ++ (work_text ++ []))
    (tells_placed (message_tokens Down) (message_text Down) (tells_message Down) (r.before.down + 1) d)
    (tells_both up_tokens (work_tokens ++ []) up_text (work_text ++ [])
    (tells_placed (message_tokens Up) (message_text Up) (tells_message Up) (r.before.up + 1) u)
    (tells_both work_tokens [] work_text [] (tells_works (r.before.works + 1) w) tells_nothing))

-- the objects of a report lead back to its text
pub objects_tell_text : ObjectsTellText
objects_tell_text w r =
    let own = line_tokens r.line in
    let opens = opens_tokens r w.answers in
    let sent = sent_tokens r w.down w.up w.works in
    let note = note_tokens r.note in
    let opens_said = opens_text r w.answers in
    let sent_said = sent_text r w.down w.up w.works in
    let note_said = note_text r.note in
    let all : Tells (report_tokens w r) (report_text w r) =
    tells_both own (opens ++ (sent ++ (note ++ []))) (line_text r.line) (opens_said ++ (sent_said ++ (note_said ++ []))) (tells_line r.line)
    (tells_both opens (sent ++ (note ++ [])) opens_said (sent_said ++ (note_said ++ [])) (tells_opens r w.answers)
    (tells_both sent (note ++ []) sent_said (note_said ++ []) (tells_sent r w.down w.up w.works) (tells_both note [] note_said [] (tells_note r.note) tells_nothing))) in
    ap text_back (sym (append-nil (report_tokens w r))) ∙ all [] ∙ append-nil (report_text w r)

-- the object of a judgement leads back to its line
pub judgement_tells_text : JudgementTellsText
unfolding object_tokens text_tokens number_tokens
judgement_tells_text j =
    elim j.verdict as (λ v. text_back (object_tokens (is (codes "judge") ∷ number_tokens (codes "stream") j.stream ∷ number_tokens (codes "generation") j.generation ∷ number_tokens (codes "version") j.version ∷ verdict_members v [])) ≡ spelt (codes "judge " ∷ decimal j.stream ∷ codes " generation " ∷ decimal j.generation ∷ codes " version " ∷ decimal j.version ∷ verdict_parts v (codes "\n"))) [
      | Clean ↦ append-nil _
      | Infected index end_at ↦ append-nil _
    ]

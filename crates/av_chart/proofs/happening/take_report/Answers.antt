use Rattle.std.proofs.Common.{rules, ◌≡◌, ◌∙◌, List, Result, Ok, Err, OnOk, length, refl, ap}
use Rattle.av_frame.specs.Message.{Letter}
use Rattle.av_history.specs.declared.given.Given.{Given}
use Rattle.av_chart.proofs.ReportLemmas.{report_taken}
use Rattle.av_chart.specs.Row.{spanned}
use Rattle.av_chart.specs.Story.{story_of}
use Rattle.av_chart.specs.Told.{Mounted, told_of}
use Rattle.av_chart.specs.declared.happened.Step.{Step}
use Rattle.av_chart.proofs.happening.take_report.Goals as goal

-- what follows where a call succeeds
on_ok : {A E P Q : Type 0} (r : Result A E) → OnOk r P → (P → Q) → OnOk r Q
on_ok (Ok a) h f = f h
on_ok (Err e) h f = h

pub returns : goal.returns
returns c =
    let step : Step = c.step_of-step.result in
    let is_at : c.len-at.result ≡ length c.args.happened.now.steps.items = search rules in
    let is_given = c.span_of-given.ensures ∙ ap (λ (xs : List Given). spanned step.answers xs) c.answers.ensures in
    let is_down = c.span_of-down.ensures ∙ ap (λ (xs : List Letter). spanned step.down xs) c.down.ensures in
    let is_up = c.span_of-up.ensures ∙ ap (λ (xs : List Letter). spanned step.up xs) c.up.ensures in
    on_ok c.add.result c.add.ensures
    (λ h.
    h
    ∙ report_taken (story_of c.args.happened.now) _ (told_of c.args.row Mounted) c.args.deed c.args.report.now c.args.world.now c.len-at.result step c.span_of-given.result.now
    c.span_of-down.result.now c.span_of-up.result.now c.word-name.result.now is_at c.step_of-step.ensures is_given is_down is_up c.word-name.ensures refl
    c.in_ok-take_down.ensures c.in_ok-take_up.ensures c.in_ok-take_opens.ensures (rw c.deref.ensures.value at c.in_ok-take_questions.ensures) c.in_ok-take_jobs.ensures c.in_ok-take_works.ensures c.in_ok-take_lines.ensures
    c.in_ok-take_name.ensures c.take_counts.ensures)

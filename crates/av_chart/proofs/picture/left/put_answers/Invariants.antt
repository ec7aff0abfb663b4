use Rattle.std.proofs.Common.{◌≡◌, ◌++◌, drop}
use Rattle.av_chart.specs.Left.{answers_text}
use Rattle.av_chart.specs.Row.{asked_lines, spanned}
use Rattle.av_chart.proofs.picture.left.put_answers.Given as goal

-- the answers that are left, behind those that were put
abbrev pub invariant-answers : goal.invariant-answers
invariant-answers l = l.page.items ++ answers_text l.picture.places.now l.number l.line (drop l.given-index (spanned l.step.answers l.picture.world.now.answers)) ≡ l.initial.page.items ++ answers_text l.picture.places.now l.number (asked_lines l.step) (spanned l.step.answers l.picture.world.now.answers)

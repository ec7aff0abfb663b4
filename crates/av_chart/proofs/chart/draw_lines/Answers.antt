use Rattle.std.proofs.Common.{ℕ, ◌≡◌, ◌∙◌, ◌+◌, List, refl, ap}
use Rattle.av_chart.proofs.DrawnLemmas.{drawn_by}
use Rattle.av_chart.specs.Number.{capped}
use Rattle.av_chart.specs.Row.{spanned}
use Rattle.av_chart.specs.declared.happened.Span.{Span}
use Rattle.av_chart.specs.declared.happened.Step.{Step}
use Rattle.av_chart.proofs.chart.draw_lines.Goals as goal

pub returns-clause-ok : goal.returns-clause-ok
returns-clause-ok c =
    let first = c.in-Some.first in
    let behind : c.saturating_add-behind.result ≡ capped (first + c.in-Some.count) = c.saturating_add-behind.ensures in
    let steps = c.take_slots.new.happened.steps.items in
    let span : ℕ → Span = λ to. record { from = first; to = to } in
    let drawn : c.span_of.result.now ≡ spanned (span (capped (first + c.in-Some.count))) steps =
    c.span_of.ensures ∙ ap (λ (xs : List Step). spanned (span c.saturating_add-behind.result) xs) c.deref-2.ensures.value ∙ ap (λ n. spanned (span n) steps) behind
    in
    drawn_by _ _ _ _ _ _ _ c.in_ok-page_with.ensures refl refl c.take_slots.ensures.story (rw c.deref.ensures.value at c.in-Some.ensures) (rw behind at c.take_slots.ensures.slots)
    (record { first = c.in_ok-places.ensures.first; tops = rw drawn at c.in_ok-places.ensures.tops; bottom = rw drawn at c.in_ok-places.ensures.bottom })

use Rattle.std.proofs.Common.{◌≡◌, ap, sym, subst, ◌∙◌, Some}
use Rattle.slab.specs.Slab.{entries}
use Rattle.av_context.specs.Contexts.{at, PutsAt}
use Rattle.av_context.proofs.RowsLemmas.{at-entries, puts-updated}
use Rattle.av_context.proofs.rows.Rows.insert.Goals as goal

pub returns-clause-free : goal.returns-clause-free
returns-clause-free c =
    let kept : entries c.reserve.new.self ≡ entries c.self.inside.slab = ap entries c.reserve.ensures.rest_kept in
    rw (← c.self.view_is) (ap (λ m. at m c.insert_reserved.result) (sym kept) ∙ (at-entries c.reserve.new.self c.insert_reserved.result ∙ c.insert_reserved.ensures.was_vacant))

pub returns-clause-ok : goal.returns-clause-ok
returns-clause-ok c =
    let kept : entries c.reserve.new.self ≡ entries c.self.inside.slab = ap entries c.reserve.ensures.rest_kept in
    rw (← c.self.view_is, ← c.fresh.ensures)
    (subst (λ m. PutsAt m (entries c.insert_reserved.new.self) c.insert_reserved.result (Some c.fresh.result)) kept
    (puts-updated c.reserve.new.self c.insert_reserved.new.self c.insert_reserved.result (Some c.fresh.result) c.insert_reserved.ensures.updates))

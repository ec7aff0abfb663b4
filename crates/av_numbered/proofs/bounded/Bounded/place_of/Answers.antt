use Rattle.std.proofs.Common.{◌≡◌, rules, IfSome, IfNone, IsSomeAnd, None, slice_get, sym, subst}
use Rattle.std.specs.Result.{result_ok}
use Rattle.std.proofs.lemmas.List.Sorted.{answers_always}
use Rattle.av_context.specs.Contexts.{at}
use Rattle.av_numbered.specs.Numbered.{IsAscending}
use Rattle.av_numbered.proofs.BoundedLemmas.{searched}
use Rattle.av_numbered.proofs.NumberedLemmas.{view-ascends, number-placed, none-placed}
use Rattle.av_numbered.proofs.bounded.Bounded.place_of.Goals as goal

pub returns-clause-some : goal.returns-clause-some
returns-clause-some g c =
    let facts = c.binary_search_by_key.ensures in
    let by_key = facts.position (λ p. p.0) (answers_always _ _ _ (λ f a r g called. search rules)) in
    let found = searched c.deref.result.now (subst IsAscending (sym c.deref.ensures.value) c.self.invariant.0.ascends) c.args.number c.binary_search_by_key.result facts.bound by_key in
    rw (← c.self.view_is)
    (number-placed c.self.inside.index.items c.self.inside.rows.slots c.self.inside.values.items c.self.invariant.0 c.ok.result c.args.number
    (subst (λ o. IfSome o (λ i. IsSomeAnd (slice_get c.self.inside.index.items i) (λ p. p.0 ≡ c.args.number))) (sym c.ok.ensures.value)
    (subst (λ l. IfSome (result_ok c.binary_search_by_key.result) (λ i. IsSomeAnd (slice_get l i) (λ p. p.0 ≡ c.args.number))) c.deref.ensures.value found.some)))

pub returns-clause-none : goal.returns-clause-none
returns-clause-none g c =
    let facts = c.binary_search_by_key.ensures in
    let by_key = facts.position (λ p. p.0) (answers_always _ _ _ (λ f a r g called. search rules)) in
    let found = searched c.deref.result.now (subst IsAscending (sym c.deref.ensures.value) c.self.invariant.0.ascends) c.args.number c.binary_search_by_key.result facts.bound by_key in
    rw (← c.self.view_is)
    (none-placed c.self.inside.index.items c.self.inside.rows.slots c.self.inside.values.items c.self.invariant.0 c.ok.result c.args.number
    (subst (λ o. IfNone o (at c.self.inside.index.items c.args.number ≡ None)) (sym c.ok.ensures.value)
    (subst (λ l. IfNone (result_ok c.binary_search_by_key.result) (at l c.args.number ≡ None)) c.deref.ensures.value found.none)))

pub returns-clause-ascend : goal.returns-clause-ascend
returns-clause-ascend g c = subst IsAscending c.self.view_is (view-ascends c.self.inside.index.items c.self.inside.rows.slots c.self.inside.values.items c.self.invariant.0)

use Rattle.std.proofs.Common.{◌≡◌, ◌<◌, Some, None, length, slice_get, sym, ap, subst, ◌∙◌, arith}
use Rattle.av_context.specs.Contexts.{PutsAt}
use Rattle.av_numbered.specs.Numbered.{slot_at, both, joined, held}
use Rattle.av_numbered.proofs.BoundedLemmas.{place-is, at-place, removed-at}
use Rattle.av_numbered.proofs.MapLemmas.{not_there}
use Rattle.av_numbered.proofs.NumberedLemmas.{length-view, row_there, placed-is, removed-whole, removed-puts}
use Rattle.av_numbered.proofs.bounded.Bounded.take_at.Goals as goal

pub remove-number-requires : goal.remove-number-requires
remove-number-requires g c =
    let low : c.args.place < length c.self.inside.index.items = subst (λ n. c.args.place < n) (ap length (sym c.self.view_is) ∙ length-view c.self.inside.index.items c.self.inside.rows.slots c.self.inside.values.items c.self.invariant.0) c.requires in
    let count = c.self.inside.index.ok.0 in
    omega arith

pub unreachable-requires : goal.unreachable-requires
unreachable-requires g c =
    let low : c.args.place < length c.self.inside.index.items = subst (λ n. c.args.place < n) (ap length (sym c.self.view_is) ∙ length-view c.self.inside.index.items c.self.inside.rows.slots c.self.inside.values.items c.self.invariant.0) c.requires in
    let n = c.remove-number.result.0 in
    let k = c.remove-number.result.1 in
    let found : slice_get c.self.inside.index.items c.args.place ≡ Some (n, k) = place-is c.self.inside.index.items c.args.place c.remove-number.result low c.remove-number.ensures.value in
    not_there (slot_at c.self.inside.rows.slots k) (sym c.in_default.ensures.value) (row_there c.self.inside.index.items c.self.inside.rows.slots c.self.inside.values.items c.self.invariant.0 n k (at-place c.self.inside.index.items c.args.place n k c.self.invariant.0.ascends found))

pub invariant_of-self : goal.invariant_of-self
invariant_of-self g c =
    let low : c.args.place < length c.self.inside.index.items = subst (λ n. c.args.place < n) (ap length (sym c.self.view_is) ∙ length-view c.self.inside.index.items c.self.inside.rows.slots c.self.inside.values.items c.self.invariant.0) c.requires in
    let n = c.remove-number.result.0 in
    let k = c.remove-number.result.1 in
    let found : slice_get c.self.inside.index.items c.args.place ≡ Some (n, k) = place-is c.self.inside.index.items c.args.place c.remove-number.result low c.remove-number.ensures.value in
    let room = c.self.invariant.1 in
    let old = c.self.inside.index.ok.0 in
    let new = c.remove-number.new.self.ok.0 in
    let shorter = c.remove-number.ensures.len in
    let fewer = c.in-Some.ensures.len in (
      removed-whole c.self.inside.index.items c.self.inside.rows.slots c.self.inside.values.items c.self.invariant.0
          c.remove-number.new.self.items c.try_remove.new.self.slots c.take-value.new.values.items c.remove-number.result.0 c.remove-number.result.1
          (at-place c.self.inside.index.items c.args.place c.remove-number.result.0 c.remove-number.result.1 c.self.invariant.0.ascends found)
          (c.remove-number.ensures.items ∙ removed-at c.self.inside.index.items c.args.place c.remove-number.result.0 c.remove-number.result.1 c.self.invariant.0.ascends found)
          c.in-Some.ensures.updates.changed c.take-value.ensures.here c.in-Some.ensures.updates.others c.take-value.ensures.others,
      record {
        counted = omega arith;
        few = omega arith;
        numbers = let kept = c.remove-number.ensures.capacity in omega arith;
        rows = let kept = c.in-Some.ensures.capacity in omega arith;
        values = let kept = c.in-Some.ensures.capacity in let took = c.take-value.ensures.capacity in omega arith;
      },
    )

pub returns-clause-value : goal.returns-clause-value
returns-clause-value g c =
    let low : c.args.place < length c.self.inside.index.items = subst (λ n. c.args.place < n) (ap length (sym c.self.view_is) ∙ length-view c.self.inside.index.items c.self.inside.rows.slots c.self.inside.values.items c.self.invariant.0) c.requires in
    let n = c.remove-number.result.0 in
    let k = c.remove-number.result.1 in
    let found : slice_get c.self.inside.index.items c.args.place ≡ Some (n, k) = place-is c.self.inside.index.items c.args.place c.remove-number.result low c.remove-number.ensures.value in
    rw (← c.self.view_is)
    (placed-is c.self.inside.index.items c.self.inside.rows.slots c.self.inside.values.items c.self.invariant.0 c.args.place n k (c.in-Some.row, c.take-value.result) found
    (ap (λ o. both o (slot_at c.self.inside.values.items k)) (sym c.in-Some.ensures.value) ∙ ap (both (Some c.in-Some.row)) c.take-value.ensures.value))

pub returns-clause-puts : goal.returns-clause-puts
returns-clause-puts g c =
    let low : c.args.place < length c.self.inside.index.items = subst (λ n. c.args.place < n) (ap length (sym c.self.view_is) ∙ length-view c.self.inside.index.items c.self.inside.rows.slots c.self.inside.values.items c.self.invariant.0) c.requires in
    let n = c.remove-number.result.0 in
    let k = c.remove-number.result.1 in
    let found : slice_get c.self.inside.index.items c.args.place ≡ Some (n, k) = place-is c.self.inside.index.items c.args.place c.remove-number.result low c.remove-number.ensures.value in
    subst (λ m. PutsAt m (joined c.remove-number.new.self.items (held c.try_remove.new.self.slots c.take-value.new.values.items)) n None) c.self.view_is
    (removed-puts c.self.inside.index.items c.self.inside.rows.slots c.self.inside.values.items c.self.invariant.0
    c.remove-number.new.self.items c.try_remove.new.self.slots c.take-value.new.values.items c.remove-number.result.0 c.remove-number.result.1
    (at-place c.self.inside.index.items c.args.place c.remove-number.result.0 c.remove-number.result.1 c.self.invariant.0.ascends found)
    (c.remove-number.ensures.items ∙ removed-at c.self.inside.index.items c.args.place c.remove-number.result.0 c.remove-number.result.1 c.self.invariant.0.ascends found)
    c.in-Some.ensures.updates.changed c.take-value.ensures.here c.in-Some.ensures.updates.others c.take-value.ensures.others)

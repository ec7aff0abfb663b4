use Rattle.std.proofs.Common.{◌≡◌, Some, None, slice_get, sym, ap, subst, ◌∙◌}
use Rattle.std.specs.Option.{option_and_then, option_map}
use Rattle.av_numbered.specs.Numbered.{slot_at}
use Rattle.av_numbered.proofs.BoundedLemmas.{pair, place-is, place-past}
use Rattle.av_numbered.proofs.NumberedLemmas.{row-place}
use Rattle.av_numbered.proofs.bounded.Bounded.nth.Goals as goal

pub returns-in_err-number : goal.returns-in_err-number
returns-in_err-number g c =
    let none : slice_get c.self.inside.index.items c.args.place ≡ None = subst (λ l. slice_get l c.args.place ≡ None) c.deref.ensures.value (place-past c.deref.result.now c.args.place c.in_err-number.ensures.lookup.3) in
    rw (← c.self.view_is) (c.from_residual.ensures ∙ sym (row-place c.self.inside.index.items c.self.inside.rows.slots c.self.inside.values.items c.self.invariant.0 c.args.place ∙ ap (option_and_then (λ p. option_map (λ r. pair p.0 r) (slot_at c.self.inside.rows.slots p.1))) none))

pub returns-in_err-row : goal.returns-in_err-row
returns-in_err-row g c =
    let p = c.in_ok-number.field-0.now in
    let found : slice_get c.self.inside.index.items c.args.place ≡ Some p = subst (λ l. slice_get l c.args.place ≡ Some p) c.deref.ensures.value (place-is c.deref.result.now c.args.place p c.in_ok-number.ensures.lookup.3.0 c.in_ok-number.ensures.lookup.1) in
    rw (← c.self.view_is)
    (c.from_residual-in_err-row.ensures
    ∙ sym (row-place c.self.inside.index.items c.self.inside.rows.slots c.self.inside.values.items c.self.invariant.0 c.args.place
    ∙ (ap (option_and_then (λ p. option_map (λ r. pair p.0 r) (slot_at c.self.inside.rows.slots p.1))) found ∙ ap (option_map (λ r. pair p.0 r)) (sym (c.in_err-row.ensures ∙ c.get-2.ensures)))))

pub returns : goal.returns
returns g c =
    let p = c.in_ok-number.field-0.now in
    let found : slice_get c.self.inside.index.items c.args.place ≡ Some p = subst (λ l. slice_get l c.args.place ≡ Some p) c.deref.ensures.value (place-is c.deref.result.now c.args.place p c.in_ok-number.ensures.lookup.3.0 c.in_ok-number.ensures.lookup.1) in
    rw (← c.self.view_is)
    (sym (row-place c.self.inside.index.items c.self.inside.rows.slots c.self.inside.values.items c.self.invariant.0 c.args.place
    ∙ (ap (option_and_then (λ p. option_map (λ r. pair p.0 r) (slot_at c.self.inside.rows.slots p.1))) found ∙ ap (option_map (λ r. pair p.0 r)) (sym (c.in_ok-row.ensures ∙ c.get-2.ensures)))))

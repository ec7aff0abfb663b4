use Rattle.std.proofs.Common.{Some, None, sym, ap, subst, ◌∙◌}
use Rattle.av_context.specs.Contexts.{at, PutsAt}
use Rattle.av_numbered.specs.Numbered.{slot_at, both, held, joined}
use Rattle.av_numbered.proofs.NumberedLemmas.{at-found, at-missed, missing-puts, removed-whole, removed-puts}
use Rattle.av_numbered.proofs.numbered.Numbered.remove.Goals as goal

pub returns-in_err-key-clause-value : goal.returns-in_err-key-clause-value
returns-in_err-key-clause-value g c =
    c.from_residual.ensures ∙ sym (ap (λ m. at m c.args.number) (sym c.self.view_is) ∙ at-missed c.self.inside.index.entries c.self.inside.rows.slots c.self.inside.values.items c.self.invariant c.args.number (sym c.in_err-key.ensures.value))

pub returns-in_err-key-clause-puts : goal.returns-in_err-key-clause-puts
returns-in_err-key-clause-puts g c =
    subst (λ m. PutsAt m (joined c.remove.new.self.entries (held c.self.inside.rows.slots c.self.inside.values.items)) c.args.number None) c.self.view_is
    (subst (λ i. PutsAt (joined c.self.inside.index.entries (held c.self.inside.rows.slots c.self.inside.values.items)) (joined i (held c.self.inside.rows.slots c.self.inside.values.items)) c.args.number None) (sym c.in_err-key.ensures.unchanged)
    (missing-puts c.self.inside.index.entries c.self.inside.rows.slots c.self.inside.values.items c.self.invariant c.args.number (sym c.in_err-key.ensures.value)))

pub invariant_of-self-2 : goal.invariant_of-self-2
invariant_of-self-2 g c =
    removed-whole c.self.inside.index.entries c.self.inside.rows.slots c.self.inside.values.items c.self.invariant
    c.remove.new.self.entries c.try_remove.new.self.slots c.take-value.new.values.items c.args.number c.in_ok-key.key
    (sym c.in_ok-key.ensures.value) c.remove.ensures.entries c.try_remove.ensures.updates.changed c.take-value.ensures.here c.try_remove.ensures.updates.others c.take-value.ensures.others

pub returns-clause-value : goal.returns-clause-value
returns-clause-value g c =
    let k = c.in_ok-key.key in
    sym (ap (λ m. at m c.args.number) (sym c.self.view_is)
    ∙ (at-found c.self.inside.index.entries c.self.inside.rows.slots c.self.inside.values.items c.self.invariant c.args.number k (sym c.in_ok-key.ensures.value)
    ∙ (ap (λ o. both o (slot_at c.self.inside.values.items k)) (sym c.in-Some.ensures.value) ∙ ap (both (Some c.in-Some.row)) c.take-value.ensures.value)))

pub returns-clause-puts : goal.returns-clause-puts
returns-clause-puts g c =
    subst (λ m. PutsAt m (joined c.remove.new.self.entries (held c.try_remove.new.self.slots c.take-value.new.values.items)) c.args.number None) c.self.view_is
    (removed-puts c.self.inside.index.entries c.self.inside.rows.slots c.self.inside.values.items c.self.invariant
    c.remove.new.self.entries c.try_remove.new.self.slots c.take-value.new.values.items c.args.number c.in_ok-key.key
    (sym c.in_ok-key.ensures.value) c.remove.ensures.entries c.try_remove.ensures.updates.changed c.take-value.ensures.here c.try_remove.ensures.updates.others c.take-value.ensures.others)

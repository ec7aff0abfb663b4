use Rattle.std.proofs.Common.{◌≡◌, Some, sym, ap, subst, ◌∙◌}
use Rattle.av_context.specs.Contexts.{at, PutsAt}
use Rattle.av_numbered.specs.Numbered.{slot_at, held, joined}
use Rattle.av_numbered.proofs.NumberedLemmas.{missed-at, inserted-whole, inserted-puts}
use Rattle.av_numbered.proofs.numbered.Numbered.insert.Goals as goal

pub invariant_of-self-2 : goal.invariant_of-self-2
invariant_of-self-2 g c =
    let key = c.vacant_key-key.result in
    let same : c.insert_reserved.result ≡ key = c.insert_reserved.ensures.key ∙ sym c.vacant_key-key.ensures.value in
    let slots = ap (λ s. s.slots) c.reserve.ensures.rest_kept in
    inserted-whole c.self.inside.index.entries c.self.inside.rows.slots c.self.inside.values.items c.self.invariant
    c.insert.new.self.entries c.insert_reserved.new.self.slots c.put.new.values.items c.args.number key c.args.row c.args.value
    (missed-at c.self.inside.index.entries c.self.inside.rows.slots c.self.inside.values.items c.self.invariant c.args.number (ap (λ m. at m c.args.number) c.self.view_is ∙ c.requires))
    (ap (λ s. slot_at s key) (sym slots) ∙ c.vacant_key-key.ensures.vacant)
    c.in-Ok-insert.ensures.entries
    (ap (slot_at c.insert_reserved.new.self.slots) (sym same) ∙ c.insert_reserved.ensures.updates.changed)
    c.put.ensures.here
    (λ j apart. c.insert_reserved.ensures.updates.others j (λ e. apart (e ∙ same)) ∙ ap (λ s. slot_at s j) slots)
    (λ j apart. c.put.ensures.others j apart ∙ c.make_room.ensures.same j)

pub returns-clause-ok : goal.returns-clause-ok
returns-clause-ok g c =
    let key = c.vacant_key-key.result in
    let same : c.insert_reserved.result ≡ key = c.insert_reserved.ensures.key ∙ sym c.vacant_key-key.ensures.value in
    let slots = ap (λ s. s.slots) c.reserve.ensures.rest_kept in
    subst (λ m. PutsAt m (joined c.insert.new.self.entries (held c.insert_reserved.new.self.slots c.put.new.values.items)) c.args.number (Some (c.args.row, c.args.value))) c.self.view_is
    (inserted-puts c.self.inside.index.entries c.self.inside.rows.slots c.self.inside.values.items c.self.invariant
    c.insert.new.self.entries c.insert_reserved.new.self.slots c.put.new.values.items c.args.number key c.args.row c.args.value
    (missed-at c.self.inside.index.entries c.self.inside.rows.slots c.self.inside.values.items c.self.invariant c.args.number (ap (λ m. at m c.args.number) c.self.view_is ∙ c.requires))
    (ap (λ s. slot_at s key) (sym slots) ∙ c.vacant_key-key.ensures.vacant)
    c.in-Ok-insert.ensures.entries
    (ap (slot_at c.insert_reserved.new.self.slots) (sym same) ∙ c.insert_reserved.ensures.updates.changed)
    c.put.ensures.here
    (λ j apart. c.insert_reserved.ensures.updates.others j (λ e. apart (e ∙ same)) ∙ ap (λ s. slot_at s j) slots)
    (λ j apart. c.put.ensures.others j apart ∙ c.make_room.ensures.same j))

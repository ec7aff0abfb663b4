use Rattle.std.proofs.Common.{IsSome, sym, ap, subst, ◌∙◌}
use Rattle.av_context.specs.Contexts.{at}
use Rattle.av_numbered.specs.Numbered.{slot_at}
use Rattle.av_numbered.proofs.MapLemmas.{not_there}
use Rattle.av_numbered.proofs.NumberedLemmas.{at-found, row_there, slot_there, found-at, value-if, exchanged-whole, exchanged-puts}
use Rattle.av_numbered.proofs.numbered.Numbered.exchange.Goals as goal

pub unreachable-requires : goal.unreachable-requires
unreachable-requires g c =
    not_there (at c.self.inside.index.entries c.args.number) (sym c.get.ensures.value ∙ sym c.in_default.ensures)
    (found-at c.self.inside.index.entries c.self.inside.rows.slots c.self.inside.values.items c.self.invariant c.args.number (subst (λ m. IsSome (at m c.args.number)) (sym c.self.view_is) c.requires.there))

pub write-requires : goal.write-requires
write-requires g c = row_there c.self.inside.index.entries c.self.inside.rows.slots c.self.inside.values.items c.self.invariant c.args.number c.in-Some.key (sym c.get.ensures.value ∙ sym c.in-Some.ensures)

pub change_at-requires-clause-there : goal.change_at-requires-clause-there
change_at-requires-clause-there g c = slot_there c.self.inside.index.entries c.self.inside.rows.slots c.self.inside.values.items c.self.invariant c.args.number c.in-Some.key (sym c.get.ensures.value ∙ sym c.in-Some.ensures)

pub change_at-requires-clause-callable : goal.change_at-requires-clause-callable
change_at-requires-clause-callable g c =
    let k = c.in-Some.key in
    let found = sym c.get.ensures.value ∙ sym c.in-Some.ensures in
    value-if _ (at c.args.self.now c.args.number) (slot_at c.self.inside.rows.slots k) (slot_at c.self.inside.values.items k)
    (ap (λ m. at m c.args.number) (sym c.self.view_is) ∙ at-found c.self.inside.index.entries c.self.inside.rows.slots c.self.inside.values.items c.self.invariant c.args.number k found)
    (row_there c.self.inside.index.entries c.self.inside.rows.slots c.self.inside.values.items c.self.invariant c.args.number k found)
    c.requires.callable

pub invariant_of-self : goal.invariant_of-self
invariant_of-self g c =
    exchanged-whole c.self.inside.index.entries c.self.inside.rows.slots c.self.inside.values.items c.self.invariant c.write.new.rows.slots c.change_at.new.values.items c.args.number c.in-Some.key c.args.row _
    (sym c.get.ensures.value ∙ sym c.in-Some.ensures) c.write.ensures.here c.change_at.ensures.here c.write.ensures.others c.change_at.ensures.others

pub returns : goal.returns
returns g c =
    exchanged-puts c.self.inside.index.entries c.self.inside.rows.slots c.self.inside.values.items c.self.invariant c.write.new.rows.slots c.change_at.new.values.items c.args.number c.in-Some.key c.args.row _
    (sym c.get.ensures.value ∙ sym c.in-Some.ensures) c.write.ensures.here c.change_at.ensures.here c.write.ensures.others c.change_at.ensures.others
    c.args.self.now c.self.view_is

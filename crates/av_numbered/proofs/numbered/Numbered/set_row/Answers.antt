use Rattle.std.proofs.Common.{IsSome, sym, subst, ◌∙◌}
use Rattle.std.specs.Option.{option_map}
use Rattle.av_context.specs.Contexts.{at, PutsAt}
use Rattle.av_numbered.specs.Numbered.{held, joined}
use Rattle.av_numbered.proofs.MapLemmas.{not_there}
use Rattle.av_numbered.proofs.NumberedLemmas.{found-at, row_there, set-whole, set-puts}
use Rattle.av_numbered.proofs.numbered.Numbered.set_row.Goals as goal

pub unreachable-requires : goal.unreachable-requires
unreachable-requires g c =
    not_there (at c.self.inside.index.entries c.args.number) (sym c.get.ensures.value ∙ sym c.in_default.ensures)
    (found-at c.self.inside.index.entries c.self.inside.rows.slots c.self.inside.values.items c.self.invariant c.args.number (subst (λ m. IsSome (at m c.args.number)) (sym c.self.view_is) c.requires))

pub write-requires : goal.write-requires
write-requires g c = row_there c.self.inside.index.entries c.self.inside.rows.slots c.self.inside.values.items c.self.invariant c.args.number c.in-Some.key (sym c.get.ensures.value ∙ sym c.in-Some.ensures)

pub invariant_of-self : goal.invariant_of-self
invariant_of-self g c = set-whole c.self.inside.index.entries c.self.inside.rows.slots c.self.inside.values.items c.self.invariant c.write.new.rows.slots c.args.number c.in-Some.key c.args.row (sym c.get.ensures.value ∙ sym c.in-Some.ensures) c.write.ensures.here c.write.ensures.others

pub returns : goal.returns
returns g c =
    subst (λ m. PutsAt m (joined c.self.inside.index.entries (held c.write.new.rows.slots c.self.inside.values.items)) c.args.number (option_map (λ p. (c.args.row, p.1)) (at m c.args.number))) c.self.view_is
    (set-puts c.self.inside.index.entries c.self.inside.rows.slots c.self.inside.values.items c.self.invariant c.write.new.rows.slots c.args.number c.in-Some.key c.args.row (sym c.get.ensures.value ∙ sym c.in-Some.ensures) c.write.ensures.here c.write.ensures.others)

use Rattle.std.proofs.Common.{option_copied, sym, ap, ◌∙◌}
use Rattle.std.specs.Option.{option_map}
use Rattle.av_context.specs.Contexts.{at}
use Rattle.av_numbered.specs.Numbered.{slot_at}
use Rattle.av_numbered.proofs.NumberedLemmas.{value-both, at-found, at-missed}
use Rattle.av_numbered.proofs.numbered.Numbered.value.Goals as goal

pub returns-in_err-key : goal.returns-in_err-key
returns-in_err-key g c =
    let none = at-missed c.self.inside.index.entries c.self.inside.rows.slots c.self.inside.values.items c.self.invariant c.args.number (sym c.in_err-key.ensures.value) in
    ap option_copied c.from_residual.ensures ∙ sym (ap (λ m. option_map (λ p. p.1) (at m c.args.number)) (sym c.self.view_is) ∙ ap (option_map (λ p. p.1)) none)

pub returns : goal.returns
returns g c =
    let k = c.in_ok-key.field-0.now in
    let found = at-found c.self.inside.index.entries c.self.inside.rows.slots c.self.inside.values.items c.self.invariant c.args.number k (sym c.in_ok-key.ensures.value) in
    c.look.ensures
    ∙ sym (ap (λ m. option_map (λ p. p.1) (at m c.args.number)) (sym c.self.view_is)
    ∙ (ap (option_map (λ p. p.1)) found ∙ value-both (slot_at c.self.inside.rows.slots k) (slot_at c.self.inside.values.items k) (c.self.invariant.matched k)))

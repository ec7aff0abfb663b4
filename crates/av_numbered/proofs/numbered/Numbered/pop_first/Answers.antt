use Rattle.std.proofs.Common.{sym, ap, ◌∙◌}
use Rattle.av_context.specs.Contexts.{at}
use Rattle.av_numbered.proofs.MapLemmas.{none_some}
use Rattle.av_numbered.proofs.NumberedLemmas.{missed-at, first-out}
use Rattle.av_numbered.proofs.numbered.Numbered.pop_first.Goals as goal

pub unreachable-requires : goal.unreachable-requires
unreachable-requires g c =
    let n = c.in_ok-number.number.now in
    none_some (sym (missed-at c.self.inside.index.entries c.self.inside.rows.slots c.self.inside.values.items c.self.invariant n (ap (λ m. at m n) c.self.view_is ∙ sym c.in_default.ensures.value)) ∙ c.in_ok-number.ensures.value)

pub returns-clause-some : goal.returns-clause-some
returns-clause-some g c =
    (first-out c.self.inside.index.entries c.self.inside.rows.slots c.self.inside.values.items c.self.invariant c.in_ok-number.number.now c.in_ok-number._key.now (c.in-Some.row, c.in-Some.value) c.args.self.now c.remove.new.self c.self.view_is c.in_ok-number.ensures.first c.in-Some.ensures.value c.remove.ensures.puts, c.remove.ensures.puts)

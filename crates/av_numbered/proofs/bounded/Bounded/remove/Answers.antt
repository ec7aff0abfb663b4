use Rattle.std.proofs.Common.{◌≡◌, None, IsSomeAnd, refl, sym, ap, subst, ◌∙◌}
use Rattle.av_context.specs.Contexts.{at}
use Rattle.av_numbered.proofs.BoundedLemmas.{at-place, place-low}
use Rattle.av_numbered.proofs.MapLemmas.{puts_at}
use Rattle.av_numbered.proofs.bounded.Bounded.remove.Goals as goal

pub returns-in_err-place-clause-puts : goal.returns-in_err-place-clause-puts
returns-in_err-place-clause-puts g c = puts_at c.args.self.now c.args.self.now c.args.number None c.in_err-place.ensures.ascend c.in_err-place.ensures.ascend c.in_err-place.ensures.none (λ j apart. refl)

pub take_at-number-requires : goal.take_at-number-requires
take_at-number-requires g c = place-low (λ p. p.0 ≡ c.args.number) c.args.self.now c.in_ok-place.place c.in_ok-place.ensures.some

pub returns-clause-value : goal.returns-clause-value
returns-clause-value g c =
    let n = c.take_at-number.result.0 in
    let here : n ≡ c.args.number = subst (λ o. IsSomeAnd o (λ p. p.0 ≡ c.args.number)) c.take_at-number.ensures.value c.in_ok-place.ensures.some in
    sym (ap (at c.args.self.now) (sym here) ∙ at-place c.args.self.now c.in_ok-place.place n (c.take_at-number.result.1, c.take_at-number.result.2) c.in_ok-place.ensures.ascend c.take_at-number.ensures.value)

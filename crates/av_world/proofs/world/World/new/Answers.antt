use Rattle.std.proofs.Common.{[], reverse, sym, subst}
use Rattle.av_world.proofs.WorldLemmas.{kept_start}
use Rattle.av_world.specs.Stage.{at_history}
use Rattle.av_world.specs.Reached.{IsKept}
use Rattle.av_world.proofs.world.World.new.Goals as goal

pub invariant_of-result : goal.invariant_of-result
invariant_of-result c =
    subst (λ xs. IsKept (at_history (reverse xs) c.in_ok-stage.stage)) (sym c.new-2.ensures.items)
    (subst (λ s. IsKept (at_history [] s)) (sym c.in_ok-stage.ensures) (kept_start c.args.number c.args.mode c.args.limits c.values.ensures.in_range))

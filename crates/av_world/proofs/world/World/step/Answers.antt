use Rattle.std.proofs.Common.{◌≡◌, ◌∷◌, ◌++◌, [], Ok, reverse, rules, subst, sym}
use Rattle.av_world.proofs.WorldLemmas.{kept_next, promised, pushed}
use Rattle.av_world.specs.Reached.{IsKept, IsReached}
use Rattle.av_world.specs.Stage.{at_history}
use Rattle.av_history.specs.World.{step_of}
use Rattle.av_world.proofs.world.World.step.Goals as goal

kept_after : (c : goal.After-push_reserved) → IsKept (at_history (reverse c.push_reserved.new.self.items) c.happen-happened.new.self)
kept_after c =
    let here = c.self.inside in
    let e = c.args.event in
    let same : c.as_slice.result.now ≡ here.history.items = search rules in
    let items : c.push_reserved.new.self.items ≡ here.history.items ++ e ∷ [] = search rules in
    let is = subst (λ xs. step_of (at_history (reverse xs) here.stage) e ≡ Ok (c.in-Some.report, at_history (e ∷ reverse xs) c.happen-happened.new.self)) same c.in-Some.ensures in
    kept_next here.stage c.happen-happened.new.self here.history.items c.push_reserved.new.self.items e c.in-Some.report c.self.invariant is (pushed here.history.items c.push_reserved.new.self.items e items)

pub invariant_of-self-2 : goal.invariant_of-self-2
invariant_of-self-2 c = kept_after c

pub returns-clause-promise : goal.returns-clause-promise
returns-clause-promise c = promised (at_history (reverse c.push_reserved.new.self.items) c.happen-happened.new.self) (kept_after c).reached

pub returns-then-is_err-clause-promise : goal.returns-then-is_err-clause-promise
returns-then-is_err-clause-promise c =
    let here = c.self.inside in
    let same : c.reserve.new.self.items ≡ here.history.items = c.reserve.ensures.items in
    promised (at_history (reverse c.reserve.new.self.items) here.stage) (subst (λ xs. IsReached (at_history (reverse xs) here.stage)) (sym same) c.self.invariant.reached)

pub returns-in_default-clause-promise : goal.returns-in_default-clause-promise
returns-in_default-clause-promise c =
    let here = c.self.inside in
    let same : c.reserve.new.self.items ≡ here.history.items = c.reserve.ensures.items in
    let stage : c.happen-happened.new.self ≡ here.stage = search rules in
    promised (at_history (reverse c.reserve.new.self.items) c.happen-happened.new.self)
    (subst (λ xs. IsReached (at_history (reverse xs) c.happen-happened.new.self)) (sym same) (subst (λ s. IsReached (at_history (reverse here.history.items) s)) (sym stage) c.self.invariant.reached))

use Rattle.std.proofs.Common.{arith, ◌≡◌, ◌≤◌, ◌++◌, [], length, take, sym, ap, ◌∙◌}
use Rattle.std.proofs.lemmas.Grind.{common_steps}
use Rattle.av_arrival.proofs.FrontLemmas.{is_all, is_full}
use Rattle.av_arrival.proofs.refusal.Front.pass.Goals as goal

pub returns-after-bytes : goal.returns-after-bytes
returns-after-bytes c =
    let full : length c.bytes.self ≡ 14 = grind (arith, common_steps) in
    sym (is_full 14 c.bytes.self c.bytes.rest.now full) ∙ c.bytes.invariant

pub returns-in_default : goal.returns-in_default
returns-in_default c =
    let few : length c.bytes.self ≤ 14 = grind (arith, common_steps) in
    let none : c.bytes.rest.now ≡ [] = grind (arith, common_steps) in
    sym (is_all 14 c.bytes.self few) ∙ ap (λ r. take 14 (c.bytes.self ++ r)) (sym none) ∙ c.bytes.invariant

use Rattle.std.proofs.Common.{ℕ, ◌≡◌, ◌≤◌, ◌++◌, ◌∷◌, ◌∙◌, [], Vec, map, ap, arith}
use Rattle.std.proofs.lemmas.List.{map-append}
use Rattle.std.specs.Global.{Global}
use Rattle.av_chart.proofs.StoryLemmas.{works_put}
use Rattle.av_chart.proofs.happening.take_lines.Goals as goal

pub loop-index-preserved : goal.loop-index-preserved
loop-index-preserved c =
    let items = λ (t : Vec ℕ Global). t.items in
    let put : map items c.push.new.self.items ≡ map items c.loop-index.told.items ++ c.in_ok-told_work.field-0.items ∷ [] =
    ap (map items) c.in_ok-push.ensures.items ∙ map-append items c.loop-index.told.items (c.in_ok-told_work.field-0 ∷ [])
    in
    let from : c.args.report.now.before.works ≤ c.loop-index.index = c.loop-index.invariant.1 in (
      works_put c.args.world.now c.args.report.now.before.works c.loop-index.index _ _ _ _ from c.loop-index.invariant.0 c.in_ok-told_work.ensures put,
      omega (arith, from),
      omega (arith, c.loop-index.invariant.2),
    )

use Rattle.std.proofs.Common.{◌≡◌, ◌∙◌, slice_get, Some, refl, sym, ap}
use Rattle.std.proofs.lemmas.Option.{slice_get-get_or}
use Rattle.av_chart.proofs.LifeLemmas.{bar_ends}
use Rattle.av_chart.proofs.life.finish.Goals as goal

pub returns : goal.returns
returns c =
    let there : slice_get c.args.bars.now.items c.args.index ≡ Some c.index_mut.result.now =
    slice_get-get_or c.args.bars.now.items c.args.index c.index_mut.result.now c.requires ∙ ap (λ b. Some b) (sym c.index_mut.ensures.value)
    in
    bar_ends c.args.bars.now.items c.args.index c.args.end c.index_mut.result.now _ there refl

use Rattle.std.proofs.Common.{sym}
use Rattle.av_store.specs.Content.{cut_to}
use Rattle.av_store.proofs.StepLemmas.{steps_at_once}
use Rattle.av_store.proofs.table.cut.Goals as goal

pub returns : goal.returns
returns c =
    steps_at_once _ _ c.args.number _ _ (cut_to c.args.limits.now c.args.length) c.cut.result
    (sym c.in-Some.ensures.value) (c.get_mut.follows.holds c.cut.new.self).0 c.cut.ensures

use Rattle.std.proofs.Common.{sym}
use Rattle.av_store.specs.Content.{written}
use Rattle.av_store.proofs.StepLemmas.{steps_at}
use Rattle.av_store.proofs.table.write.Goals as goal

pub returns : goal.returns
returns c =
    steps_at _ _ c.args.number _ _ (written c.args.limits.now c.args.offset c.args.bytes.now) c.write.result
    (sym c.in-Some.ensures.value) (c.get_mut.follows.holds c.write.new.self).0 c.write.ensures

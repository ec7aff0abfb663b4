use Rattle.std.proofs.Common.{refl}
use Rattle.av_gate.proofs.OrderLemmas.{in_order}
use Rattle.av_gate.proofs.checks.are_calls_of.Goals as goal

pub each_once-requires : goal.each_once-requires
each_once-requires c = λ k d less. in_order c.args.start.now c.args.events.now _ (c.if-all_rise.ensures refl k d less)

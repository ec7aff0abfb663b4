use Rattle.std.proofs.Common.{arith}
use Rattle.av_engines.proofs.EventLemmas.{few_disconnected}
use Rattle.av_engines.proofs.watching.disconnect.Goals as goal

pub add-requires : goal.add-requires
add-requires c = let few = few_disconnected c.in_ok-out.out _ _ _ _ _ c.in_ok-out.ensures.event in omega (arith, few, c.in_ok-make_room.ensures.room)

use Rattle.std.proofs.Common.{arith}
use Rattle.av_ends.proofs.FloorLemmas.{loads}
use Rattle.av_ends.proofs.floor.Floor.load.Goals as goal

pub load-requires : goal.load-requires
load-requires c = (c.requires, omega (arith, c.args.self.now.one_word), loads _ _ _)

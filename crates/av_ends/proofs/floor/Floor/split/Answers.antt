use Rattle.std.proofs.Common.{arith}
use Rattle.av_ends.proofs.FloorLemmas.{splits}
use Rattle.av_ends.proofs.floor.Floor.split.Goals as goal

pub split_seat-second-requires : goal.split_seat-second-requires
split_seat-second-requires c = (c.requires, omega (arith, c.args.self.now.one_word), splits _ _)

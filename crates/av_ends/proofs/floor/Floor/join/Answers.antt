use Rattle.std.proofs.Common.{arith}
use Rattle.av_ends.proofs.FloorLemmas.{joins}
use Rattle.av_ends.proofs.floor.Floor.join.Goals as goal

pub join_seat-requires : goal.join_seat-requires
join_seat-requires c = (c.requires.one, c.requires.other, c.args.other.empty, omega (arith, c.args.self.now.one_word), joins _ _ _ _)

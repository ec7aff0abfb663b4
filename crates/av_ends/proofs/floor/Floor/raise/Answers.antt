use Rattle.std.proofs.Common.{arith}
use Rattle.av_ends.proofs.FloorLemmas.{raises}
use Rattle.av_ends.proofs.floor.Floor.raise.Goals as goal

pub fetch_max-requires : goal.fetch_max-requires
fetch_max-requires c = (c.requires, omega (arith, c.args.self.now.one_word), raises _ _ _ _)

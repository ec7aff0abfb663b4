use Rattle.std.proofs.Common.{arith, rules}
use Rattle.av_log.proofs.StampLemmas.{placed_date}
use Rattle.av_log.proofs.stamp.stamped.Goals as goal

pub returns : goal.returns
returns c =
    rw c.month_of.ensures
    (rw c.to_bytes-text.ensures
    (placed_date c.args.date.parts c.args.millis (search rules) (omega arith) (search rules) (search rules)))

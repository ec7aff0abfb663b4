use Rattle.std.proofs.Common.{arith, rules}
use Rattle.av_clamd.proofs.DateLemmas.{placed_date}
use Rattle.av_clamd.proofs.about.dated.Goals as goal

pub returns : goal.returns
returns c =
    rw c.spaced.ensures
    (rw c.to_bytes-text.ensures
    (placed_date c.args.date.parts (search rules) (omega arith) (search rules) (search rules)))

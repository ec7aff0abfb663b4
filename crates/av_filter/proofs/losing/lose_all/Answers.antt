use Rattle.std.proofs.Common.{rules}
use Rattle.av_filter.proofs.LosingLemmas.{lost_where}
use Rattle.av_filter.specs.Conduct.{loses_all}
use Rattle.av_filter.proofs.losing.lose_all.Goals as goal

pub returns : goal.returns
unfolding loses_all
returns c = rw (lost_where c.args.table.now c.args.volume.now c.args.port c.requires) (search rules)

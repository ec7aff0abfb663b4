use Rattle.av_numbered.proofs.BoundedLemmas.{row-at}
use Rattle.av_numbered.proofs.bounded.Bounded.row.Goals as goal

pub returns : goal.returns
returns g c = row-at c.args.self.now c.in_ok-place.place c.args.number c.in_ok-_number._number c.in_ok-_number.row c.in_ok-place.ensures.ascend c.in_ok-place.ensures.some c.in_ok-_number.ensures

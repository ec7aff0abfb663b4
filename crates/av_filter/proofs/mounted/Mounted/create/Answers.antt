use Rattle.av_filter.proofs.StoringLemmas.{fits_created}
use Rattle.av_filter.proofs.mounted.Mounted.create.Goals as goal

pub invariant_of-self : goal.invariant_of-self
invariant_of-self c = fits_created c.create.result _ _ _ c.args.name.now c.create.ensures c.self.invariant

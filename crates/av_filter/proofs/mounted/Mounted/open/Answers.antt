use Rattle.av_filter.proofs.MountedLemmas.{fits_met}
use Rattle.av_filter.proofs.mounted.Mounted.open.Goals as goal

pub invariant_of-self : goal.invariant_of-self
invariant_of-self c = fits_met c.open.result _ _ _ _ _ _ c.open.ensures.event c.self.invariant c.open.ensures.fits

use Rattle.av_filter.proofs.MountedLemmas.{fits_met}
use Rattle.av_filter.proofs.mounted.Mounted.remove.Goals as goal

pub invariant_of-self : goal.invariant_of-self
invariant_of-self c = fits_met c.remove.result _ _ _ _ _ _ c.remove.ensures.event c.self.invariant c.remove.ensures.fits

use Rattle.av_filter.proofs.MountedLemmas.{fits_met}
use Rattle.av_filter.proofs.mounted.Mounted.write.Goals as goal

pub invariant_of-self : goal.invariant_of-self
invariant_of-self c = fits_met c.write.result _ _ _ _ _ _ c.write.ensures.event c.self.invariant c.write.ensures.fits

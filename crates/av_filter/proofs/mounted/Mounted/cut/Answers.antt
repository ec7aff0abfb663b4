use Rattle.av_filter.proofs.MountedLemmas.{fits_met}
use Rattle.av_filter.proofs.mounted.Mounted.cut.Goals as goal

pub invariant_of-self : goal.invariant_of-self
invariant_of-self c = fits_met c.cut.result _ _ _ _ _ _ c.cut.ensures.event c.self.invariant c.cut.ensures.fits

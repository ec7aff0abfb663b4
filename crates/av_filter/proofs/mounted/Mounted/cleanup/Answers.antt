use Rattle.av_filter.proofs.MountedLemmas.{fits_always}
use Rattle.av_filter.proofs.mounted.Mounted.cleanup.Goals as goal

pub invariant_of-self : goal.invariant_of-self
invariant_of-self c = fits_always c.cleanup.result _ _ _ _ _ c.cleanup.ensures.event c.self.invariant c.cleanup.ensures.fits

use Rattle.av_filter.proofs.MountedLemmas.{fits_always}
use Rattle.av_filter.proofs.mounted.Mounted.timeout.Goals as goal

pub invariant_of-self : goal.invariant_of-self
invariant_of-self c = fits_always c.timeout.result _ _ _ _ _ c.timeout.ensures.event c.self.invariant c.timeout.ensures.fits

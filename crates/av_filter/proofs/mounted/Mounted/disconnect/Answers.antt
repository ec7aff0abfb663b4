use Rattle.av_filter.proofs.MountedLemmas.{fits_always}
use Rattle.av_filter.proofs.mounted.Mounted.disconnect.Goals as goal

pub invariant_of-self : goal.invariant_of-self
invariant_of-self c = fits_always c.disconnect.result _ _ _ _ _ c.disconnect.ensures.event c.self.invariant c.disconnect.ensures.fits

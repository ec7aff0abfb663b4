use Rattle.av_filter.proofs.MountedLemmas.{fits_always}
use Rattle.av_filter.proofs.mounted.Mounted.message.Goals as goal

pub invariant_of-self : goal.invariant_of-self
invariant_of-self c = fits_always c.message.result _ _ _ _ _ c.message.ensures.event c.self.invariant c.message.ensures.fits

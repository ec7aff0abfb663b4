use Rattle.av_filter.proofs.MountedLemmas.{fits_remounted}
use Rattle.av_filter.proofs.mounted.Mounted.remount.Goals as goal

pub invariant_of-self : goal.invariant_of-self
invariant_of-self c = fits_remounted c.remount.result _ _ _ _ c.remount.ensures.err c.self.invariant c.remount.ensures.fits

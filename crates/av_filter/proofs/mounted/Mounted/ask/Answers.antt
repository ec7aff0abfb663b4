use Rattle.av_filter.proofs.MountedLemmas.{fits_called}
use Rattle.av_filter.proofs.mounted.Mounted.ask.Goals as goal

pub invariant_of-self : goal.invariant_of-self
invariant_of-self c = fits_called c.ask.result _ _ _ _ _ c.ask.ensures c.question_count-coherent.ensures.coherent c.self.invariant

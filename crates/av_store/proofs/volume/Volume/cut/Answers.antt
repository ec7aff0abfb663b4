use Rattle.av_store.specs.Content.{cut_to}
use Rattle.av_store.proofs.BoundLemmas.{sound_cut}
use Rattle.av_store.proofs.StepLemmas.{kept_at_once, cut_keeps}
use Rattle.av_store.proofs.volume.Volume.cut.Goals as goal

pub invariant_of-self : goal.invariant_of-self
invariant_of-self c = (
  kept_at_once _ _ _ _ c.get.result (cut_to c.self.inside.limits c.args.length) c.cut.result
      (cut_keeps c.self.inside.limits c.args.length) c.self.invariant.0 c.cut.ensures,
  sound_cut c.self.inside.limits c.self.inside.last c.self.inside.rows.entries _ c.get.result c.args.length c.cut.result c.self.invariant.1 c.cut.ensures,
)

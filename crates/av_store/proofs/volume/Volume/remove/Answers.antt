use Rattle.av_store.proofs.BoundLemmas.{sound_removed}
use Rattle.av_store.proofs.NameLemmas.{indexed_removed}
use Rattle.av_store.proofs.volume.Volume.remove.Goals as goal

pub invariant_of-self : goal.invariant_of-self
invariant_of-self c = (
  indexed_removed _ _ _ _ _ c.get.result c.remove.result c.self.invariant.0 c.remove.ensures.rows c.remove.ensures.names c.remove.ensures.refused,
  sound_removed c.self.inside.limits c.self.inside.last c.self.inside.rows.entries _ c.get.result c.remove.result c.self.invariant.1 c.remove.ensures.rows,
)

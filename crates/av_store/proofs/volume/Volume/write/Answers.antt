use Rattle.av_store.specs.Content.{written}
use Rattle.av_store.proofs.BoundLemmas.{sound_written}
use Rattle.av_store.proofs.StepLemmas.{kept_by_steps, written_keeps}
use Rattle.av_store.proofs.volume.Volume.write.Goals as goal

pub invariant_of-self : goal.invariant_of-self
invariant_of-self c = (
  kept_by_steps _ _ _ _ c.get.result (written c.self.inside.limits c.args.offset c.args.bytes.now) c.write.result
      (written_keeps c.self.inside.limits c.args.offset c.args.bytes.now) c.self.invariant.0 c.write.ensures,
  sound_written c.self.inside.limits c.self.inside.last c.self.inside.rows.entries _ c.get.result c.args.offset c.args.bytes.now c.write.result c.self.invariant.1 c.write.ensures,
)

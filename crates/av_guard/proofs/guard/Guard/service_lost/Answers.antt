use Rattle.std.proofs.Common.{refl, sym, ap, ◌∙◌, length}
use Rattle.av_filter.specs.Conduct.{Disconnects}
use Rattle.av_guard.proofs.SoundLemmas.{paired_after, written_same}
use Rattle.av_guard.specs.Asking.{bytes_kept}
use Rattle.av_store.specs.Store.{Store}
use Rattle.av_guard.proofs.guard.Guard.service_lost.Goals as goal

pub invariant_of-self-2 : goal.invariant_of-self-2
invariant_of-self-2 c = record {
  written = written_same _ _ _ (ap (λ (v : Store). v.streams) c.disconnect.ensures.still) c.self.invariant.written;
  paired = paired_after _ _ _ _ _ _ _ (Disconnects c.args.port) _ c.filter.ensures.fits c.self.invariant.written c.self.invariant.paired refl tt c.in_ok-out.ensures.event c.settle.ensures.waiting;
  counted = c.settle.ensures.counted;
  count = c.settle.ensures.shelf.0 ∙ c.self.invariant.count ∙ sym (ap (λ (v : Store). length v.streams) c.disconnect.ensures.still);
  bytes = c.settle.ensures.shelf.1 ∙ c.self.invariant.bytes ∙ sym (ap bytes_kept c.disconnect.ensures.still);
}

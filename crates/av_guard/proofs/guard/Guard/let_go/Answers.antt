use Rattle.std.proofs.Common.{refl, sym, ap, ◌∙◌, arith, length}
use Rattle.std.specs.Option.{option_map}
use Rattle.av_guard.proofs.StateLemmas.{let_go_counts}
use Rattle.av_filter.specs.Conduct.{Changes}
use Rattle.av_guard.proofs.SoundLemmas.{paired_after, written_removed}
use Rattle.av_guard.specs.Shelf.{Kept}
use Rattle.av_store.specs.Files.{Remove}
use Rattle.av_store.specs.Rows.{stream_at}
use Rattle.av_store.specs.Store.{Store}
use Rattle.av_store.specs.declared.stream.Stream.{Stream}
use Rattle.av_guard.proofs.guard.Guard.let_go.Goals as goal

pub invariant_of-self : goal.invariant_of-self
invariant_of-self c =
    let less = let_go_counts c.self.inside.mounted.table c.self.inside.mounted.volume c.remove.new.mounted.volume c.args.stream c.in-Some.bytes c.in-Ok-remove.ensures.event.volume (sym c.in-Some.is ∙ c.length.ensures ∙ ap (λ (v : Store). option_map (λ (x : Stream). length x.bytes) (stream_at c.args.stream v.streams)) c.volume.ensures) in
    let gone = c.remove-in-Ok-remove.ensures in
    record {
      written = written_removed _ _ _ _ c.args.stream c.in-Ok-remove.ensures.event.volume c.self.invariant.written;
      paired = paired_after _ _ _ _ _ _ _ (Changes (Remove c.args.stream)) _ c.filter.ensures.fits c.self.invariant.written c.self.invariant.paired refl tt c.in-Ok-remove.ensures.event c.settle.ensures.waiting;
      counted = c.settle.ensures.counted;
      count = omega (arith, c.settle.ensures.shelf.0, ap (λ (k : Kept). k.count) gone, c.self.invariant.count, less.count);
      bytes = omega (arith, c.settle.ensures.shelf.1, ap (λ (k : Kept). k.bytes) gone, c.self.invariant.bytes, less.bytes);
    }

use Rattle.std.proofs.Common.{◌+◌, sym, ap, ◌∙◌, length}
use Rattle.av_filter.proofs.BoundLemmas.{leads_to}
use Rattle.av_filter.specs.Conduct.{Opens}
use Rattle.av_guard.proofs.CountLemmas.{restored}
use Rattle.av_guard.proofs.StateLemmas.{back}
use Rattle.av_guard.proofs.SoundLemmas.{free_at, paired_back, paired_opened, written_same}
use Rattle.av_guard.specs.Asking.{bytes_in}
use Rattle.av_guard.specs.Telling.{left_by}
use Rattle.av_guard.specs.Shelf.{Kept}
use Rattle.av_store.specs.Store.{Store}
use Rattle.av_guard.proofs.guard.Guard.submit.Goals as goal

pub enter-requires-clause-free : goal.enter-requires-clause-free
enter-requires-clause-free c =
    free_at _ c.self.inside.mounted.volume _ _ c.filter.ensures.fits c.self.invariant.paired (ap (λ n. n + 1) (c.opens-number.ensures ∙ ap (λ (v : Store). v.opens) c.volume.ensures))

pub invariant_of-self-in-Ok-open : goal.invariant_of-self-in-Ok-open
invariant_of-self-in-Ok-open c =
    let event = c.in-Ok-open.ensures.event in
    let streams = ap (λ (w : Store). w.streams) (event.volume ∙ leads_to c.self.inside.mounted.table c.self.inside.mounted.volume (Opens c.args.stream 0)) in
    record {
      written = written_same _ _ _ streams c.self.invariant.written;
      paired = paired_opened _ c.self.inside.mounted.table _ c.self.inside.mounted.volume _ c.self.inside.waiting.entries _ (record { client = c.args.client; tag = c.args.tag; stream = c.args.stream }) _ 0 c.in-Ok-open.out (ap (λ n. n + 1) (c.opens-number.ensures ∙ ap (λ (v : Store). v.opens) c.volume.ensures)) c.filter.ensures.fits c.self.invariant.written c.self.invariant.paired event (c.settle.ensures.waiting ∙ ap (λ m. left_by m c.in-Ok-open.out.answers.items) c.in-Ok-enter.ensures.ok);
      counted = c.settle.ensures.counted;
      count = c.settle.ensures.shelf.0 ∙ ap (λ (k : Kept). k.count) c.touch.ensures ∙ c.enter.ensures.shelf.0 ∙ c.self.invariant.count ∙ sym (ap length streams);
      bytes = c.settle.ensures.shelf.1 ∙ ap (λ (k : Kept). k.bytes) c.touch.ensures ∙ c.enter.ensures.shelf.1 ∙ c.self.invariant.bytes ∙ sym (ap bytes_in streams);
    }

pub invariant_of-self-in-Err-open : goal.invariant_of-self-in-Err-open
invariant_of-self-in-Err-open c =
    let err = c.in-Err-open.ensures.event in
    let streams = ap (λ (w : Store). w.streams) err.1 in
    let number = ap (λ n. n + 1) (c.opens-number.ensures ∙ ap (λ (v : Store). v.opens) c.volume.ensures) in
    let waiting = restored _ _ _ _ _ c.leave.ensures.waiting c.in-Ok-enter.ensures.ok (free_at _ c.self.inside.mounted.volume _ _ c.filter.ensures.fits c.self.invariant.paired number) in
    record {
      written = written_same _ _ _ streams c.self.invariant.written;
      paired = paired_back _ _ _ _ err.0 waiting c.self.invariant.paired;
      counted = c.leave.ensures.counted;
      count = c.leave.ensures.shelf.0 ∙ c.enter.ensures.shelf.0 ∙ c.self.invariant.count ∙ sym (ap length streams);
      bytes = c.leave.ensures.shelf.1 ∙ c.enter.ensures.shelf.1 ∙ c.self.invariant.bytes ∙ sym (ap bytes_in streams);
    }

pub returns-in-Err-open : goal.returns-in-Err-open
returns-in-Err-open c =
    let number = ap (λ n. n + 1) (c.opens-number.ensures ∙ ap (λ (v : Store). v.opens) c.volume.ensures) in
    let away = free_at _ c.self.inside.mounted.volume _ _ c.filter.ensures.fits c.self.invariant.paired number in
    rw (← c.self.view_is)
    (back _ _ _ _ c.in-Err-open.ensures.event.0 c.in-Err-open.ensures.event.1
    (restored _ _ _ _ _ c.leave.ensures.waiting c.in-Ok-enter.ensures.ok away))

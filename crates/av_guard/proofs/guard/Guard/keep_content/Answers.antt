use Rattle.std.proofs.Common.{◌≡◌, true, refl, sym, subst, ap, ◌∙◌, arith}
use Rattle.av_guard.specs.Shelf.{Kept, waits_of}
use Rattle.std.specs.Prelude.{is_some}
use Rattle.std.specs.Result.{result_err}
use Rattle.av_store.specs.Store.{Store, create_of}
use Rattle.av_guard.proofs.KeepLemmas.{more_bytes, more_count}
use Rattle.av_guard.proofs.SoundLemmas.{IsNameOf, free_name, written_more, written_same}
use Rattle.av_guard.specs.State.{State}
use Rattle.av_guard.specs.Waiting.{ArePaired}
use Rattle.av_guard.proofs.guard.Guard.keep_content.Goals as goal

pub returns-in-Some : goal.returns-in-Some
returns-in-Some c = rw (← c.self.view_is) (record { kept = (refl, subst (λ (v : Store). is_some (result_err (create_of v c.args.name.now)) ≡ true) c.volume.ensures (sym (ap is_some c.create_refusal.ensures.fault) ∙ ap is_some c.in-Some.is), refl) })

pub invariant_of-self-in-Ok-store : goal.invariant_of-self-in-Ok-store
invariant_of-self-in-Ok-store c =
    let stored = c.in-Ok-store.ensures.stored in
    let added = c.in-Ok.ensures.ok in
    record {
      written = written_same _ _ _ stored.streams (written_more _ _ _ _ _ c.self.invariant.written (subst (λ (g : State). IsNameOf g.key c.args.content.now c.args.name.now) (sym c.self.view_is) (free_name c.args.self.now.key c.args.self.now.volume c.args.content.now c.args.name.now c.requires.place)));
      paired = subst (λ ps. ArePaired ps c.self.inside.waiting.entries) (sym stored.pended) c.self.invariant.paired;
      counted = λ s. ap (λ (k : Kept). waits_of k.waits s) added ∙ c.self.invariant.counted s;
      count = omega (arith, ap (λ (k : Kept). k.count) added, c.self.invariant.count, more_count _ _ _ _ _ _ stored);
      bytes = omega (arith, ap (λ (k : Kept). k.bytes) added, c.self.invariant.bytes, more_bytes _ _ _ _ _ _ stored);
    }

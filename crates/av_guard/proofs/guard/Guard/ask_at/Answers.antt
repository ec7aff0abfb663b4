use Rattle.std.proofs.Common.{◌-◌, ◌∙◌, ap, subst}
use Rattle.av_guard.proofs.StateLemmas.{asked_new, left_over}
use Rattle.av_guard.specs.Kept.{AsksNew}
use Rattle.av_guard.specs.Asking.{place_of}
use Rattle.av_guard.specs.Place.{IsPlace}
use Rattle.av_store.specs.Store.{Store, greatest}
use Rattle.av_guard.proofs.guard.Guard.ask_at.Goals as goal

pub returns-in-Free : goal.returns-in-Free
returns-in-Free c =
    asked_new c.args.self.now c.ask_new.new.self c.args.client c.args.tag c.in-Free.name.items c.args.content.now c.ask_new.result
    (rw (← c.self.view_is) (left_over c.self.inside.mounted.volume.opens _ (c.opens_left.ensures.left ∙ ap (λ (v : Store). greatest - v.opens) c.volume.ensures) c.if-opens_left-eq0.false))
    (subst (λ p. IsPlace p (place_of c.args.self.now c.args.content.now)) c.in-Free.is c.requires.place)
    (subst (λ n. AsksNew c.args.self.now c.ask_new.new.self c.args.client c.args.tag n c.args.content.now c.ask_new.result) c.as_slice.ensures.value c.ask_new.ensures)

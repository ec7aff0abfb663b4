use Rattle.std.proofs.Common.{◌≡◌, ap, false, sym, subst, ◌∙◌}
use Rattle.av_guard.proofs.AwaitedLemmas.{asked_waits}
use Rattle.av_guard.proofs.KnownLemmas.{class_is, known_told}
use Rattle.av_guard.specs.Asking.{Takes, class_of, place_of}
use Rattle.av_guard.specs.Class.{is_busy_with}
use Rattle.av_guard.specs.Place.{IsPlace, place_from}
use Rattle.av_guard.proofs.guard.Guard.ask.Goals as goal

pub returns-in-Ok-clause-known : goal.returns-in-Ok-clause-known
returns-in-Ok-clause-known c =
    let takes : Takes c.args.self.now c.ask_at.new.self c.in-Ok.given c.args.client c.args.tag c.args.content.items =
    subst (λ b. Takes c.args.self.now c.ask_at.new.self c.in-Ok.given c.args.client c.args.tag b) c.as_slice-2.ensures.value (c.in-Ok.ensures.1, c.in-Ok.ensures.2) in
    known_told c.args.self.now c.ask_at.new.self c.args.client c.args.tag c.args.content.items c.in-Ok.given (rw (← c.self.view_is) c.filter-coherent.ensures.fits) (rw (← c.self.view_is) c.self.invariant.paired)
    (rw (← c.self.view_is) (sym c.contains.ensures ∙ c.if-not-contains.false)) takes

pub returns-in-Ok-clause-asked : goal.returns-in-Ok-clause-asked
returns-in-Ok-clause-asked c =
    let takes : Takes c.args.self.now c.ask_at.new.self c.in-Ok.given c.args.client c.args.tag c.args.content.items =
    subst (λ b. Takes c.args.self.now c.ask_at.new.self c.in-Ok.given c.args.client c.args.tag b) c.as_slice-2.ensures.value (c.in-Ok.ensures.1, c.in-Ok.ensures.2) in
    let place : IsPlace c.place_of-place.result (place_of c.args.self.now c.as_slice.result.now) = rw (← c.self.view_is) (subst (λ v. IsPlace c.place_of-place.result (place_from 16 0 c.self.inside.key v c.as_slice.result.now)) c.volume.ensures c.place_of-place.ensures) in
    let class : c.class_at.result ≡ class_of c.args.self.now c.args.content.items = c.class_at.ensures ∙ class_is c.args.self.now _ (place_of c.args.self.now c.as_slice.result.now) place ∙ ap (class_of c.args.self.now) c.as_slice.ensures.value in
    let free : is_busy_with c.args.self.now (class_of c.args.self.now c.args.content.items) ≡ false = ap (is_busy_with c.args.self.now) (sym class) ∙ sym c.is_busy.ensures ∙ c.if-is_busy.false in
    asked_waits c.args.self.now c.ask_at.new.self c.args.client c.args.tag c.args.content.items c.in-Ok.given (rw (← c.self.view_is) c.filter-coherent.ensures.coherent) (rw (← c.self.view_is) c.self.invariant.paired) free takes

use Rattle.std.proofs.Common.{◌≡◌, Some, List, refl, subst, slice_get}
use Rattle.std.proofs.lemmas.Option.{slice_get_read}
use Rattle.av_filter.specs.Audit.{FilterEntry}
use Rattle.av_gate.proofs.ClaimLemmas.{found}
use Rattle.av_gate.proofs.locked.Locked.stands.Goals as goal
use Rattle.av_gate.specs.Book.{Book}
use Rattle.av_gate.specs.Claims.{Stands}
use Rattle.av_pend.specs.declared.answer.Answer.{Answer}

pub returns : goal.returns
returns c = λ told.
    let s = c.self.inside in
    let x = c.in-Some-get.entry.now in
    let a = c.in-Some-get-2.answer.now in
    let said = c.is_told.ensures.0 told in
    let event = c.in-Some-get.ensures.lookup in
    let answer = c.in-Some-get-2.ensures.lookup in
    let here : slice_get x.answers c.in-Some.place.now.answer ≡ Some a = subst (λ (given : List Answer). slice_get given c.in-Some.place.now.answer ≡ Some a) c.answers.ensures (slice_get_read _ _ _ _ refl answer.3.0 answer.1) in
    let at : slice_get s.events.items c.in-Some.place.now.event ≡ Some x = subst (λ (es : List FilterEntry). slice_get es c.in-Some.place.now.event ≡ Some x) c.deref-2.ensures.value (slice_get_read _ _ _ _ refl event.3.0 event.1) in
    subst (λ (b : Book). Stands b.events c.args.receipt.now) c.self.view_is
    (found c.audits_answer_once.ensures s.start s.mode s.limits s.events.items c.self.invariant.legal c.args.receipt.now c.in-Some.place.now.event x c.in-Some.place.now.answer a at here said.0 said.1)

use Rattle.std.proofs.Common.{◌≡◌, List, [], Some, ◌∙◌, refl, slice_get, subst, sym, take}
use Rattle.std.proofs.lemmas.Option.{get_or_from_slice_get, slice_get_read}
use Rattle.av_desk.specs.Audit.{opened_by}
use Rattle.av_service.specs.Audit.{Call, ServiceEntry, lent_by, sets_after}
use Rattle.av_service.specs.Work.{WorkState}
use Rattle.av_sigset.specs.Publication.{Publication}
use Rattle.av_history.specs.Audits.{IsOfWorks}
use Rattle.av_shared.proofs.works.is_own_at.Goals as goal

pub returns-in-Some : goal.returns-in-Some
returns-in-Some c = λ yes.
    let xs : List ServiceEntry = c.args.audit.now.events.items in
    let sets : List Publication = opened_by c.args.audit.now in
    let works : List WorkState = lent_by [] (take c.args.at xs) in
    let entry : ServiceEntry = c.in-Some.entry.now in
    let got = c.in-Some.ensures.lookup in
    let here : slice_get xs c.args.at ≡ Some entry = subst (λ (es : List ServiceEntry). slice_get es c.args.at ≡ Some entry) c.deref.ensures.value (slice_get_read _ _ _ _ refl got.3.0 got.1) in
    let own : IsOfWorks sets works entry.call = subst (IsOfWorks sets works) c.event.ensures (c.is_own.ensures.own yes) in
    let same : sets_after sets entry.call ≡ sets = subst (λ (y : Call). sets_after sets y ≡ sets) c.event.ensures (c.is_own.ensures.same yes) in
    let is : (x : ServiceEntry) → slice_get xs c.args.at ≡ Some x → entry ≡ x =
    λ x e. sym (get_or_from_slice_get xs c.args.at entry entry here) ∙ get_or_from_slice_get xs c.args.at x entry e in
    record {
      own = λ x e. subst (λ (y : ServiceEntry). IsOfWorks sets works y.call) (is x e) own;
      same = λ x e. subst (λ (y : ServiceEntry). sets_after sets y.call ≡ sets) (is x e) same;
    }

use Rattle.std.proofs.Common.{◌≡◌, ◌<◌, ℕ, List, [], Some, ap, inl, refl, sym, ◌∙◌, slice_get, subst, arith, rules}
use Rattle.std.proofs.lemmas.Option.{slice_get_read}
use Rattle.av_base.specs.Among.{Among}
use Rattle.av_desk.specs.Audit.{opened_by, started_by}
use Rattle.av_match.specs.Scanning.{ScanState, fitting, if_found, run}
use Rattle.av_service.specs.Audit.{Call, ServiceEntry}
use Rattle.av_service.specs.Conduct.{Finishes, ServiceEvent}
use Rattle.av_service.specs.Work.{WorkState}
use Rattle.av_sigset.specs.Publication.{published_as}
use Rattle.av_history.specs.World.{or_none}
use Rattle.av_shared.proofs.WorkLemmas.{IsLentFor, bytes_of, lent_for, lent_has}
use Rattle.av_shared.proofs.works.is_run.Goals as goal

pub returns-in-Some-came : goal.returns-in-Some-came
returns-in-Some-came c = λ yes.
    let xs : List ServiceEntry = c.args.audit.now.events.items in
    let place = c.in-Some.place.now in
    let x : ServiceEntry = c.in-Some-get.lender.now in
    let chunk : List ℕ = c.in-Some-came.chunk.now in
    let lent = c.in-Some-lent.ensures.some in
    let k : WorkState = lent.work in
    let came = c.in-Some-came.ensures in
    let legal = c.requires.legal in
    let got = c.in-Some-get.ensures.lookup in
    let at : slice_get xs place ≡ Some x = subst (λ (es : List ServiceEntry). slice_get es place ≡ Some x) c.deref.ensures.value (slice_get_read _ _ _ _ refl got.3.0 got.1) in
    let early : place < c.args.at = omega arith in
    let here : Among k x.works = subst (Among k) (sym lent.only) (inl refl) in
    let for_it : IsLentFor x.call k = lent_for xs place x k (opened_by c.args.audit.now) (started_by c.args.audit.now) legal.legal at here in
    let bytes : k.chunk ≡ chunk = bytes_of came.message came.id came.offset chunk k came.body (subst (λ (y : Call). IsLentFor y k) came.call for_it) in
    let lease : c.args.lease ≡ k.lease = search (rules, lent.lease_is) in
    let version : k.version ≡ c.args.automaton.now.version = search (rules, lent.version_is) in
    let named : published_as (opened_by c.args.audit.now) k.version ≡ Some c.args.automaton.now.patterns = ap (published_as (opened_by c.args.audit.now)) version ∙ c.requires.published in
    let f : ScanState → List ℕ → ScanState = λ s b. run c.args.automaton.now.patterns s (fitting s b) in
    let scan : c.args.scan ≡ f k.scan k.chunk = sym (c.is_same.ensures yes) ∙ (c.run_again.ensures ∙ (ap (λ s. f s chunk) lent.scan_is ∙ ap (f k.scan) (sym bytes))) in
    let right : c.args.scan ≡ run (or_none (published_as (opened_by c.args.audit.now) k.version)) k.scan (fitting k.scan k.chunk) =
    scan ∙ ap (λ o. run (or_none o) k.scan (fitting k.scan k.chunk)) (sym named) in
    let h : ScanState → ServiceEvent = λ s. Finishes k.lease s (if_found s) in
    (k, lent_has xs place c.args.at x k [] at early here, ap (λ l. Finishes l c.args.scan (if_found c.args.scan)) lease ∙ ap h right)

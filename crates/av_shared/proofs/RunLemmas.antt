-- What comes back to a desk as the runs of the works that it lent are its own works.
use Rattle.std.proofs.Common.{◌≡◌, ◌+◌, ◌≤◌, List, [], ◌∷◌, ◌++◌, length, Option, None, Some, ap, ap₂, refl, sym, subst, ◌∙◌, inl}
use Rattle.std.specs.List.{AllByRecursion as Each}
use Rattle.std.specs.Option.{option_to_list}
use Rattle.av_base.proofs.AmongLemmas.{among_each, among_left, among_right}
use Rattle.av_base.specs.Among.{Among}
use Rattle.av_desk.specs.Lent.{AreLent, LentState}
use Rattle.av_match.specs.Match.{if_hit, verdict}
use Rattle.av_match.specs.Scanning.{Compiled, IsScan, fitting, if_found, run}
use Rattle.av_pool.specs.Run.{IsRunOf}
use Rattle.av_service.specs.Audit.{By, Call, IsAccepted, IsCatalogue, IsServiceAudit, Publishes, ServiceEntry, respond, sets_after}
use Rattle.av_service.specs.Conduct.{Connects, Disconnects, Finishes, Receives, Restarts}
use Rattle.av_service.specs.Conduct as service
use Rattle.av_service.specs.Desk.{Desk}
use Rattle.av_service.specs.Work.{DoneState, WorkState}
use Rattle.av_shared.specs.Runs.{FinishesItsRuns, IsOfRuns, RunWorksHaveVerdicts}
use Rattle.av_sigset.specs.Publication.{Publication, published_as}
use Rattle.av_sigset.specs.declared.signature.Pattern.{Pattern}
use Rattle.av_history.proofs.UnionLemmas.{catalogue_after, published_after}
use Rattle.av_history.specs.Audits.{FinishesItsWorks, IsOfWorks}
use Rattle.av_history.specs.World.{or_none, scan_after}

-- a work was lent, with the automaton of the patterns published as its version
pub record IsKnown (sets : List Publication) (works : List WorkState) (l : LentState) : Type 0 where
  pub work : Among l.work works
  pub published : published_as sets l.work.version ≡ Some l.automaton.patterns

-- what the run of it gave is the work done
run_done : (sets : List Publication) (works : List WorkState) (l : LentState) (d : DoneState) → IsKnown sets works l → IsRunOf l d → d.scan ≡ scan_after sets l.work
run_done sets works l d known is =
    ap (λ (x : DoneState). x.scan) is.done
    ∙ ap (λ (o : Option (List Pattern)). run (or_none o) l.work.scan (fitting l.work.scan l.work.chunk)) (sym known.published)

own : (sets : List Publication) (works : List WorkState) (lents : List LentState) (c : Call) → Each (IsKnown sets works) lents → IsOfRuns lents c → IsOfWorks sets works c
own sets works lents (By Connects) known h = tt
own sets works lents (By Disconnects) known h = tt
own sets works lents (By (Receives m)) known h = tt
own sets works lents (By (service.Publishes v)) known h = tt
own sets works lents (By (Restarts v)) known h = tt
own sets works lents (Publishes v ps) known h = tt
own sets works lents (By (Finishes lease scan hit)) known h =
    let d = h.0 in
    let l = h.1.0 in
    let of = h.1.2 in
    let is = among_each (IsKnown sets works) lents l known h.1.1 in
    let ran : d.scan ≡ scan_after sets l.work = run_done sets works l d is of in
    let under : lease ≡ l.work.lease = h.2 ∙ ap (λ (x : DoneState). x.lease) of.done in
    let goes : scan ≡ scan_after sets l.work = h.3 ∙ ran in
    let found : hit ≡ if_found (scan_after sets l.work) = h.4 ∙ ap if_found ran in
    (l.work, is.work, λ i. Finishes (under i) (goes i) (found i))

-- after one call more
known_still : (sets : List Publication) (d : Desk) (works more : List WorkState) (lents : List LentState) (c : Call) → IsCatalogue sets → IsAccepted sets d c
    → Each (IsKnown sets works) lents → Each (IsKnown (sets_after sets c) (works ++ more)) lents
known_still sets d works more [] c cat ok known = tt
known_still sets d works more (l ∷ ls) c cat ok known = (
  record {
    work = among_left l.work works more known.0.work;
    published = published_after sets d c l.work.version l.automaton.patterns cat ok known.0.published;
  },
  known_still sets d works more ls c cat ok known.1,
)

known_lent : (sets : List Publication) (d : Desk) (works more : List WorkState) (o : Option LentState) (c : Call) → IsCatalogue sets → IsAccepted sets d c
    → AreLent sets more o → Each (IsKnown (sets_after sets c) (works ++ more)) (option_to_list o)
known_lent sets d works more None c cat ok lent = tt
known_lent sets d works more (Some l) c cat ok lent = (
  record {
    work = among_right l.work works more (subst (Among l.work) (sym lent.0) (inl refl));
    published = published_after sets d c l.work.version l.automaton.patterns cat ok lent.1;
  },
  tt,
)

each_both : {A : Type 0} (P : A → Type 0) (xs ys : List A) → Each P xs → Each P ys → Each P (xs ++ ys)
each_both P [] ys all more = more
each_both P (x ∷ xs) ys all more = (all.0, each_both P xs ys all.1 more)

pub runs_are_works : (xs : List ServiceEntry) (sets : List Publication) (d : Desk) (works : List WorkState) (lents : List LentState) → IsCatalogue sets
    → IsServiceAudit sets d xs → Each (IsKnown sets works) lents → FinishesItsRuns sets lents xs → FinishesItsWorks sets works xs
runs_are_works [] sets d works lents cat legal known runs = tt
runs_are_works (x ∷ xs) sets d works lents cat legal known runs =
    let o = runs.1.0 in
    let next : Each (IsKnown (sets_after sets x.call) (works ++ x.works)) (lents ++ option_to_list o) =
    each_both (IsKnown (sets_after sets x.call) (works ++ x.works)) lents (option_to_list o)
    (known_still sets d works x.works lents x.call cat legal.0 known) (known_lent sets d works x.works o x.call cat legal.0 runs.1.1) in (
      own sets works lents x.call known runs.0,
      runs_are_works xs (sets_after sets x.call) (respond d x.call).desk (works ++ x.works) (lents ++ option_to_list o)
          (catalogue_after sets d x.call cat legal.0) legal.2 next runs.1.2,
    )

-- ---- its verdict

pub run_verdict : RunWorksHaveVerdicts
run_verdict sets works l d ps bytes c lent is published was room =
    let w : d.work ≡ l.work = ap (λ (x : DoneState). x.work) is.done in
    let same : Some ps ≡ Some l.automaton.patterns = sym published ∙ ap (λ (x : WorkState). published_as sets x.version) w ∙ lent.1 in
    let patterns : ps ≡ l.automaton.patterns = cc (same) in
    let version : d.work.version ≡ l.automaton.version = ap (λ (x : WorkState). x.version) w ∙ sym is.fits.version in
    let built : ◌≡◌ {A = Compiled} (record { version = d.work.version; patterns = ps }) l.automaton = λ i. record { version = version i; patterns = patterns i } in
    let scanned : IsScan l.automaton bytes c l.work.scan =
    subst (IsScan l.automaton bytes c) (ap (λ (x : WorkState). x.scan) w) (subst (λ (a : Compiled). IsScan a bytes c d.work.scan) built was) in
    is.hits bytes c scanned (subst (λ (x : WorkState). length c + length x.chunk ≤ bytes) w room)
    ∙ sym (ap₂ (λ (qs : List Pattern) (x : WorkState). if_hit (verdict qs (c ++ x.chunk))) patterns w)

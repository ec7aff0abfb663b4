-- A work that is run and taken back is what its event asks for.
use Rattle.std.proofs.Common.{◌≡◌, ℕ, zero, suc, List, [], ◌∷◌, ◌++◌, map, slice_get, slice_set, Option, None, Some, Result, Ok, Err, IfOk, refl, sym, ap, ◌∙◌, subst, length}
use Rattle.std.proofs.lemmas.List.{length-set}
use Rattle.std.proofs.lemmas.Option.{none-some, same_Some}
use Rattle.std.specs.Option.{option_to_list}
use Rattle.std.specs.Result.{result_ok}
use Rattle.av_base.specs.declared.port.Port.{Port}
use Rattle.av_base.specs.declared.port.Port.TheVariants.{One, Two}
use Rattle.av_frame.specs.Message.{Letter}
use Rattle.av_match.specs.Scanning.{Compiled, ScanState, fitting, if_found, run}
use Rattle.av_service.specs.Call.{Responds}
use Rattle.av_service.specs.Conduct.{Finishes, ServiceEvent, service_step}
use Rattle.av_service.specs.Desk.{Desk}
use Rattle.av_service.specs.Work.{WorkState}
use Rattle.av_service.specs.declared.out.ServiceOut.{ServiceOut}
use Rattle.av_sigset.specs.Catalogue.{set_at}
use Rattle.av_sigset.specs.Publication.{publication_of, published_as}
use Rattle.av_sigset.specs.Set.{NumberedSet, patterns_of}
use Rattle.av_world.proofs.PublishLemmas.{found_published}
use Rattle.av_world.specs.Prepared.{Compiles}
use Rattle.av_world.specs.Serving.{Works}
use Rattle.av_world.specs.Stage.{at_history}
use Rattle.av_history.specs.World.{WorldState, at_port, back_at, desk_of, done, lent_at, or_none, places_of, responded, service_outcome, work_at, work_event}
use Rattle.av_history.specs.declared.event.Event.{Event}
use Rattle.av_history.specs.declared.report.Line.TheVariants.{Silent}
use Rattle.av_history.specs.declared.report.EventNote.TheVariants as note
use Rattle.av_history.specs.declared.report.Report.{Report}

-- the automaton that was built of the set of a version is of that version
pub compiled_for : (sets : List NumberedSet) (version : ℕ) (s : NumberedSet) (a : Compiled) → set_at sets version ≡ Some s → a ≡ record { version = s.version; patterns = patterns_of s.signatures } → Compiles (set_at sets version) a
compiled_for sets version s a found built = subst (λ o. Compiles o a) (sym found) (ap (λ (x : Compiled). x.patterns) built)

-- and of the version that it has itself
pub compiled_as : (sets : List NumberedSet) (version : ℕ) (s : NumberedSet) (a : Compiled) → set_at sets version ≡ Some s → a ≡ record { version = s.version; patterns = patterns_of s.signatures } → Compiles (set_at sets a.version) a
compiled_as sets version s a found built =
    let named : a.version ≡ version = ap (λ (x : Compiled). x.version) built ∙ (found_published sets version s found).1 in
    subst (λ v. Compiles (set_at sets v) a) (sym named) (compiled_for sets version s a found built)

-- what holds of the value of a result holds of what is taken out of it
pub taken_out : {T E : Type 0} (P : T → Type 0) (r : Result T E) (x : T) → result_ok r ≡ Some x → IfOk r P → P x
taken_out P (Ok y) x h p = subst P (same_Some y x h) p
taken_out P (Err e) x h p = absurd (none-some x h)

-- what is taken from a place and put back leaves the list as it was
pub put_back_same : {A : Type 0} (xs : List A) (i : ℕ) (x y : A) → slice_get xs i ≡ Some x → slice_set (slice_set xs i y) i x ≡ xs
put_back_same [] i x y h = absurd cc
put_back_same (z ∷ xs) zero x y h = cc
put_back_same (z ∷ xs) (suc i) x y h = ap (λ zs. z ∷ zs) (put_back_same xs i x y h)

-- the patterns of a work's version are those of its automaton
patterns_run : (sets : List NumberedSet) (x : WorkState) (a : Compiled) (o : Option NumberedSet) → set_at sets x.version ≡ o → Compiles o a → or_none (published_as (map publication_of sets) x.version) ≡ a.patterns
patterns_run sets x a None found of = absurd of
patterns_run sets x a (Some s) found of = ap or_none (found_published sets x.version s found).0 ∙ sym of

-- so what comes back is what its event says
done_as : (sets : List NumberedSet) (x : WorkState) (a : Compiled) (lease : ℕ) (scan : ScanState) → Compiles (set_at sets x.version) a → lease ≡ x.lease → scan ≡ run a.patterns x.scan (fitting x.scan x.chunk)
    → done (map publication_of sets) x ≡ Finishes lease scan (if_found scan)
done_as sets x a lease scan of same is =
    let ran : run (or_none (published_as (map publication_of sets) x.version)) x.scan (fitting x.scan x.chunk) ≡ scan = ap (λ ps. run ps x.scan (fitting x.scan x.chunk)) (patterns_run sets x a (set_at sets x.version) refl of) ∙ sym is in
    ap (λ s. Finishes x.lease s (if_found s)) ran ∙ ap (λ l. Finishes l scan (if_found scan)) (sym same)

-- the service that a work came back to has changed, the other one has not
one_put : (port : Port) (one one' two' : Desk) → one' ≡ at_port port one' one → at_port port (at_port port one' two') one ≡ one'
one_put One one one' two' is = refl
one_put Two one one' two' is = sym is

two_put : (port : Port) (two one' two' : Desk) → two' ≡ at_port port two two' → at_port port two (at_port port one' two') ≡ two'
two_put One two one' two' is = sym is
two_put Two two one' two' is = refl

-- a world with other services, and what they sent and lent
abbrev pub worked_on : WorldState → Desk → Desk → List Letter → Works → WorldState
worked_on w one two up works = record w { one = one; two = two; up = up; works = works }

-- the world that is left
abbrev pub left : WorldState → Event → Desk → Desk → List Letter → Works → WorldState
left w e one two up works = at_history (e ∷ w.history) (worked_on w one two up works)

-- what is told of it
abbrev pub told : WorldState → WorldState → ServiceOut → Report
told w next out = record { line = Silent; before = places_of w; after = places_of next; note = note.Service out.note }

worked_at : (w : WorldState) (e : Event) (index : ℕ) (port : Port) (x : WorkState) (a : Compiled) (lease : ℕ) (scan : ScanState) (out : ServiceOut) (one two : Desk) (up : List Letter) (works : Works) → slice_get w.works index ≡ Some (Some (port, x))
    → Compiles (set_at w.sets x.version) a → lease ≡ x.lease → scan ≡ run a.patterns x.scan (fitting x.scan x.chunk) → Responds out (at_port port one two) (service_step (desk_of w port) (Finishes lease scan (if_found scan)))
    → one ≡ at_port port one w.one → two ≡ at_port port w.two two → up ≡ w.up ++ out.messages.items → works ≡ slice_set w.works index None ++ map (lent_at port) (option_to_list out.work)
    → work_event w e (suc index) (work_at w.works (suc index)) ≡ Ok (told (back_at w (suc index)) (left w e one two up works) out, left w e one two up works)
worked_at w e index port x a lease scan out one two up works there of same ran is ones twos ups more =
    let f : ServiceEvent = Finishes lease scan (if_found scan) in
    let r = service_step (desk_of w port) f in
    let event : done (map publication_of w.sets) x ≡ f = done_as w.sets x a lease scan of same ran in
    let start : work_event w e (suc index) (work_at w.works (suc index)) ≡ Ok (service_outcome (back_at w (suc index)) e port Silent r) = rw there (ap (λ g. Ok (service_outcome (back_at w (suc index)) e port Silent (service_step (desk_of w port) g))) event) in
    let ups_is : w.up ++ r.messages ≡ up = ap (λ ms. w.up ++ ms) (sym is.messages) ∙ sym ups in
    let works_is : slice_set w.works index None ++ map (lent_at port) r.works ≡ works = ap (λ ks. slice_set w.works index None ++ map (lent_at port) ks) (sym is.works) ∙ sym more in
    let next : responded (back_at w (suc index)) e port r ≡ left w e one two up works =
    ap (λ us. left w e (at_port port r.desk w.one) (at_port port w.two r.desk) us (slice_set w.works index None ++ map (lent_at port) r.works)) ups_is
    ∙ ap (left w e (at_port port r.desk w.one) (at_port port w.two r.desk) up) works_is
    ∙ ap (λ (d : Desk). left w e (at_port port d w.one) (at_port port w.two d) up works) (sym is.desk)
    ∙ ap (λ (d : Desk). left w e d (at_port port w.two (at_port port one two)) up works) (one_put port w.one one two ones)
    ∙ ap (λ (d : Desk). left w e one d up works) (two_put port w.two one two twos) in
    start
    ∙ ap (λ (u : WorldState). Ok (record { line = Silent; before = places_of (back_at w (suc index)); after = places_of u; note = note.Service r.note }, u)) next
    ∙ ap (λ n. Ok (record { line = Silent; before = places_of (back_at w (suc index)); after = places_of (left w e one two up works); note = note.Service n }, left w e one two up works)) (sym is.note)

pub worked : (w : WorldState) (e : Event) (k index : ℕ) (port : Port) (x : WorkState) (a : Compiled) (lease : ℕ) (scan : ScanState) (out : ServiceOut) (one two : Desk) (up : List Letter) (works : Works) → k ≡ suc index → slice_get w.works index ≡ Some (Some (port, x))
    → Compiles (set_at w.sets x.version) a → lease ≡ x.lease → scan ≡ run a.patterns x.scan (fitting x.scan x.chunk) → Responds out (at_port port one two) (service_step (desk_of w port) (Finishes lease scan (if_found scan)))
    → one ≡ at_port port one w.one → two ≡ at_port port w.two two → up ≡ w.up ++ out.messages.items → works ≡ slice_set w.works index None ++ map (lent_at port) (option_to_list out.work)
    → work_event w e k (work_at w.works k) ≡ Ok (told w (left w e one two up works) out, left w e one two up works)
worked w e k index port x a lease scan out one two up works place there of same ran is ones twos ups more =
    let kept : length (slice_set w.works index None) ≡ length w.works = length-set w.works index None in
    subst (λ j. work_event w e j (work_at w.works j) ≡ Ok (told w (left w e one two up works) out, left w e one two up works)) (sym place)
    (worked_at w e index port x a lease scan out one two up works there of same ran is ones twos ups more
    ∙ ap (λ n. Ok (record { line = Silent; before = record { answers = length w.answers; down = length w.down; up = length w.up; works = n }; after = places_of (left w e one two up works); note = note.Service out.note }, left w e one two up works)) kept)

-- the world that another one is said to be
abbrev pub first_of : (w now : WorldState) → w ≡ now → WorldState
first_of w now is = w

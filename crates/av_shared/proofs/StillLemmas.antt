-- What the grants of a still run say of the opening.
use Rattle.std.proofs.Common.{if◌then◌else◌, ◌≡◌, ◌==◌, ◌⊎◌, ℕ, Bool, true, false, eq-eqb, eqb-true, List, [], ◌∷◌, ◌++◌, map, Option, None, Some, refl, sym, ap, ◌∙◌, subst, inl, inr}
use Rattle.std.specs.List.{AllByRecursion as Each, list_all}
use Rattle.std.proofs.lemmas.Bool.{true≢false}
use Rattle.std.specs.Option.{IfSome, option_map}
use Rattle.std.proofs.lemmas.List.Elements.{recursion_from_All}
use Rattle.std.proofs.lemmas.Option.{none-some}
use Rattle.av_base.proofs.AmongLemmas.{among_each, among_left, among_right}
use Rattle.av_base.specs.Among.{Among}
use Rattle.av_base.specs.declared.mode.Mode.TheVariants.{FailClosed}
use Rattle.av_base.specs.Port.{same_port}
use Rattle.av_base.specs.declared.port.Port.{Port}
use Rattle.av_base.specs.declared.port.Port.TheVariants.{One, Two}
use Rattle.av_base.specs.declared.verdict.Verdict.TheVariants.{Clean}
use Rattle.av_desk.specs.Audit.{opened_by}
use Rattle.av_desk.specs.Book.{compiled, sets_end as desk_sets_end}
use Rattle.av_desk.specs.declared.audit.Audit.{Audit as DeskAudit}
use Rattle.av_filter.specs.Audit.{FilterEntry, answers_given}
use Rattle.av_filter.specs.Conduct.{Changes, FilterEvent}
use Rattle.av_gate.specs.declared.audit.Audit.{Audit as GateAudit}
use Rattle.av_match.specs.Match.{verdict}
use Rattle.av_match.specs.Scanning.{Compiled}
use Rattle.av_pend.specs.declared.answer.Answer.{Answer}
use Rattle.av_pend.specs.declared.answer.Answer.TheVariants.{Denied, Granted, Unscanned}
use Rattle.av_service.specs.Audit.{By, Call, IsCatalogue, Publishes, ServiceEntry, sets_after}
use Rattle.av_shared.specs.Works.{SpareIsOpenedWith}
use Rattle.av_shared.specs.Certified.{IsCertified}
use Rattle.av_shared.specs.History.{HaveOneSets, IsDeskAudit, IsMerge, events_of, opened_as, sets_at}
use Rattle.av_sigset.specs.Publication.{Publication, publication_of, published_as}
use Rattle.av_sigset.specs.Set.{NumberedSet}
use Rattle.av_sigset.specs.declared.signature.Pattern.{Pattern}
use Rattle.av_store.proofs.HistoryLemmas.{remembers}
use Rattle.av_store.proofs.SeenLemmas.{stream_seen}
use Rattle.av_store.specs.Files.{File, file_of}
use Rattle.av_store.specs.History.{StreamHistory, content, generation_after, generation_of, now}
use Rattle.av_store.specs.Rows.{stream_at}
use Rattle.av_store.specs.Seen.{Keeps, stream_of}
use Rattle.av_store.specs.Store.{Store}
use Rattle.av_store.specs.declared.stream.Stream.{Stream}
use Rattle.av_shared.proofs.ApartLemmas.{each_by}
use Rattle.av_shared.proofs.AmongLemmas.{among_split}
use Rattle.av_history.proofs.UnionLemmas.{union_only}
use Rattle.av_history.specs.Audits.{AuditsGrantOnlyClean, OfFilter, OfService, SideEntry, answers_in, filter_side, service_side, sets_end}
use Rattle.av_history.specs.Headline.{IsJustified}
use Rattle.av_history.specs.Past.{IsVerdictOf, Past}
use Rattle.av_history.specs.Scene.{Answered, known_since, opening_past, past_call, past_filter, told_at, union}
use Rattle.av_shared.specs.Still.{AreStill, HasOnly, HaveOnly, SpareHasOnly, TellsTrue, ChangesNothing, changes_nothing, publishes_nothing, IsCleanUnder, IsStill, IsTrueOf, IsTrueUnder, PublishesNothing}

-- ---- the past stays

same_filter : (p : Past) (e : FilterEvent) → ChangesNothing e → past_filter p e ≡ p
same_filter p (Changes c) h = absurd h
same_filter p _ h = refl

same_call : (p : Past) (c : Call) → PublishesNothing c → past_call p c ≡ p
same_call p (By e) h = refl
same_call p (Publishes v ps) h = absurd h

among_map : {A B : Type 0} (f : A → B) (x : A) (xs : List A) → Among x xs → Among (f x) (map f xs)
among_map f x [] a = absurd a
among_map f x (y ∷ ys) (inl e) = inl (ap f e)
among_map f x (y ∷ ys) (inr a) = inr (among_map f x ys a)

-- each answer was given in the past of the opening
answered_then : (p : Past) (es : List SideEntry) → IsStill es → (a : Answer) → Among a (answers_given (filter_side es)) → Among (told_at p a) (answers_in p es)
answered_then p [] still a there = absurd there
answered_then p (OfFilter x ∷ es) still a there =
    subst (λ q. Among (told_at p a) (map (told_at q) x.answers ++ answers_in q es)) (sym (same_filter p x.event still.0))
    (elim (among_split a x.answers (answers_given (filter_side es)) there) as (λ s. Among (told_at p a) (map (told_at p) x.answers ++ answers_in p es)) [
      | inl here ↦ among_left (told_at p a) (map (told_at p) x.answers) (answers_in p es) (among_map (told_at p) a x.answers here)
      | inr later ↦ among_right (told_at p a) (map (told_at p) x.answers) (answers_in p es) (answered_then p es still.1 a later)
    ])
answered_then p (OfService port x ∷ es) still a there =
    subst (λ q. Among (told_at p a) (answers_in q es)) (sym (same_call p x.call still.0)) (answered_then p es still.1 a there)

-- ---- the contents at the opening

now_known : (fs : List File) → map now (map known_since fs) ≡ fs
unfolding generation_after
now_known [] = refl
now_known (f ∷ fs) = ap (λ gs. f ∷ gs) (now_known fs)

file_there : (o : Option File) (x : Stream) → option_map stream_of o ≡ Some x → (f : File) × (o ≡ Some f) × (stream_of f ≡ x)
file_there None x h = absurd (none-some x h)
file_there (Some f) x h = (f, refl, cc (h))

module _ (fs : List File) (v : Store) (sets : Port → List Publication) (keeps : Keeps v fs) (cat : (port : Port) → IsCatalogue (sets port)) where
  abbrev hs : List StreamHistory
  hs = map known_since fs

  present : (s : ℕ) (x : Stream) → stream_at s v.streams ≡ Some x → (content hs s x.generation ≡ Some x.bytes) × (x.generation ≡ generation_of hs s)
  present s x at =
      let found = file_there (file_of fs s) x (sym (stream_seen fs s) ∙ (ap (stream_at s) (sym keeps.streams) ∙ at)) in
      let there : file_of (map now hs) s ≡ Some found.0 = ap (λ gs. file_of gs s) (now_known fs) ∙ found.1 in
      subst (λ (y : Stream). (content hs s y.generation ≡ Some y.bytes) × (y.generation ≡ generation_of hs s)) found.2 (remembers.current hs s found.0 there)

  clean_under : (u : ℕ) (ps : List Pattern) (bytes : List ℕ) → published_as (union (sets One) (sets Two)) u ≡ Some ps → Clean ≡ verdict ps bytes → IsCleanUnder sets u bytes
  clean_under u ps bytes named right =
      elim (union_only (sets One) (sets Two) u ps (cat Two) named) as (λ s. IsCleanUnder sets u bytes) [
        | inl one ↦ record { port = One; patterns = ps; published = one; clean = right }
        | inr two ↦ record { port = Two; patterns = ps; published = two; clean = right }
      ]

  granted : (s g u : ℕ) → g ≡ generation_of hs s → IsVerdictOf (opening_past fs sets) s g u Clean → (x : Stream) → stream_at s v.streams ≡ Some x → (g ≡ x.generation) × IsCleanUnder sets u x.bytes
  granted s g u now is x at =
      let here = present s x at in
      let same : g ≡ x.generation = now ∙ sym here.1 in
      let held : Some is.bytes ≡ Some x.bytes = sym is.held ∙ (ap (content hs s) same ∙ here.0) in
      let bytes : is.bytes ≡ x.bytes = cc (held) in
      (same, clean_under u is.patterns x.bytes is.published (subst (λ c. Clean ≡ verdict is.patterns c) bytes is.right))

  justified : (a : Answer) → IsJustified FailClosed (opening_past fs sets) a → IsTrueOf v sets a
  justified (Granted n least s g u) h = λ x at. granted s g u h.0 h.1 x at
  justified (Unscanned n s g cause) h = h refl
  justified (Denied n cause) h = tt

pub true_answers : (fs : List File) (v : Store) (sets : Port → List Publication) (es : List SideEntry) → Keeps v fs → ((port : Port) → IsCatalogue (sets port)) → IsStill es
    → AuditsGrantOnlyClean FailClosed fs sets es → (a : Answer) → Among a (answers_given (filter_side es)) → IsTrueOf v sets a
true_answers fs v sets es keeps cat still clean a there =
    justified fs v sets keeps cat a
    (among_each (λ (b : Answered). IsJustified FailClosed b.past b.answer) (answers_in (opening_past fs sets) es) (told_at (opening_past fs sets) a)
    (recursion_from_All (λ (b : Answered). IsJustified FailClosed b.past b.answer) (answers_in (opening_past fs sets) es) clean)
    (answered_then (opening_past fs sets) es still a there))

-- ---- both sides are still

still_all : (es : List SideEntry) → Each (λ (x : FilterEntry). ChangesNothing x.event) (filter_side es)
    → Each (λ (x : ServiceEntry). PublishesNothing x.call) (service_side One es) → Each (λ (x : ServiceEntry). PublishesNothing x.call) (service_side Two es) → IsStill es
still_all [] f one two = tt
still_all (OfFilter x ∷ es) f one two = (f.0, still_all es f.1 one two)
still_all (OfService One x ∷ es) f one two = (one.0, still_all es f one.1 two)
still_all (OfService Two x ∷ es) f one two = (two.0, still_all es f one two.1)

stays_by : (e : FilterEvent) → changes_nothing e ≡ true → ChangesNothing e
stays_by (Changes c) h = absurd (true≢false (sym h))
stays_by _ h = tt

quiet_by : (c : Call) → publishes_nothing c ≡ true → PublishesNothing c
quiet_by (By e) h = tt
quiet_by (Publishes v ps) h = absurd (true≢false (sym h))

pub quiet_all : (xs : List ServiceEntry) → list_all (λ (x : ServiceEntry). publishes_nothing x.call) xs ≡ true → Each (λ (x : ServiceEntry). PublishesNothing x.call) xs
quiet_all xs h = each_by (λ (x : ServiceEntry). PublishesNothing x.call) (λ (x : ServiceEntry). publishes_nothing x.call) (λ x q. quiet_by x.call q) xs h

entries_still : (gate : GateAudit) (desk : DeskAudit) (spare : Option DeskAudit) → AreStill gate desk spare → (here : Bool) → Each (λ (x : ServiceEntry). PublishesNothing x.call) (if here then desk.events.items else events_of spare)
entries_still gate desk spare still true = quiet_all desk.events.items still.of_desk
entries_still gate desk spare still false = quiet_all (events_of spare) still.of_spare

pub history_still : (gate : GateAudit) (desk : DeskAudit) (spare : Option DeskAudit) (es : List SideEntry) → AreStill gate desk spare → IsMerge gate desk spare es → IsStill es
history_still gate desk spare es still merge =
    still_all es
    (subst (Each (λ (x : FilterEntry). ChangesNothing x.event)) (sym merge.filter)
    (each_by (λ (x : FilterEntry). ChangesNothing x.event) (λ (x : FilterEntry). changes_nothing x.event) (λ x q. stays_by x.event q) gate.events.items still.of_gate))
    (at One) (at Two)
  where
    at : (port : Port) → Each (λ (x : ServiceEntry). PublishesNothing x.call) (service_side port es)
    at port = subst (Each (λ (x : ServiceEntry). PublishesNothing x.call)) (sym (merge.services port)) (entries_still gate desk spare still (same_port desk.port port))

-- ---- one set alone

sets_stay : (sets : List Publication) (xs : List ServiceEntry) → Each (λ (x : ServiceEntry). PublishesNothing x.call) xs → sets_end sets xs ≡ sets
sets_stay sets [] still = refl
sets_stay sets (x ∷ xs) still = ap (λ s. sets_end s xs) (same_sets sets x.call still.0) ∙ sets_stay sets xs still.1
  where
    same_sets : (sets : List Publication) (c : Call) → PublishesNothing c → sets_after sets c ≡ sets
    same_sets sets (By e) h = refl
    same_sets sets (Publishes v ps) h = absurd h

pub opened_with : (a : DeskAudit) (p : Publication) → sets_end (opened_by a) a.events.items ≡ p ∷ [] → Each (λ (x : ServiceEntry). PublishesNothing x.call) a.events.items → opened_by a ≡ p ∷ []
opened_with a p ends still = sym (sets_stay (opened_by a) a.events.items still) ∙ ends

only_one : (p : Publication) (u : ℕ) (ps : List Pattern) → published_as (p ∷ []) u ≡ Some ps → (u ≡ p.version) × (ps ≡ p.patterns)
unfolding published_as
only_one p u ps h =
    (elim (p.version == u) as (λ b. (p.version == u) ≡ b → (if b then Some p.patterns else None) ≡ Some ps → (u ≡ p.version) × (ps ≡ p.patterns)) [
      | true ↦ λ e k. let same : p.patterns ≡ ps = cc (k) in (sym (eqb-true p.version u e), sym same)
      | false ↦ λ e k. absurd (none-some ps k)
    ]) refl h

none_named : (u : ℕ) (ps : List Pattern) → published_as [] u ≡ Some ps → ⊥
unfolding published_as
none_named u ps h = none-some ps h

-- each port has this publication alone, or none
abbrev pub AreOf : (Port → List Publication) → Publication → Type 0
AreOf sets p = (port : Port) → (sets port ≡ p ∷ []) ⊎ (sets port ≡ [])

pub named_so : (sets : Port → List Publication) (p : Publication) → AreOf sets p → (port : Port) (u : ℕ) (ps : List Pattern) → published_as (sets port) u ≡ Some ps → (u ≡ p.version) × (ps ≡ p.patterns)
named_so sets p of port u ps h =
    elim (of port) as (λ s. (u ≡ p.version) × (ps ≡ p.patterns)) [
      | inl one ↦ only_one p u ps (subst (λ (s : List Publication). published_as s u ≡ Some ps) one h)
      | inr none ↦ absurd (none_named u ps (subst (λ (s : List Publication). published_as s u ≡ Some ps) none h))
    ]

pub true_under : (v : Store) (sets : Port → List Publication) (set : NumberedSet) → AreOf sets (publication_of set) → (a : Answer) → IsTrueOf v sets a → IsTrueUnder v set a
true_under v sets set of (Granted n least s g u) h = λ x at.
    let said = h x at in
    let named = named_so sets (publication_of set) of said.1.port u said.1.patterns said.1.published in
    (said.0, named.0, subst (λ ps. Clean ≡ verdict ps x.bytes) named.1 said.1.clean)
true_under v sets set of (Unscanned n s g cause) h = h
true_under v sets set of (Denied n cause) h = tt

-- ---- the catalogues of a still run

same_end : (sets : List Publication) (xs : List ServiceEntry) → desk_sets_end sets xs ≡ sets_end sets xs
same_end sets [] = refl
same_end sets (x ∷ xs) = same_end (sets_after sets x.call) xs

ends_with : (a : DeskAudit) (p : Publication) → IsDeskAudit a → HasOnly a p → sets_end (opened_by a) a.events.items ≡ p ∷ []
ends_with a p is only = sym (same_end (opened_by a) a.events.items) ∙ (sym is.sets ∙ only)

pub one_sets : (desk : DeskAudit) (spare : Option DeskAudit) (p : Publication) → IsDeskAudit desk → IfSome spare (λ (a : DeskAudit). IsDeskAudit a) → HaveOnly desk spare p → HaveOneSets desk spare
one_sets desk None p is beside only = tt
one_sets desk (Some a) p is beside only = λ version xs ys one two.
    let first = only_one p version xs (subst (λ (s : List Publication). published_as s version ≡ Some xs) (ends_with desk p is only.of_desk) one) in
    let second = only_one p version ys (subst (λ (s : List Publication). published_as s version ≡ Some ys) (ends_with a p beside only.of_spare) two) in
    first.1 ∙ sym second.1

module _ (gate : GateAudit) (desk : DeskAudit) (spare : Option DeskAudit) (p : Publication) (is : IsDeskAudit desk) (beside : IfSome spare (λ (a : DeskAudit). IsDeskAudit a)) (only : HaveOnly desk spare p) (still : AreStill gate desk spare) where
  spare_opened : (o : Option DeskAudit) → IfSome o (λ (a : DeskAudit). IsDeskAudit a) → SpareHasOnly o p → list_all (λ (x : ServiceEntry). publishes_nothing x.call) (events_of o) ≡ true → (opened_as o ≡ p ∷ []) ⊎ (opened_as o ≡ [])
  spare_opened None is only quiet = inr refl
  spare_opened (Some a) is only quiet = inl (opened_with a p (ends_with a p is only) (quiet_all a.events.items quiet))

  pub opened_each : AreOf (sets_at desk spare) p
  opened_each port = at (same_port desk.port port)
    where
      at : (here : Bool) → ((if here then opened_by desk else opened_as spare) ≡ p ∷ []) ⊎ ((if here then opened_by desk else opened_as spare) ≡ [])
      at true = inl (opened_with desk p (ends_with desk p is only.of_desk) (quiet_all desk.events.items still.of_desk))
      at false = spare_opened spare beside only.of_spare still.of_spare

pub catalogues : (desk : DeskAudit) (spare : Option DeskAudit) → IsDeskAudit desk → IfSome spare (λ (a : DeskAudit). IsDeskAudit a) → (port : Port) → IsCatalogue (sets_at desk spare port)
catalogues desk spare is beside port = at (same_port desk.port port)
  where
    other : (o : Option DeskAudit) → IfSome o (λ (a : DeskAudit). IsDeskAudit a) → IsCatalogue (opened_as o)
    other None h = tt
    other (Some a) h = h.catalogue

    at : (here : Bool) → IsCatalogue (if here then opened_by desk else opened_as spare)
    at true = is.catalogue
    at false = other spare beside

pub tells : (gate : GateAudit) (desk : DeskAudit) (spare : Option DeskAudit) (set : NumberedSet) → gate.mode ≡ FailClosed → IsDeskAudit desk → IfSome spare (λ (a : DeskAudit). IsDeskAudit a)
    → HaveOnly desk spare (publication_of set) → AreStill gate desk spare → IsCertified gate desk spare → TellsTrue gate set
tells gate desk spare set closed is beside only still run = λ a there.
    let holds = run.holds in
    let es : List SideEntry = run.history in
    let clean : AuditsGrantOnlyClean FailClosed holds.files (sets_at desk spare) es = subst (λ m. AuditsGrantOnlyClean m holds.files (sets_at desk spare) es) closed holds.only_clean in
    true_under gate.volume (sets_at desk spare) set (opened_each gate desk spare (publication_of set) is beside only still) a
    (true_answers holds.files gate.volume (sets_at desk spare) es holds.kept (catalogues desk spare is beside) (history_still gate desk spare es still run.one.merge) clean a
    (subst (λ (xs : List FilterEntry). Among a (answers_given xs)) (sym run.one.merge.filter) there))

-- ---- a desk that was opened with one set alone

alone : (p : Publication) → published_as (p ∷ []) p.version ≡ Some p.patterns
unfolding published_as
alone p = rw (eq-eqb p.version p.version refl) refl

pub named_alone : (a : DeskAudit) (built : Compiled) (p : Publication) → built ≡ compiled p → opened_by a ≡ p ∷ [] → published_as (opened_by a) built.version ≡ Some built.patterns
named_alone a built p is opened =
    subst (λ (s : List Publication). published_as s built.version ≡ Some built.patterns) (sym opened)
    (subst (λ (b : Compiled). published_as (p ∷ []) b.version ≡ Some b.patterns) (sym is) (alone p))

pub spare_opened_with : (o : Option DeskAudit) (p : Publication) → IfSome o (λ (a : DeskAudit). IsDeskAudit a) → SpareHasOnly o p → list_all (λ (x : ServiceEntry). publishes_nothing x.call) (events_of o) ≡ true → SpareIsOpenedWith o p
spare_opened_with None p is only quiet = tt
spare_opened_with (Some a) p is only quiet = opened_with a p (ends_with a p is only) (quiet_all a.events.items quiet)

pub desk_opened_with : (a : DeskAudit) (p : Publication) → IsDeskAudit a → HasOnly a p → list_all (λ (x : ServiceEntry). publishes_nothing x.call) a.events.items ≡ true → opened_by a ≡ p ∷ []
desk_opened_with a p is only quiet = opened_with a p (ends_with a p is only) (quiet_all a.events.items quiet)

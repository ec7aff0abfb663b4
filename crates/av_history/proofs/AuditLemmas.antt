-- The headline of the legal audits of three sides put together.
use Rattle.std.proofs.Common.{All, append-nil, ◌<◌, ◌≡◌, ℕ, true, List, [], ◌∷◌, ◌++◌, map, None, Some, refl, sym, ap, ◌∙◌, subst, arith, inl, inr}
use Rattle.std.specs.List.{AllByRecursion as Each}
use Rattle.std.proofs.lemmas.List.Elements.{All-from_recursion}
use Rattle.std.proofs.lemmas.Bool.{true≢false}
use Rattle.av_base.proofs.AmongLemmas.{among_each}
use Rattle.av_base.specs.declared.limits.LimitValues.{LimitValues}
use Rattle.av_base.specs.declared.mode.Mode.{Mode}
use Rattle.av_base.specs.declared.port.Port.{Port}
use Rattle.av_base.specs.declared.port.Port.TheVariants.{One, Two}
use Rattle.av_filter.proofs.EachLemmas.{each_weaker, each-append, each-map}
use Rattle.av_filter.proofs.FitLemmas.{keeps_fit}
use Rattle.av_filter.specs.Audit.{IsFilterAudit, filter_end, sent_down}
use Rattle.av_filter.specs.Conduct.{FilterEvent, Changes, filter_refusal, filter_step}
use Rattle.av_filter.specs.Conduct as filter_events
use Rattle.av_filter.specs.Mount.{Mount}
use Rattle.av_filter_table.specs.Orderly.{Rises}
use Rattle.av_filter.specs.Reaction.{Reaction}
use Rattle.av_filter_table.specs.Table.{mounted}
use Rattle.av_frame.specs.Message.{Letter}
use Rattle.av_match.specs.Scanning.{AreSolid, ScanState, fitting, scanner}
use Rattle.av_service.proofs.LendLemmas.{lends}
use Rattle.av_service.proofs.PortLemmas.{stays_on_its_port}
use Rattle.av_service.specs.Audit.{By, Call, IsAccepted, IsCatalogue, IsResponse, IsServiceAudit, Publishes, ServiceEntry, desk_end, lent_by, respond, sent_up, sets_after}
use Rattle.av_service.specs.Conduct.{ServiceEvent, Connects, Disconnects, Receives, Finishes, Restarts, service_step}
use Rattle.av_service.specs.Conduct as service_events
use Rattle.av_service.specs.Desk.{Desk}
use Rattle.av_service.specs.Response.{Response}
use Rattle.av_service.specs.Sound.{version_after}
use Rattle.av_service.specs.Work.{WorkState}
use Rattle.av_sigset.specs.Publication.{Publication, latest_as, published_as}
use Rattle.av_sigset.specs.declared.signature.Pattern.{Pattern}
use Rattle.av_store.specs.Files.{File}
use Rattle.av_store.specs.History.{generation_after, now}
use Rattle.av_store.specs.Seen.{Keeps}
use Rattle.av_store.specs.Store.{Store}
use Rattle.av_history.proofs.DeskLemmas.{DeskFits, IsSolid, Told, connects_told, desk_grows, disconnects_told, finished_told, latest_published, message_told, publishes_told, restarts_told}
use Rattle.av_history.proofs.FilterLemmas.{Comes}
use Rattle.av_history.proofs.FitLemmas.{Grown, DownFits, UpFits, same_past}
use Rattle.av_history.proofs.SceneLemmas.{Lawful, answers_just, heard_desks, heard_works, held_right, lawful_filter, lawful_heard, published_before, sets_same, works_more, works_one, works_two}
use Rattle.av_history.proofs.StepLemmas.{after_filter}
use Rattle.av_history.proofs.UnionLemmas.{catalogue_after, catalogue_falls, catalogue_solid, first_published, is_first, joined_has, joined_keeps, joined_only, joined_solid, later_published, published_then, union_first, union_only, union_second, union_solid}
use Rattle.av_history.specs.Audits.{AreLegal, AreOneSets, AuditsGrantOnlyClean, AuditsHoldOneVerdict, AuditsJudgeRightly, CameDown, CameUp, FinishesItsWorks, IsDelivered, IsOfWorks, OfFilter, OfService, SideEntry, all_up, answers_in, filter_side, past_end, service_side, sets_end}
use Rattle.av_history.specs.Headline.{IsJustified}
use Rattle.av_history.specs.Held.{asked, held_among}
use Rattle.av_history.specs.Past.{IsRightEntry, Past}
use Rattle.av_history.specs.Safety.{JudgesItsContent, works_of}
use Rattle.av_history.specs.Scene.{Answered, Started, desk_at_first, known_since, opening_past, past_call, past_filter, told_at}
use Rattle.av_history.specs.World.{WorldState, at_port, desk_of, done, heard, or_none}
use Rattle.av_history.specs.declared.event.Event.TheVariants.{RestartFilter}

-- ---- what the sides know, over catalogues of their own

-- a version has patterns in a catalogue
abbrev Has : List Publication → ℕ → Type 0
Has sets v = (ps : List Pattern) × (published_as sets v ≡ Some ps)

-- each work is under a version that the catalogue has
abbrev AllHave : List Publication → List WorkState → Type 0
AllHave sets works = Each (λ k. Has sets k.version) works

-- a lawful world, whose past has what the catalogues have; each service has its version and those of its works
record Audited (mode : Mode) (one two : List Publication) (p : Past) (w : WorldState) : Type 0 where
  lawful : Lawful mode p w
  catalogues : (port : Port) → IsCatalogue (at_port port one two)
  known : (port : Port) (v : ℕ) (ps : List Pattern) → published_as (at_port port one two) v ≡ Some ps → published_as p.sets v ≡ Some ps
  only : (v : ℕ) (ps : List Pattern) → published_as p.sets v ≡ Some ps → (port : Port) × (published_as (at_port port one two) v ≡ Some ps)
  versions : (port : Port) → ((desk_of w port).version ≡ 0 → ⊥) → Has (at_port port one two) (desk_of w port).version
  lent : (port : Port) → AllHave (at_port port one two) (works_of port w.works)

-- ---- one event of the filter

filter_comes : (p : Past) (w : WorldState) (f : FilterEvent) → filter_refusal w.table w.volume f ≡ None → Each (UpFits p w.down) w.up → CameUp w.up f → Comes p w.down w.table w.volume f
filter_comes p w (filter_events.Receives m) ok up came = among_each (UpFits p w.down) w.up m up came
filter_comes p w (Changes ch) ok up came = ok
filter_comes p w _ ok up came = tt

audited_filter : (mode : Mode) (one two : List Publication) (p : Past) (w : WorldState) → Audited mode one two p w → (f : FilterEvent) → filter_refusal w.table w.volume f ≡ None → CameUp w.up f → Audited mode one two (past_filter p f) (after_filter w RestartFilter f)
audited_filter mode one two p w h f ok came =
    let sets : (past_filter p f).sets ≡ p.sets = sets_same p f in
    record {
      lawful = lawful_filter mode p w f h.lawful (filter_comes p w f ok h.lawful.up came) ok RestartFilter;
      catalogues = h.catalogues;
      known = λ port v ps at. ap (λ xs. published_as xs v) sets ∙ h.known port v ps at;
      only = λ v ps at. h.only v ps (ap (λ xs. published_as xs v) (sym sets) ∙ at);
      versions = h.versions;
      lent = h.lent;
    }

-- ---- one call of a service

module _ (mode : Mode) (one two : List Publication) (p : Past) (w : WorldState) (h : Audited mode one two p w) (at : Port) where
  -- the catalogue of the service that is called
  abbrev own : List Publication
  own = at_port at one two

  abbrev lent_here : List WorkState
  lent_here = works_of at w.works

  -- a work is run under the set that all know
  same_done : (k : WorkState) → Has own k.version → done own k ≡ done p.sets k
  same_done k has =
      let same : published_as own k.version ≡ published_as p.sets k.version = has.1 ∙ sym (h.known at k.version has.0 has.1) in
      ap (λ o. let scan : ScanState = scanner.run (or_none o) k.scan (fitting k.scan k.chunk) in Finishes k.lease scan (scanner.hit scan)) same

  call_told : (e : ServiceEvent) → IsAccepted own (desk_of w at) (By e) → IsOfWorks own lent_here (By e) → CameDown w.down (By e) → Told p w.down lent_here (service_step (desk_of w at) e)
  call_told Connects ok work came = connects_told p w.down lent_here (desk_of w at) (h.lawful.desks at) ok
  call_told Disconnects ok work came = disconnects_told p w.down lent_here (desk_of w at) (h.lawful.desks at)
  call_told (Receives m) ok work came = message_told p w.down lent_here (desk_of w at) (h.lawful.desks at) h.lawful.solid m (among_each (DownFits p w.down) w.down m h.lawful.filter.sent came)
  call_told (Finishes lease scan hit) ok work came =
      let k : WorkState = work.0 in
      let event : Finishes lease scan hit ≡ done p.sets k = work.2 ∙ same_done k (among_each (λ (k : WorkState). Has own k.version) lent_here k (h.lent at) work.1) in
      subst (λ x. Told p w.down lent_here (service_step (desk_of w at) x)) (sym event)
      (finished_told p w.down lent_here (desk_of w at) (h.lawful.desks at) h.lawful.solid k (λ P all. among_each P lent_here k all work.1))
  call_told (service_events.Publishes v) ok work came = absurd ok
  call_told (Restarts v) ok work came =
      restarts_told p w.down lent_here (desk_of w at) (h.lawful.desks at) v
      (λ some. let found = latest_published own (λ none. some (ok ∙ none)) in (found.0, ap (published_as p.sets) ok ∙ h.known at (latest_as own) found.0 found.1))

  -- the version after it is there too
  version_there : (e : ServiceEvent) → IsAccepted own (desk_of w at) (By e) → (version_after (desk_of w at).version e ≡ 0 → ⊥) → Has own (version_after (desk_of w at).version e)
  version_there Connects ok some = h.versions at some
  version_there Disconnects ok some = h.versions at some
  version_there (Receives m) ok some = h.versions at some
  version_there (Finishes lease scan hit) ok some = h.versions at some
  version_there (service_events.Publishes v) ok some = absurd ok
  version_there (Restarts v) ok some = subst (Has own) (sym ok) (latest_published own (λ none. some (ok ∙ none)))

  -- so are the versions of what is lent
  lent_there : (sets : List Publication) (e : ServiceEvent) → ((u : ℕ) → Has own u → Has sets u) → AllHave sets (service_step (desk_of w at) e).works
  lent_there sets e more =
      each_weaker (λ (k : WorkState). (k.version ≡ (desk_of w at).version) × ((desk_of w at).connected ≡ true)) (λ (k : WorkState). Has sets k.version)
      (λ k x. more k.version (subst (Has own) (sym x.0) (h.versions at ((h.lawful.desks at).versioned x.1)))) (service_step (desk_of w at) e).works (lends.works (desk_of w at) e)

  audited_call : (e : ServiceEvent) → IsAccepted own (desk_of w at) (By e) → IsOfWorks own lent_here (By e) → CameDown w.down (By e) → Audited mode one two p (heard w at (service_step (desk_of w at) e))
  audited_call e ok work came =
      let r : Response = service_step (desk_of w at) e in
      let same : r.desk.version ≡ version_after (desk_of w at).version e = lends.version (desk_of w at) e in
      record {
        lawful = lawful_heard mode p p w h.lawful (same_past p) refl h.lawful.solid at r (call_told e ok work came);
        catalogues = h.catalogues;
        known = h.known;
        only = h.only;
        versions = heard_desks (λ port d. (d.version ≡ 0 → ⊥) → Has (at_port port one two) d.version) w at r (λ some. subst (Has own) (sym same) (version_there e ok (λ none. some (same ∙ none)))) h.versions;
        lent = heard_works (λ port ks. AllHave (at_port port one two) ks) w at r (each-append (λ (k : WorkState). Has own k.version) lent_here r.works (h.lent at) (lent_there own e (λ u x. x))) h.lent;
      }

-- ---- a publication

-- the catalogue of a port, where another has one publication more
abbrev more_one : Port → Publication → List Publication → List Publication → List Publication
more_one at x one two = at_port at (x ∷ one) one

abbrev more_two : Port → Publication → List Publication → List Publication → List Publication
more_two at x one two = at_port at two (x ∷ two)

module _ (mode : Mode) (one two : List Publication) (p : Past) (w : WorldState) (h : Audited mode one two p w) (at : Port) (v : ℕ) (ps : List Pattern) (later : latest_as (at_port at one two) < v) (solid : AreSolid ps)
    (agrees : (qs : List Pattern) → published_as p.sets v ≡ Some qs → qs ≡ ps) where
  abbrev new : Publication
  new = record { version = v; patterns = ps }

  abbrev after : Past
  after = past_call p (Publishes v ps)

  -- what the catalogues have then
  abbrev sets_of : Port → List Publication
  sets_of port = at_port port (more_one at new one two) (more_two at new one two)

  still_published : (port : Port) (u : ℕ) (x : List Pattern) → published_as (at_port port one two) u ≡ Some x → published_as (sets_of port) u ≡ Some x
  still_published port u x there = go at port h.catalogues later there
    where
      go : (at port : Port) → ((port : Port) → IsCatalogue (at_port port one two)) → latest_as (at_port at one two) < v → published_as (at_port port one two) u ≡ Some x → published_as (at_port port (more_one at new one two) (more_two at new one two)) u ≡ Some x
      go One One cat lt there = later_published one v ps u x (cat One) lt there
      go One Two cat lt there = there
      go Two One cat lt there = there
      go Two Two cat lt there = later_published two v ps u x (cat Two) lt there

  new_there : (at : Port) → published_as (at_port at (more_one at new one two) (more_two at new one two)) v ≡ Some ps
  new_there One = first_published one v ps
  new_there Two = first_published two v ps

  up : Grown p after
  up = record { contents = λ s g c h. h; sets = λ u x there. joined_keeps p.sets new u x there }

  published : published_as after.sets v ≡ Some ps
  published = joined_has p.sets new agrees

  all_solid : Each IsSolid after.sets
  all_solid = joined_solid p.sets new h.lawful.solid solid

  known_then : (port : Port) (u : ℕ) (x : List Pattern) → published_as (sets_of port) u ≡ Some x → published_as after.sets u ≡ Some x
  known_then port u x there = go at port there
    where
      by_first : (sets : List Publication) → ((y : List Pattern) → published_as sets u ≡ Some y → published_as p.sets u ≡ Some y) → published_as (new ∷ sets) u ≡ Some x → published_as after.sets u ≡ Some x
      by_first sets earlier there =
          elim (is_first sets v ps u x there) [
            | inl same ↦ ap (published_as after.sets) same.0 ∙ (published ∙ ap Some (sym same.1))
            | inr old ↦ up.sets u x (earlier x old)
          ]

      go : (at port : Port) → published_as (at_port port (more_one at new one two) (more_two at new one two)) u ≡ Some x → published_as after.sets u ≡ Some x
      go One One there = by_first one (λ y old. h.known One u y old) there
      go One Two there = up.sets u x (h.known Two u x there)
      go Two One there = up.sets u x (h.known One u x there)
      go Two Two there = by_first two (λ y old. h.known Two u y old) there

  only_then : (u : ℕ) (x : List Pattern) → published_as after.sets u ≡ Some x → (port : Port) × (published_as (sets_of port) u ≡ Some x)
  only_then u x there =
      elim (joined_only p.sets new u x there) [
        | inl same ↦ (at, ap (published_as (sets_of at)) same.0 ∙ (new_there at ∙ ap Some (sym same.1)))
        | inr old ↦ let before = h.only u x old in (before.0, still_published before.0 u x before.1)
      ]

  has_still : (port : Port) (u : ℕ) → Has (at_port port one two) u → Has (sets_of port) u
  has_still port u x = (x.0, still_published port u x.0 x.1)

  catalogues_then : (port : Port) → IsCatalogue (sets_of port)
  catalogues_then port = go at port later
    where
      go : (at port : Port) → latest_as (at_port at one two) < v → IsCatalogue (at_port port (more_one at new one two) (more_two at new one two))
      go One One lt = (lt, solid, h.catalogues One)
      go One Two lt = h.catalogues Two
      go Two One lt = h.catalogues One
      go Two Two lt = (lt, solid, h.catalogues Two)

  audited_publication : Audited mode (more_one at new one two) (more_two at new one two) after (heard w at (service_step (desk_of w at) (service_events.Publishes v)))
  audited_publication =
      let e : ServiceEvent = service_events.Publishes v in
      let r : Response = service_step (desk_of w at) e in
      let works : List WorkState = works_of at w.works in
      let same : r.desk.version ≡ v = lends.version (desk_of w at) e in
      let grown : DeskFits after w.down works (desk_of w at) = subst (λ (ms : List Letter). DeskFits after ms works (desk_of w at)) (append-nil w.down) (desk_grows p after w.down [] works (desk_of w at) up (h.lawful.desks at)) in
      let told : Told after w.down works r = publishes_told after w.down works (desk_of w at) grown all_solid v ps published (λ none. absurd (omega (arith, later, none))) in
      record {
        lawful = lawful_heard mode p after w h.lawful up refl all_solid at r told;
        catalogues = catalogues_then;
        known = known_then;
        only = only_then;
        versions = heard_desks (λ port d. (d.version ≡ 0 → ⊥) → Has (sets_of port) d.version) w at r (λ some. subst (Has (sets_of at)) (sym same) (ps, new_there at)) (λ port some. has_still port (desk_of w port).version (h.versions port some));
        lent =
            heard_works (λ port ks. AllHave (sets_of port) ks) w at r
            (each-append (λ (k : WorkState). Has (sets_of at) k.version) works r.works (all_still at) (lent_there mode one two p w h at (sets_of at) e (λ u x. has_still at u x)))
            all_still;
      }
    where
      all_still : (port : Port) → AllHave (sets_of port) (works_of port w.works)
      all_still port = each_weaker (λ (k : WorkState). Has (at_port port one two) k.version) (λ (k : WorkState). Has (sets_of port) k.version) (λ k x. has_still port k.version x) (works_of port w.works) (h.lent port)

-- ---- all entries

-- the world that they lead to
abbrev end_world : WorldState → List SideEntry → WorldState
end_world w [] = w
end_world w (OfFilter x ∷ es) = end_world (after_filter w RestartFilter x.event) es
end_world w (OfService port x ∷ es) = end_world (heard w port (respond (desk_of w port) x.call)) es

-- what makes them legal from here on
record Goes (one two : List Publication) (w : WorldState) (es : List SideEntry) : Type 0 where
  filter : IsFilterAudit w.table w.volume (filter_side es)
  first : IsServiceAudit one w.one (service_side One es)
  second : IsServiceAudit two w.two (service_side Two es)
  first_works : FinishesItsWorks one (works_of One w.works) (service_side One es)
  second_works : FinishesItsWorks two (works_of Two w.works) (service_side Two es)
  one_sets : AreOneSets (sets_end one (service_side One es)) (sets_end two (service_side Two es))
  delivered : IsDelivered w.down w.up es

record Ends (mode : Mode) (p : Past) (w : WorldState) (es : List SideEntry) : Type 0 where
  lawful : Lawful mode (past_end p es) (end_world w es)
  answers : Each (λ a. IsJustified mode a.past a.answer) (answers_in p es)

-- a call of a service, whatever it is
called : (mode : Mode) (one two : List Publication) (p : Past) (w : WorldState) → Audited mode one two p w → (call : Call) → IsAccepted one w.one call → IsOfWorks one (works_of One w.works) call → CameDown w.down call
    → ((v : ℕ) (ps qs : List Pattern) → call ≡ Publishes v ps → published_as p.sets v ≡ Some qs → qs ≡ ps) → Audited mode (sets_after one call) two (past_call p call) (heard w One (respond w.one call))
called mode one two p w h (By e) ok work came agrees = audited_call mode one two p w h One e ok work came
called mode one two p w h (Publishes v ps) ok work came agrees = audited_publication mode one two p w h One v ps ok.later ok.solid (λ qs at. agrees v ps qs refl at)

called_too : (mode : Mode) (one two : List Publication) (p : Past) (w : WorldState) → Audited mode one two p w → (call : Call) → IsAccepted two w.two call → IsOfWorks two (works_of Two w.works) call → CameDown w.down call
    → ((v : ℕ) (ps qs : List Pattern) → call ≡ Publishes v ps → published_as p.sets v ≡ Some qs → qs ≡ ps) → Audited mode one (sets_after two call) (past_call p call) (heard w Two (respond w.two call))
called_too mode one two p w h (By e) ok work came agrees = audited_call mode one two p w h Two e ok work came
called_too mode one two p w h (Publishes v ps) ok work came agrees = audited_publication mode one two p w h Two v ps ok.later ok.solid (λ qs at. agrees v ps qs refl at)

ends : (mode : Mode) (es : List SideEntry) (one two : List Publication) (p : Past) (w : WorldState) → Audited mode one two p w → Goes one two w es → Ends mode p w es
ends mode [] one two p w h g = record { lawful = h.lawful; answers = tt }
ends mode (OfFilter x ∷ es) one two p w h g =
    let came : CameUp w.up x.event = g.delivered.0 in
    let q : Past = past_filter p x.event in
    let r : Reaction = filter_step w.table w.volume x.event in
    let next : WorldState = after_filter w RestartFilter x.event in
    let just : Each (IsJustified mode q) r.answers = answers_just mode p w x.event h.lawful (filter_comes p w x.event g.filter.0 h.lawful.up came) g.filter.0 in
    let rest : Ends mode q next es =
    ends mode es one two q next (audited_filter mode one two p w h x.event g.filter.0 came)
    (record {
      filter = g.filter.2;
      first = g.first;
      second = g.second;
      first_works = g.first_works;
      second_works = g.second_works;
      one_sets = g.one_sets;
      delivered = subst (λ ms. IsDelivered (w.down ++ ms) w.up es) g.filter.1.messages g.delivered.1;
    }) in
    record {
      lawful = rest.lawful;
      answers =
          each-append (λ (a : Answered). IsJustified mode a.past a.answer) (map (told_at q) x.answers) (answers_in q es)
          (each-map (λ (a : Answered). IsJustified mode a.past a.answer) (IsJustified mode q) (told_at q) (λ a h. h) x.answers (subst (Each (IsJustified mode q)) (sym g.filter.1.answers) just)) rest.answers;
    }
ends mode (OfService One x ∷ es) one two p w h g =
    let q : Past = past_call p x.call in
    let r : Response = respond w.one x.call in
    let next : WorldState = heard w One r in
    let rest : Ends mode q next es =
    ends mode es (sets_after one x.call) two q next (called mode one two p w h x.call g.first.0 g.first_works.0 g.delivered.0 agrees)
    (record {
      filter = g.filter;
      first = g.first.2;
      second = g.second;
      first_works = subst (λ ks. FinishesItsWorks (sets_after one x.call) ks (service_side One es)) (ap (λ ks. works_of One w.works ++ ks) g.first.1.works ∙ sym (works_more One w.works r.works)) g.first_works.1;
      second_works = subst (λ ks. FinishesItsWorks two ks (service_side Two es)) (sym (works_two w.works r.works)) g.second_works;
      one_sets = g.one_sets;
      delivered = subst (λ ms. IsDelivered w.down (w.up ++ ms) es) g.first.1.messages g.delivered.1;
    }) in
    record { lawful = rest.lawful; answers = rest.answers }
  where
    by_port : (v : ℕ) (ps qs : List Pattern) → x.call ≡ Publishes v ps → (port : Port) → published_as (at_port port one two) v ≡ Some qs → qs ≡ ps
    by_port v ps qs is One at =
        let new : IsAccepted one w.one (Publishes v ps) = subst (IsAccepted one w.one) is g.first.0 in
        let le = published_before one v qs (catalogue_falls one (h.catalogues One)) at in
        absurd (omega (arith, le, new.later))
    by_port v ps qs is Two at =
        let there : published_as (sets_after one x.call) v ≡ Some ps = subst (λ c. published_as (sets_after one c) v ≡ Some ps) (sym is) (first_published one v ps) in
        sym
        (g.one_sets v ps qs
        (published_then (service_side One es) (sets_after one x.call) (respond w.one x.call).desk v ps (catalogue_after one w.one x.call (h.catalogues One) g.first.0) g.first.2 there)
        (published_then (service_side Two es) two w.two v qs (h.catalogues Two) g.second at))

    agrees : (v : ℕ) (ps qs : List Pattern) → x.call ≡ Publishes v ps → published_as p.sets v ≡ Some qs → qs ≡ ps
    agrees v ps qs is at = let found = h.only v qs at in by_port v ps qs is found.0 found.1
ends mode (OfService Two x ∷ es) one two p w h g =
    let q : Past = past_call p x.call in
    let r : Response = respond w.two x.call in
    let next : WorldState = heard w Two r in
    let rest : Ends mode q next es =
    ends mode es one (sets_after two x.call) q next (called_too mode one two p w h x.call g.second.0 g.second_works.0 g.delivered.0 agrees)
    (record {
      filter = g.filter;
      first = g.first;
      second = g.second.2;
      first_works = subst (λ ks. FinishesItsWorks one ks (service_side One es)) (sym (works_one w.works r.works)) g.first_works;
      second_works = subst (λ ks. FinishesItsWorks (sets_after two x.call) ks (service_side Two es)) (ap (λ ks. works_of Two w.works ++ ks) g.second.1.works ∙ sym (works_more Two w.works r.works)) g.second_works.1;
      one_sets = g.one_sets;
      delivered = subst (λ ms. IsDelivered w.down (w.up ++ ms) es) g.second.1.messages g.delivered.1;
    }) in
    record { lawful = rest.lawful; answers = rest.answers }
  where
    by_port : (v : ℕ) (ps qs : List Pattern) → x.call ≡ Publishes v ps → (port : Port) → published_as (at_port port one two) v ≡ Some qs → qs ≡ ps
    by_port v ps qs is Two at =
        let new : IsAccepted two w.two (Publishes v ps) = subst (IsAccepted two w.two) is g.second.0 in
        let le = published_before two v qs (catalogue_falls two (h.catalogues Two)) at in
        absurd (omega (arith, le, new.later))
    by_port v ps qs is One at =
        let there : published_as (sets_after two x.call) v ≡ Some ps = subst (λ c. published_as (sets_after two c) v ≡ Some ps) (sym is) (first_published two v ps) in
        g.one_sets v qs ps (published_then (service_side One es) one w.one v qs (h.catalogues One) g.first at)
        (published_then (service_side Two es) (sets_after two x.call) (respond w.two x.call).desk v ps (catalogue_after two w.two x.call (h.catalogues Two) g.second.0) g.second.2 there)

    agrees : (v : ℕ) (ps qs : List Pattern) → x.call ≡ Publishes v ps → published_as p.sets v ≡ Some qs → qs ≡ ps
    agrees v ps qs is at = let found = h.only v qs at in by_port v ps qs is found.0 found.1

-- ---- what each side's audit says of the end

end_table : (es : List SideEntry) (w : WorldState) → filter_end w.table w.volume (filter_side es) ≡ record { table = (end_world w es).table; volume = (end_world w es).volume }
end_table [] w = refl
end_table (OfFilter x ∷ es) w = end_table es (after_filter w RestartFilter x.event)
end_table (OfService port x ∷ es) w = end_table es (heard w port (respond (desk_of w port) x.call))

end_down : (es : List SideEntry) (w : WorldState) → IsFilterAudit w.table w.volume (filter_side es) → sent_down w.down (filter_side es) ≡ (end_world w es).down
end_down [] w f = refl
end_down (OfFilter x ∷ es) w f = ap (λ ms. sent_down (w.down ++ ms) (filter_side es)) f.1.messages ∙ end_down es (after_filter w RestartFilter x.event) f.2
end_down (OfService port x ∷ es) w f = end_down es (heard w port (respond (desk_of w port) x.call)) f

end_desk : (es : List SideEntry) (w : WorldState) (port : Port) → desk_end (desk_of w port) (service_side port es) ≡ desk_of (end_world w es) port
end_desk [] w port = refl
end_desk (OfFilter x ∷ es) w port = end_desk es (after_filter w RestartFilter x.event) port
end_desk (OfService One x ∷ es) w One = end_desk es (heard w One (respond w.one x.call)) One
end_desk (OfService One x ∷ es) w Two = end_desk es (heard w One (respond w.one x.call)) Two
end_desk (OfService Two x ∷ es) w One = end_desk es (heard w Two (respond w.two x.call)) One
end_desk (OfService Two x ∷ es) w Two = end_desk es (heard w Two (respond w.two x.call)) Two

stays_placed : (d : Desk) (call : Call) → (respond d call).desk.port ≡ d.port
stays_placed d (By e) = stays_on_its_port.stays d e
stays_placed d (Publishes v ps) = stays_on_its_port.stays d (service_events.Publishes v)

end_place : (es : List SideEntry) (w : WorldState) (port : Port) → (desk_of w port).port ≡ port → (desk_of (end_world w es) port).port ≡ port
end_place [] w port h = h
end_place (OfFilter x ∷ es) w port h = end_place es (after_filter w RestartFilter x.event) port h
end_place (OfService One x ∷ es) w One h = end_place es (heard w One (respond w.one x.call)) One (stays_placed w.one x.call ∙ h)
end_place (OfService One x ∷ es) w Two h = end_place es (heard w One (respond w.one x.call)) Two h
end_place (OfService Two x ∷ es) w One h = end_place es (heard w Two (respond w.two x.call)) One h
end_place (OfService Two x ∷ es) w Two h = end_place es (heard w Two (respond w.two x.call)) Two (stays_placed w.two x.call ∙ h)

-- each reply of a service is the conduct's
abbrev Responds : Desk → List ServiceEntry → Type 0
Responds d [] = Unit {0}
Responds d (x ∷ xs) = IsResponse x (respond d x.call) × Responds (respond d x.call).desk xs

responds : (xs : List ServiceEntry) (sets : List Publication) (d : Desk) → IsServiceAudit sets d xs → Responds d xs
responds [] sets d audit = tt
responds (x ∷ xs) sets d audit = (audit.1, responds xs (sets_after sets x.call) (respond d x.call).desk audit.2)

end_works : (es : List SideEntry) (w : WorldState) (port : Port) → Responds (desk_of w port) (service_side port es) → lent_by (works_of port w.works) (service_side port es) ≡ works_of port (end_world w es).works
end_works [] w port s = refl
end_works (OfFilter x ∷ es) w port s = end_works es (after_filter w RestartFilter x.event) port s
end_works (OfService One x ∷ es) w One s =
    let r : Response = respond w.one x.call in
    ap (λ ks. lent_by ks (service_side One es)) (ap (λ ks. works_of One w.works ++ ks) s.0.works ∙ sym (works_more One w.works r.works)) ∙ end_works es (heard w One r) One s.1
end_works (OfService One x ∷ es) w Two s =
    let r : Response = respond w.one x.call in
    ap (λ ks. lent_by ks (service_side Two es)) (sym (works_two w.works r.works)) ∙ end_works es (heard w One r) Two s
end_works (OfService Two x ∷ es) w One s =
    let r : Response = respond w.two x.call in
    ap (λ ks. lent_by ks (service_side One es)) (sym (works_one w.works r.works)) ∙ end_works es (heard w Two r) One s
end_works (OfService Two x ∷ es) w Two s =
    let r : Response = respond w.two x.call in
    ap (λ ks. lent_by ks (service_side Two es)) (ap (λ ks. works_of Two w.works ++ ks) s.0.works ∙ sym (works_more Two w.works r.works)) ∙ end_works es (heard w Two r) Two s.1

-- ---- what was sent up, in whatever order

each_front : {A : Type 0} (P : A → Type 0) (xs ys : List A) → Each P (xs ++ ys) → Each P xs
each_front P [] ys all = tt
each_front P (x ∷ xs) ys all = (all.0, each_front P xs ys all.1)

each_back : {A : Type 0} (P : A → Type 0) (xs ys : List A) → Each P (xs ++ ys) → Each P ys
each_back P [] ys all = all
each_back P (x ∷ xs) ys all = each_back P xs ys all.1

up_before : (P : Letter → Type 0) (es : List SideEntry) (w : WorldState) → Each P (end_world w es).up → Each P w.up
up_before P [] w all = all
up_before P (OfFilter x ∷ es) w all = up_before P es (after_filter w RestartFilter x.event) all
up_before P (OfService port x ∷ es) w all = let r : Response = respond (desk_of w port) x.call in each_front P w.up r.messages (up_before P es (heard w port r) all)

-- what the next call sends is among it
sent_next : (P : Letter → Type 0) (port : Port) (x : ServiceEntry) (es : List SideEntry) (w : WorldState) → Each P (end_world w (OfService port x ∷ es)).up → IsResponse x (respond (desk_of w port) x.call) → Each P x.messages
sent_next P port x es w all same = let r : Response = respond (desk_of w port) x.call in subst (Each P) (sym same.messages) (each_back P w.up r.messages (up_before P es (heard w port r) all))

up_of : (P : Letter → Type 0) (es : List SideEntry) (w : WorldState) (port : Port) (sent : List Letter) → Each P sent → Each P (end_world w es).up → Responds (desk_of w port) (service_side port es) → Each P (sent_up sent (service_side port es))
up_of P [] w port sent before all s = before
up_of P (OfFilter x ∷ es) w port sent before all s = up_of P es (after_filter w RestartFilter x.event) port sent before all s
up_of P (OfService One x ∷ es) w One sent before all s =
    up_of P es (heard w One (respond w.one x.call)) One (sent ++ x.messages) (each-append P sent x.messages before (sent_next P One x es w all s.0)) all s.1
up_of P (OfService One x ∷ es) w Two sent before all s = up_of P es (heard w One (respond w.one x.call)) Two sent before all s
up_of P (OfService Two x ∷ es) w One sent before all s = up_of P es (heard w Two (respond w.two x.call)) One sent before all s
up_of P (OfService Two x ∷ es) w Two sent before all s =
    up_of P es (heard w Two (respond w.two x.call)) Two (sent ++ x.messages) (each-append P sent x.messages before (sent_next P Two x es w all s.0)) all s.1

-- ---- from the opening

now_known : (fs : List File) → map now (map known_since fs) ≡ fs
unfolding generation_after
now_known [] = refl
now_known (f ∷ fs) = ap (λ gs. f ∷ gs) (now_known fs)

module _ (mode : Mode) (limits : LimitValues) (told : Port → Started) (fs : List File) (v : Store) (sets : Port → List Publication) (es : List SideEntry) (legal : AreLegal mode limits told fs v sets es) where
  abbrev first : WorldState
  first =
      record {
        history = [];
        volume = v;
        sets = [];
        table = mounted mode limits v.boot;
        one = desk_at_first One (told One) (sets One);
        two = desk_at_first Two (told Two) (sets Two);
        down = [];
        up = [];
        works = [];
        answers = [];
      }

  abbrev opened : Past
  opened = opening_past fs sets

  one_at_first : AreOneSets (sets One) (sets Two)
  one_at_first version p q a b =
      legal.one_sets version p q
      (published_then (service_side One es) (sets One) first.one version p (legal.catalogues One) (legal.services One) a)
      (published_then (service_side Two es) (sets Two) first.two version q (legal.catalogues Two) (legal.services Two) b)

  known_at_first : (port : Port) (version : ℕ) (ps : List Pattern) → published_as (at_port port (sets One) (sets Two)) version ≡ Some ps → published_as opened.sets version ≡ Some ps
  known_at_first One version ps at = union_first (sets One) (sets Two) version ps at
  known_at_first Two version ps at = union_second (sets One) (sets Two) version ps (legal.catalogues Two) one_at_first at

  only_at_first : (version : ℕ) (ps : List Pattern) → published_as opened.sets version ≡ Some ps → (port : Port) × (published_as (at_port port (sets One) (sets Two)) version ≡ Some ps)
  only_at_first version ps at = elim (union_only (sets One) (sets Two) version ps (legal.catalogues Two) at) [ inl a ↦ (One, a) | inr b ↦ (Two, b) ]

  versions_at_first : (port : Port) → ((desk_of first port).version ≡ 0 → ⊥) → Has (at_port port (sets One) (sets Two)) (desk_of first port).version
  versions_at_first One some = latest_published (sets One) some
  versions_at_first Two some = latest_published (sets Two) some

  catalogues_at_first : (port : Port) → IsCatalogue (at_port port (sets One) (sets Two))
  catalogues_at_first One = legal.catalogues One
  catalogues_at_first Two = legal.catalogues Two

  desks_at_first : (port : Port) → DeskFits opened [] [] (desk_of first port)
  desks_at_first One = record { jobs = tt; cache = tt; published = λ some. let has = versions_at_first One some in (has.0, known_at_first One _ has.0 has.1); versioned = λ on. absurd (true≢false (sym on)); idle = λ off. refl; leases = tt }
  desks_at_first Two = record { jobs = tt; cache = tt; published = λ some. let has = versions_at_first Two some in (has.0, known_at_first Two _ has.0 has.1); versioned = λ on. absurd (true≢false (sym on)); idle = λ off. refl; leases = tt }

  no_works : (port : Port) → AllHave (at_port port (sets One) (sets Two)) []
  no_works port = tt

  at_first : Audited mode (sets One) (sets Two) opened first
  unfolding asked Rises
  at_first =
      let keeps : Keeps v (map now (map known_since fs)) = subst (Keeps v) (sym (now_known fs)) legal.volume in
      record {
        lawful = record {
          filter = record { present = keeps.streams; rises = tt; contexts = λ s. tt; questions = tt; apart = tt; scanning = tt; cache = tt; fresh = λ id later. refl; sent = tt; once = tt };
          keeps = keeps;
          opens = tt;
          boots = refl;
          fits = keeps_fit.mounts mode limits v;
          mode_kept = refl;
          solid = union_solid (sets One) (sets Two) (catalogue_solid (sets One) (legal.catalogues One)) (catalogue_solid (sets Two) (legal.catalogues Two));
          desks = desks_at_first;
          up = tt;
        };
        catalogues = catalogues_at_first;
        known = known_at_first;
        only = only_at_first;
        versions = versions_at_first;
        lent = no_works;
      }

  at_end : Ends mode opened first es
  at_end =
      ends mode es (sets One) (sets Two) opened first at_first
      (record {
        filter = legal.filter;
        first = legal.services One;
        second = legal.services Two;
        first_works = legal.works One;
        second_works = legal.works Two;
        one_sets = legal.one_sets;
        delivered = legal.delivered;
      })

  one_responds : Responds first.one (service_side One es)
  one_responds = responds (service_side One es) (sets One) first.one (legal.services One)

  two_responds : Responds first.two (service_side Two es)
  two_responds = responds (service_side Two es) (sets Two) first.two (legal.services Two)

  -- what each side's audit says stands in the world that they lead to
  pub one_verdict : AuditsHoldOneVerdict fs (mounted mode limits v.boot) v told sets es
  one_verdict =
      let w : WorldState = end_world first es in
      let p : Past = past_end opened es in
      let l : Lawful mode p w = at_end.lawful in
      let up : Each (UpFits p w.down) (all_up es) =
      up_of (UpFits p w.down) es first Two (sent_up [] (service_side One es)) (up_of (UpFits p w.down) es first One [] tt l.up one_responds) l.up two_responds in
      let held = held_right p (record w { up = all_up es }) l.filter l.keeps (l.desks One).cache (l.desks Two).cache up in
      subst (λ (k : Mount). All (IsRightEntry p) (held_among k.table k.volume.streams (desk_end first.one (service_side One es)) (desk_end first.two (service_side Two es)) (sent_down [] (filter_side es)) (all_up es))) (sym (end_table es first))
      (subst (λ d. All (IsRightEntry p) (held_among w.table w.volume.streams d (desk_end first.two (service_side Two es)) (sent_down [] (filter_side es)) (all_up es))) (sym (end_desk es first One))
      (subst (λ d. All (IsRightEntry p) (held_among w.table w.volume.streams w.one d (sent_down [] (filter_side es)) (all_up es))) (sym (end_desk es first Two))
      (subst (λ ms. All (IsRightEntry p) (held_among w.table w.volume.streams w.one w.two ms (all_up es))) (sym (end_down es first legal.filter)) held)))

  responds_at : (port : Port) → Responds (desk_of first port) (service_side port es)
  responds_at One = one_responds
  responds_at Two = two_responds

  place_at : (port : Port) → (desk_of (end_world first es) port).port ≡ port
  place_at port = end_place es first port (at_its_port port)
    where
      at_its_port : (port : Port) → (desk_of first port).port ≡ port
      at_its_port One = refl
      at_its_port Two = refl

  judged : (port : Port) → All (JudgesItsContent (past_end opened es) (sent_down [] (filter_side es)) port (lent_by [] (service_side port es)) (desk_end (desk_of first port) (service_side port es)).last_lease (desk_end (desk_of first port) (service_side port es)).version)
      (desk_end (desk_of first port) (service_side port es)).jobs
  judged port =
      let w : WorldState = end_world first es in
      let p : Past = past_end opened es in
      let d : Desk = desk_of w port in
      let fits = (at_end.lawful.desks port).jobs in
      let placed : Each (JudgesItsContent p w.down port (works_of port w.works) d.last_lease d.version) d.jobs = subst (λ at. Each (JudgesItsContent p w.down at (works_of port w.works) d.last_lease d.version) d.jobs) (place_at port) fits in
      subst (λ (k : Desk). All (JudgesItsContent p (sent_down [] (filter_side es)) port (lent_by [] (service_side port es)) k.last_lease k.version) k.jobs) (sym (end_desk es first port))
      (subst (λ ms. All (JudgesItsContent p ms port (lent_by [] (service_side port es)) d.last_lease d.version) d.jobs) (sym (end_down es first legal.filter))
      (subst (λ ks. All (JudgesItsContent p w.down port ks d.last_lease d.version) d.jobs) (sym (end_works es first port (responds_at port)))
      (All-from_recursion (JudgesItsContent p w.down port (works_of port w.works) d.last_lease d.version) d.jobs placed)))

  pub judged_bytes : AuditsJudgeRightly fs told sets es
  judged_bytes One = judged One
  judged_bytes Two = judged Two

  pub only_clean : AuditsGrantOnlyClean mode fs sets es
  only_clean = All-from_recursion (λ (a : Answered). IsJustified mode a.past a.answer) _ at_end.answers

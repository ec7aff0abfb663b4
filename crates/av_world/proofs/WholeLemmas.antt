-- Every step leaves a world whole.
use Rattle.std.proofs.Common.{◌≡◌, ℕ, zero, suc, pred, Bool, true, false, cond, if◌then◌else◌, ◌==◌, List, [], ◌∷◌, ◌++◌, map, slice_set, Option, Some, None, Ok, refl, sym, ap, ◌∙◌, subst, arith, eq-eqb, inl, inr}
use Rattle.std.proofs.lemmas.Bool.{eqb-false, true≢false}
use Rattle.std.specs.List.{AllByRecursion as Each}
use Rattle.av_base.specs.Limits.{AreInRange}
use Rattle.av_base.specs.declared.limits.LimitValues.{LimitValues}
use Rattle.av_base.specs.declared.mode.Mode.{Mode}
use Rattle.av_base.specs.declared.port.Port.{Port}
use Rattle.av_base.specs.declared.port.Port.TheVariants.{One, Two}
use Rattle.av_filter.proofs.BoundLemmas.{keeps_bounds, leads_to, volume_after}
use Rattle.av_filter.proofs.EachLemmas.{each_weaker}
use Rattle.av_filter.proofs.FitLemmas.{accepted, event_fits, mounted_fits}
use Rattle.av_filter.proofs.PortLemmas.{keeps_ports}
use Rattle.av_filter.specs.Fit.{RunOnOpen, Stands}
use Rattle.av_filter.specs.Conduct.{FilterEvent, Opens, Changes, Restarts, filter_refusal, filter_step}
use Rattle.av_filter_table.specs.Table.{Table}
use Rattle.av_service.specs.Audit.{IsNew}
use Rattle.av_service.proofs.LendLemmas.{lends}
use Rattle.av_service.proofs.PortLemmas.{stays_on_its_port}
use Rattle.av_service.specs.Conduct.{ServiceEvent, Connects, connect_refusal, service_step}
use Rattle.av_service.specs.Conduct as service_events
use Rattle.av_service.specs.Desk.{Desk}
use Rattle.av_service.specs.Response.{Response}
use Rattle.av_service.specs.Sound.{version_after}
use Rattle.av_service.specs.declared.fault.ConnectFault.TheVariants.{NoSignatures, AlreadyConnected}
use Rattle.av_service.specs.Work.{WorkState}
use Rattle.av_sigset.specs.Catalogue.{latest, set_at}
use Rattle.av_sigset.specs.Publication.{Publication, publication_of}
use Rattle.av_sigset.specs.Set.{NumberedSet}
use Rattle.av_sigset.specs.declared.signature.Pattern.{Pattern}
use Rattle.av_store.proofs.SeenLemmas.{follows, kept_change}
use Rattle.av_store.specs.Bounds.{AreInBounds}
use Rattle.av_store.specs.History.{now}
use Rattle.av_store.specs.Seen.{Keeps}
use Rattle.av_store.specs.Store.{Store}
use Rattle.av_world.proofs.PublishLemmas.{is_new, made_of}
use Rattle.av_history.proofs.SceneLemmas.{sets_same}
use Rattle.av_world.proofs.SoundLemmas.{past_of, past_of_service}
use Rattle.av_history.proofs.StepLemmas.{IsPublished, Preserves, after_filter, after_service, step_keeps}
use Rattle.av_history.specs.Cores.{IsFilterEvent, IsServiceEvent}
use Rattle.av_history.specs.Past.{IsTold, Past, past}
use Rattle.av_history.specs.Safety.{works_out}
use Rattle.av_history.specs.Scene.{past_filter}
use Rattle.av_history.specs.Whole.{IsPublishedAs, IsWhole, StaysWhole}
use Rattle.av_history.specs.World.{WorldState, after_set, all_told, back_at, desk_of, done, heard, lent_at, start, step_of, with_set, world_or}
use Rattle.av_history.specs.declared.event.Event.{Event}
use Rattle.av_history.specs.declared.event.Event.TheVariants.{Publish, Run}
use Rattle.av_history.specs.declared.report.Report.{Report}

-- the volume after an event keeps what the past after it tells
kept_after : (p : Past) (t : Table) (v : Store) (f : FilterEvent) → Keeps v (map now p.streams) → filter_refusal t v f ≡ None → Keeps (volume_after v f) (map now (past_filter p f).streams)
unfolding filter_refusal
kept_after p t v (Opens s least) k ok = record { streams = k.streams; last = k.last }
kept_after p t v (Changes c) k ok = kept_change v _ p.streams c k (accepted v c ok)
kept_after p t v Restarts k ok = record { streams = k.streams; last = k.last }
kept_after p t v _ k ok = k

filter_whole : (w : WorldState) → IsWhole w → (e : Event) (f : FilterEvent) → IsFilterEvent w e f → filter_refusal w.table w.volume f ≡ None → IsWhole (after_filter w e f)
filter_whole w h e f is ok =
    let p : Past = past w.history in
    let tells : past (e ∷ w.history) ≡ past_filter p f = past_of w e f h.told.volume is in
    record {
      told = record {
        volume = subst (λ (q : Past). Keeps (filter_step w.table w.volume f).volume (map now q.streams)) (sym tells)
            (subst (λ v. Keeps v (map now (past_filter p f).streams)) (sym (leads_to w.table w.volume f)) (kept_after p w.table w.volume f h.told.volume ok));
        sets = h.told.sets ∙ sym (ap (λ (q : Past). q.sets) tells ∙ sets_same p f);
      };
      stands = event_fits w.table w.volume f h.stands ok;
      bounds = keeps_bounds.events w.table w.volume f h.bounds ok;
      runs = keeps_ports w.table w.volume f h.runs ok;
      ports = h.ports;
      present = h.present;
      connected = h.connected;
      works = h.works;
    }

-- ---- versions

more_sets : (s : NumberedSet) (sets : List NumberedSet) (v : ℕ) → IsPublishedAs sets v → IsPublishedAs (s ∷ sets) v
unfolding set_at
more_sets s sets v h = elim (s.version == v) as (λ b. (x : NumberedSet) × (cond b (Some s) (set_at sets v) ≡ Some x)) [ true ↦ (s, refl) | false ↦ h ]

first_set : (s : NumberedSet) (sets : List NumberedSet) → IsPublishedAs (s ∷ sets) s.version
unfolding set_at
first_set s sets = (s, rw (eq-eqb s.version s.version refl) refl)

latest_set : (sets : List NumberedSet) → (latest sets ≡ 0 → ⊥) → IsPublishedAs sets (latest sets)
latest_set [] some = absurd (some refl)
latest_set (s ∷ sets) some = first_set s sets

-- ---- the services

-- what is said of the service of a port, where these sets are published
record Serves (sets : List NumberedSet) (port : Port) (d : Desk) : Type 0 where
  place : d.port ≡ port
  present : (d.version ≡ 0 → ⊥) → IsPublishedAs sets d.version
  connected : d.connected ≡ true → d.version ≡ 0 → ⊥

-- the version of a work that is out is published
abbrev IsLent : List NumberedSet → Port × WorkState → Type 0
IsLent sets k = IsPublishedAs sets k.1.version

-- of both, and of their works
record Serve (sets : List NumberedSet) (one two : Desk) (works : List (Option (Port × WorkState))) : Type 0 where
  first : Serves sets One one
  second : Serves sets Two two
  lent : Each (IsLent sets) (works_out works)

-- of a world, where these sets are published
abbrev AllServe : List NumberedSet → WorldState → Type 0
AllServe sets w = Serve sets w.one w.two w.works

serves_of : (w : WorldState) → IsWhole w → (port : Port) → Serves w.sets port (desk_of w port)
serves_of w h port = record { place = h.ports port; present = h.present port; connected = h.connected port }

serve_of : (w : WorldState) → IsWhole w → AllServe w.sets w
serve_of w h = record { first = serves_of w h One; second = serves_of w h Two; lent = h.works }

by_port : (sets : List NumberedSet) (w : WorldState) → AllServe sets w → (port : Port) → Serves sets port (desk_of w port)
by_port sets w s One = s.first
by_port sets w s Two = s.second

whole_by : (w next : WorldState) → IsWhole w → next.table ≡ w.table → next.volume ≡ w.volume → IsTold next → AllServe next.sets next → IsWhole next
whole_by w next h table volume told s = record {
  told = told;
  stands = subst (λ t. Stands t next.volume) (sym table) (subst (Stands w.table) (sym volume) h.stands);
  bounds = subst AreInBounds (sym volume) h.bounds;
  runs = subst RunOnOpen (sym table) h.runs;
  ports = λ port. (by_port next.sets next s port).place;
  present = λ port. (by_port next.sets next s port).present;
  connected = λ port. (by_port next.sets next s port).connected;
  works = s.lent;
}

-- with more sets
serves_more : (s : NumberedSet) (sets : List NumberedSet) (port : Port) (d : Desk) → Serves sets port d → Serves (s ∷ sets) port d
serves_more s sets port d h = record { place = h.place; present = λ some. more_sets s sets d.version (h.present some); connected = h.connected }

serve_more : (s : NumberedSet) (w : WorldState) → AllServe w.sets w → AllServe (s ∷ w.sets) w
serve_more s w h = record {
  first = serves_more s w.sets One w.one h.first;
  second = serves_more s w.sets Two w.two h.second;
  lent = each_weaker (IsLent w.sets) (IsLent (s ∷ w.sets)) (λ k p. more_sets s w.sets k.1.version p) (works_out w.works) h.lent;
}

-- without one that came back
works_less : (P : Port × WorkState → Type 0) (ws : List (Option (Port × WorkState))) (k : ℕ) → Each P (works_out ws) → Each P (works_out (slice_set ws k None))
works_less P [] k all = tt
works_less P (None ∷ ws) zero all = all
works_less P (Some x ∷ ws) zero all = all.1
works_less P (None ∷ ws) (suc k) all = works_less P ws k all
works_less P (Some x ∷ ws) (suc k) all = (all.0, works_less P ws k all.1)

-- with those that are lent now
works_joined : (sets : List NumberedSet) (port : Port) (ws : List (Option (Port × WorkState))) (ks : List WorkState) → Each (IsLent sets) (works_out ws) → Each (λ k. IsPublishedAs sets k.version) ks → Each (IsLent sets) (works_out (ws ++ map (lent_at port) ks))
works_joined sets port [] [] a b = tt
works_joined sets port [] (k ∷ ks) a b = (b.0, works_joined sets port [] ks tt b.1)
works_joined sets port (None ∷ ws) ks a b = works_joined sets port ws ks a b
works_joined sets port (Some x ∷ ws) ks a b = (a.0, works_joined sets port ws ks a.1 b)

-- one response of the service of a port, whose version after it is published
module _ (sets : List NumberedSet) (w : WorldState) (h : AllServe sets w) (port : Port) (s : ServiceEvent)
    (version : (version_after (desk_of w port).version s ≡ 0 → ⊥) → IsPublishedAs sets (version_after (desk_of w port).version s))
    (on : (service_step (desk_of w port) s).desk.connected ≡ true → version_after (desk_of w port).version s ≡ 0 → ⊥) where
  abbrev response : Response
  response = service_step (desk_of w port) s

  same_version : response.desk.version ≡ version_after (desk_of w port).version s
  same_version = lends.version (desk_of w port) s

  serves_after : Serves sets port response.desk
  serves_after = record {
    place = stays_on_its_port.stays (desk_of w port) s ∙ (by_port sets w h port).place;
    present = λ some. subst (IsPublishedAs sets) (sym same_version) (version (λ none. some (same_version ∙ none)));
    connected = λ c none. on c (sym same_version ∙ none);
  }

  lent_after : Each (λ k. IsPublishedAs sets k.version) response.works
  lent_after =
      each_weaker (λ (k : WorkState). (k.version ≡ (desk_of w port).version) × ((desk_of w port).connected ≡ true)) (λ (k : WorkState). IsPublishedAs sets k.version)
      (λ k p. subst (IsPublishedAs sets) (sym p.0) ((by_port sets w h port).present ((by_port sets w h port).connected p.1))) response.works (lends.works (desk_of w port) s)

heard_serves : (sets : List NumberedSet) (w : WorldState) → AllServe sets w → (port : Port) (s : ServiceEvent) → ((version_after (desk_of w port).version s ≡ 0 → ⊥) → IsPublishedAs sets (version_after (desk_of w port).version s))
    → ((service_step (desk_of w port) s).desk.connected ≡ true → version_after (desk_of w port).version s ≡ 0 → ⊥) → AllServe sets (heard w port (service_step (desk_of w port) s))
heard_serves sets w h One s version on = record { first = serves_after sets w h One s version on; second = h.second; lent = works_joined sets One w.works (service_step w.one s).works h.lent (lent_after sets w h One s version on) }
heard_serves sets w h Two s version on = record { first = h.first; second = serves_after sets w h Two s version on; lent = works_joined sets Two w.works (service_step w.two s).works h.lent (lent_after sets w h Two s version on) }

-- a version that stays
stays_connected : (sets : List NumberedSet) (w : WorldState) → AllServe sets w → (port : Port) (s : ServiceEvent) → version_after (desk_of w port).version s ≡ (desk_of w port).version → (s ≡ Connects → (desk_of w port).version ≡ 0 → ⊥)
    → (service_step (desk_of w port) s).desk.connected ≡ true → version_after (desk_of w port).version s ≡ 0 → ⊥
stays_connected sets w h port s same first on none =
    elim (lends.connected (desk_of w port) s on) [
      | inl c ↦ first c (sym same ∙ none)
      | inr was ↦ (by_port sets w h port).connected was (sym same ∙ none)
    ]

still_serve : (sets : List NumberedSet) (w : WorldState) → AllServe sets w → (port : Port) (s : ServiceEvent) → version_after (desk_of w port).version s ≡ (desk_of w port).version → (s ≡ Connects → (desk_of w port).version ≡ 0 → ⊥)
    → AllServe sets (heard w port (service_step (desk_of w port) s))
still_serve sets w h port s same first =
    heard_serves sets w h port s (λ some. subst (IsPublishedAs sets) (sym same) ((by_port sets w h port).present (λ none. some (same ∙ none)))) (stays_connected sets w h port s same first)

told_still : (w next : WorldState) → IsWhole w → next.volume ≡ w.volume → next.sets ≡ w.sets → past next.history ≡ past w.history → IsTold next
told_still w next h volume sets same = record {
  volume = subst (λ (v : Store). Keeps v (map now (past next.history).streams)) (sym volume) (subst (λ (q : Past). Keeps w.volume (map now q.streams)) (sym same) h.told.volume);
  sets = ap (map publication_of) sets ∙ (h.told.sets ∙ sym (ap (λ (q : Past). q.sets) same));
}

some_version : (w : WorldState) (port : Port) → connect_refusal (desk_of w port) ≡ None → (desk_of w port).version ≡ 0 → ⊥
some_version w port ok none = go ((desk_of w port).version == 0) refl ok
  where
    go : (b : Bool) → ((desk_of w port).version == 0) ≡ b → (if b then Some NoSignatures else (if (desk_of w port).connected then Some AlreadyConnected else None)) ≡ None → ⊥
    go true e k = absurd (cc (k))
    go false e k = eqb-false (desk_of w port).version 0 e none

restarted_off : (d : Desk) (v : ℕ) → (service_step d (service_events.Restarts v)).desk.connected ≡ false
unfolding service_step
restarted_off d v = refl

restarted : (w : WorldState) (port : Port) → (service_step (desk_of w port) (service_events.Restarts (latest w.sets))).desk.connected ≡ true → latest w.sets ≡ 0 → ⊥
restarted w port on none = absurd (true≢false (sym on ∙ restarted_off (desk_of w port) (latest w.sets)))

-- what an event of a service leaves the services as
served : (w : WorldState) → IsWhole w → (e : Event) (port : Port) (s : ServiceEvent) → IsServiceEvent w e port s → AllServe w.sets (heard w port (service_step (desk_of w port) s))
served w h _ _ _ is = elim is as (λ e port s i. AllServe w.sets (heard w port (service_step (desk_of w port) s))) [
  | IsServiceEvent.connects port ok ↦ still_serve w.sets w (serve_of w h) port Connects refl (λ e. some_version w port ok)
  | IsServiceEvent.comes_down k m at ↦ still_serve w.sets w (serve_of w h) m.port (service_events.Receives m) refl (λ e. absurd (cc (e)))
  | IsServiceEvent.disconnects port ↦ still_serve w.sets w (serve_of w h) port service_events.Disconnects refl (λ e. absurd (cc (e)))
  | IsServiceEvent.restarts port ↦ heard_serves w.sets w (serve_of w h) port (service_events.Restarts (latest w.sets)) (latest_set w.sets) (restarted w port)
]

by_service : (w : WorldState) → IsWhole w → (e : Event) (port : Port) (s : ServiceEvent) → IsServiceEvent w e port s → IsWhole (after_service w e port s)
by_service w h e port s is =
    let next : WorldState = after_service w e port s in
    whole_by w next h refl refl (told_still w next h refl refl (past_of_service w e port s is)) (served w h e port s is)

by_publication : (w : WorldState) → IsWhole w → (v : ℕ) (ps : List Pattern) (s : NumberedSet) → IsPublished w v ps s → IsWhole (after_set w (Publish v ps) s)
unfolding past
by_publication w h v ps s ok =
    let made : publication_of s ≡ record { version = v; patterns = ps } = made_of v ps s ok.made in
    let new : IsNew (past w.history).sets v ps = is_new w (past w.history).sets v ps s ok (sym h.told.sets) in
    let version : s.version ≡ v = ap (λ (x : Publication). x.version) made in
    let some : s.version ≡ 0 → ⊥ = λ none. absurd (omega (arith, new.later, version, none)) in
    let w' : WorldState = with_set w s in
    let x : ServiceEvent = service_events.Publishes s.version in
    let one : AllServe (s ∷ w.sets) (heard w' One (service_step w.one x)) = heard_serves (s ∷ w.sets) w' (serve_more s w (serve_of w h)) One x (λ n. first_set s w.sets) (λ on. some) in
    let two : AllServe (s ∷ w.sets) (all_told w' s.version) = heard_serves (s ∷ w.sets) (heard w' One (service_step w.one x)) one Two x (λ n. first_set s w.sets) (λ on. some) in
    whole_by w (after_set w (Publish v ps) s) h refl refl
    (record { volume = h.told.volume; sets = ap (λ (x : Publication). x ∷ map publication_of w.sets) made ∙ ap (λ sets. record { version = v; patterns = ps } ∷ sets) h.told.sets }) two

by_work : (w : WorldState) → IsWhole w → (k : ℕ) (x : Port × WorkState) → IsWhole (after_service (back_at w k) (Run k) x.0 (done (map publication_of w.sets) x.1))
unfolding past
by_work w h k x =
    let s : ServiceEvent = done (map publication_of w.sets) x.1 in
    let next : WorldState = after_service (back_at w k) (Run k) x.0 s in
    let fewer : AllServe w.sets (back_at w k) = record { first = serves_of w h One; second = serves_of w h Two; lent = works_less (IsLent w.sets) w.works (pred k) h.works } in
    whole_by w next h refl refl (told_still w next h refl refl refl) (still_serve w.sets (back_at w k) fewer x.0 s refl (λ e. absurd (cc (e))))

whole_kept : (w : WorldState) → IsWhole w → Preserves (λ e. IsWhole) w
whole_kept w h = record {
  filter = λ e f is ok. filter_whole w h e f is ok;
  service = λ e port s is. by_service w h e port s is;
  publish = λ v ps s ok. by_publication w h v ps s ok;
  work = λ k x at. by_work w h k x;
}

starts_at : (number : ℕ) (mode : Mode) (limits : LimitValues) (port : Port) → (desk_of (start number mode limits) port).port ≡ port
starts_at number mode limits One = refl
starts_at number mode limits Two = refl

starts_without : (number : ℕ) (mode : Mode) (limits : LimitValues) (port : Port) → (desk_of (start number mode limits) port).version ≡ 0
starts_without number mode limits One = refl
starts_without number mode limits Two = refl

starts_off : (number : ℕ) (mode : Mode) (limits : LimitValues) (port : Port) → (desk_of (start number mode limits) port).connected ≡ false
starts_off number mode limits One = refl
starts_off number mode limits Two = refl

whole_start : (number : ℕ) (mode : Mode) (limits : LimitValues) → AreInRange limits → IsWhole (start number mode limits)
unfolding past
whole_start number mode limits ok =
    let k = follows.starts number limits in
    let b = keeps_bounds.starts number limits ok in
    record {
      told = record { volume = record { streams = k.streams; last = k.last }; sets = refl };
      stands = mounted_fits mode limits (start number mode limits).volume;
      bounds = record { limits = b.limits; streams = b.streams };
      runs = tt;
      ports = starts_at number mode limits;
      present = λ port some. absurd (some (starts_without number mode limits port));
      connected = λ port on. absurd (true≢false (sym on ∙ starts_off number mode limits port));
      works = tt;
    }

whole_step : (w next : WorldState) (e : Event) (report : Report) → IsWhole w → step_of w e ≡ Ok (report, next) → IsWhole next
whole_step w next e report h is = subst IsWhole (ap (world_or w) is) (step_keeps (λ e. IsWhole) w (λ e. h) (whole_kept w h) e)

pub stays_whole : StaysWhole
stays_whole = record { starts = whole_start; steps = whole_step }

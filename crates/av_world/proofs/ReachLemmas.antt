-- From every world that can be reached, what waits can be finished.
use Rattle.std.proofs.Common.{◌*◌, ◌≡◌, ℕ, zero, suc, ◌+◌, ◌≤◌, nat_lt, Bool, true, false, ◌&&◌, find, if◌then◌else◌, List, [], ◌∷◌, ◌++◌, length}
use Rattle.std.proofs.Common.{map, reverse, Some, None, ◌==◌, min, refl, sym, ap, ◌∙◌, subst, arith, eq-eqb, append-nil}
use Rattle.std.proofs.lemmas.Bool.{cond_both, cond-true, cond-false, ne_eqb}
use Rattle.std.specs.List.{AllByRecursion as Each}
use Rattle.av_base.specs.Among.{Among}
use Rattle.av_base.specs.declared.limits.LimitValues.{LimitValues}
use Rattle.av_base.specs.declared.mode.Mode.{Mode}
use Rattle.av_base.specs.declared.port.Port.{Port}
use Rattle.av_base.specs.declared.port.Port.TheVariants.{One, Two}
use Rattle.av_filter.proofs.FitLemmas.{keeps_fit}
use Rattle.av_filter.specs.Fit.{Stands}
use Rattle.av_filter_table.specs.Ports.{least_port, none_open, without_port}
use Rattle.av_history.proofs.SceneLemmas.{heard_desks}
use Rattle.av_filter.proofs.EachLemmas.{each_weaker}
use Rattle.av_filter.proofs.RowLemmas.{row_of}
use Rattle.av_filter.specs.Rows
use Rattle.av_filter.specs.Rows.{OpenRow, Row}
use Rattle.av_filter.specs.Conduct.{FilterEvent, Receives, filter_step, loses_all, restarts}
use Rattle.av_filter_table.specs.declared.pended.Pended.{Pended}
use Rattle.av_filter_table.specs.declared.question.Question.{Question}
use Rattle.av_filter.specs.Opening.{taken}
use Rattle.av_filter.specs.Reaction.{Reaction}
use Rattle.av_filter_table.specs.Answering.{judged, present_generation}
use Rattle.av_filter_table.specs.Table.{Table, asking, raised, on_port, sequence_left}
use Rattle.av_frame.specs.Message.{Letter}
use Rattle.av_service.proofs.LendLemmas.{lends}
use Rattle.av_service.specs.Conduct.{ServiceEvent, Connects, Publishes, connect_refusal, service_step}
use Rattle.av_service.specs.Conduct as service_events
use Rattle.av_service.specs.declared.fault.ConnectFault.TheVariants.{NoSignatures}
use Rattle.av_service.specs.Desk.{Desk}
use Rattle.av_service.specs.Lending.{finished}
use Rattle.av_service.specs.Response.{Response}
use Rattle.av_service.specs.Scanning.{most_leases}
use Rattle.av_service.specs.Sound.{version_after}
use Rattle.av_sigset.specs.Catalogue.{latest}
use Rattle.av_store.specs.Store.{Store}
use Rattle.av_world.proofs.FinishLemmas.{AllSettled, HaveLeases, Idle, all_chunks_same, all_settled, none_waits}
use Rattle.av_world.proofs.LeaveLemmas.{filter_leaves, service_leaves}
use Rattle.av_world.proofs.ProgressLemmas.{Steady, back_onto, connect_step, disconnect_step, onward-append, past_kept, steady, steady_onward}
use Rattle.av_world.proofs.PublishLemmas.{is_new, made_of}
use Rattle.av_history.proofs.StepLemmas.{Preserves, history_keeps}
use Rattle.av_history.specs.Cores.{IsFilterEvent, IsServiceEvent}
use Rattle.av_history.specs.declared.event.Event.{Event}
use Rattle.av_history.specs.declared.event.Event.TheVariants.{Run, Connect, DisconnectService}
use Rattle.av_history.specs.declared.given.Given.{Given}
use Rattle.av_history.specs.Past.{IsVerdictOf, past}
use Rattle.av_world.specs.Progress.{CanFinish, Finishes, GetsVerdict, IsCarrying, IsWaiting, all_chunks, finishing, finishing_of, onward, reconnecting, settling_all}
use Rattle.av_sigset.specs.Publication.{Publication, publication_of}
use Rattle.av_service.specs.Audit.{IsNew}
use Rattle.av_history.specs.World.{WorldState, after, all_told, at_port, back_at, desk_of, done, given_at, member, responded, start, with_set, world_of}

-- ---- before anything was published

-- a filter that isn't connected and has no question
abbrev IsUnused : Reaction → Type 0
IsUnused r = (r.table.connected ≡ none_open) × (r.table.questions ≡ [])

-- what is not a message
abbrev IsNoMessage : FilterEvent → Type 0
IsNoMessage (Receives m) = ⊥
IsNoMessage _ = Unit {0}

-- without a port none is left where one is lost
no_other : (port other : Port) → least_port (without_port port none_open) ≡ Some other → ⊥
no_other One other e = cc (e)
no_other Two other e = cc (e)

none_but : (port : Port) → without_port port none_open ≡ none_open
none_but One = refl
none_but Two = refl

module _ (t : Table) (v : Store) (off : t.connected ≡ none_open) (none : t.questions ≡ []) where
  not_asking : (port : Port) → asking t ≡ Some port → ⊥
  not_asking port e =
      let at : (if nat_lt (length t.questions) t.limits.questions && sequence_left t then least_port none_open else None) ≡ Some port =
      subst (λ c. (if nat_lt (length t.questions) t.limits.questions && sequence_left t then least_port c else None) ≡ Some port) off e in
      cond_both (nat_lt (length t.questions) t.limits.questions && sequence_left t) (least_port none_open) None (λ o. o ≡ Some port → ⊥) (λ b h. cc (h)) (λ b h. cc (h)) at

  not_found : (test : Question → Bool) (q : Question) → find test t.questions ≡ Some q → ⊥
  not_found test q at = let gone : find test [] ≡ Some q = subst (λ qs. find test qs ≡ Some q) none at in cc (gone)

  open_unused : {s least : ℕ} {r : Reaction} → OpenRow t v s least r → IsUnused r
  open_unused (Rows.joins x q at found room) = absurd (not_found _ q found)
  open_unused (Rows.asked x port at alone room e) = absurd (not_asking port e)
  open_unused _ = (off, none)

module _ (t : Table) (v : Store) (off : t.connected ≡ none_open) (none : t.questions ≡ []) where
  row_unused : {f : FilterEvent} {r : Reaction} → Row t v f r → IsNoMessage f → IsUnused r
  unfolding loses_all restarts
  row_unused (Rows.opens s least r row) h = open_unused (raised least t) (taken v) off none row
  row_unused (Rows.outdated c s q is at) h = absurd (not_found t v off none _ q at)
  row_unused (Rows.gone s q at) h = absurd (not_found t v off none _ q at)
  row_unused (Rows.cleaned s x port at is e) h = absurd (not_asking t v off none port e)
  row_unused (Rows.timed_out seq q at) h = absurd (not_found t v off none _ q at)
  row_unused (Rows.moved port other left) h = absurd (no_other port other (ap (λ c. least_port (without_port port c)) (sym off) ∙ left))
  row_unused (Rows.lost port alone) h = (ap (without_port port) off ∙ none_but port, refl)
  row_unused Rows.restarted h = (refl, refl)
  row_unused (Rows.greeted port number version same free up) h = absurd h
  row_unused (Rows.failed port id why q at) h = absurd h
  row_unused (Rows.stale port id version r q at old) h = absurd h
  row_unused (Rows.replied port id version r q at up) h = absurd h
  row_unused _ h = (off, none)

filter_unused : (t : Table) (v : Store) (f : FilterEvent) → IsNoMessage f → t.connected ≡ none_open → t.questions ≡ [] → IsUnused (filter_step t v f)
filter_unused t v f h off none = row_unused t v off none (row_of t v f) h

-- ---- a service that isn't connected sends nothing

abbrev resting : Desk → Desk
resting d = record d { connected = false; jobs = [] }

record IsAtRest (r : Response) : Type 0 where
  off : r.desk.connected ≡ false
  jobs : r.desk.jobs ≡ []
  silent : r.messages ≡ []

step_resting : (d : Desk) (e : ServiceEvent) → (e ≡ Connects → ⊥) → IsAtRest (service_step (resting d) e)
unfolding service_step finished
step_resting d Connects h = absurd (h refl)
step_resting d _ h = record { off = refl; jobs = refl; silent = refl }

service_resting : (d : Desk) (e : ServiceEvent) → (e ≡ Connects → ⊥) → d.connected ≡ false → d.jobs ≡ [] → IsAtRest (service_step d e)
service_resting d e h off none =
    let same : resting d ≡ d = λ i. record d { connected = (sym off) i; jobs = (sym none) i } in
    subst (λ k. IsAtRest (service_step k e)) same (step_resting d e h)

-- ---- what is so in every world

-- nothing was sent up, and no side is connected
record IsUntouched (w : WorldState) : Type 0 where
  pub up : w.up ≡ []
  pub services : (port : Port) → (desk_of w port).connected ≡ false
  pub jobs : (port : Port) → (desk_of w port).jobs ≡ []
  pub filter : w.table.connected ≡ none_open
  pub questions : w.table.questions ≡ []

-- all sides have the world's limits, both services have the latest version, and nothing begins before one is published
record Standing (limits : LimitValues) (w : WorldState) : Type 0 where
  pub fits : Stands w.table w.volume
  pub table : w.table.limits ≡ limits
  pub desk : (port : Port) → (desk_of w port).limits ≡ limits
  pub version : (port : Port) → (desk_of w port).version ≡ latest w.sets
  pub before : latest w.sets ≡ 0 → IsUntouched w

no_message : (w : WorldState) (e : Event) (f : FilterEvent) → IsFilterEvent w e f → w.up ≡ [] → IsNoMessage f
no_message w _ _ (IsFilterEvent.comes_up k m h) none = no_member k m (subst (λ (ms : List Letter). member ms k ≡ Some m) none h)
  where
    no_member : (k : ℕ) (m : Letter) → member [] k ≡ Some m → ⊥
    no_member zero m h = absurd (cc (h))
    no_member (suc k) m h = absurd (cc (h))
no_message w _ _ _ none = tt

version_kept : (w : WorldState) (e : Event) (port : Port) (x : ServiceEvent) → IsServiceEvent w e port x → (desk_of w port).version ≡ latest w.sets → version_after (desk_of w port).version x ≡ latest w.sets
version_kept w _ _ _ (IsServiceEvent.restarts port) h = refl
version_kept w _ _ _ _ h = h

-- without a version there is no connection
no_connection : (w : WorldState) (e : Event) (port : Port) (x : ServiceEvent) → IsServiceEvent w e port x → (desk_of w port).version ≡ 0 → x ≡ Connects → ⊥
no_connection w _ _ _ is = elim is as (λ e p x i. (desk_of w p).version ≡ 0 → x ≡ Connects → ⊥) [
  | IsServiceEvent.connects port ok ↦ λ none same.
      let refused : connect_refusal (desk_of w port) ≡ Some NoSignatures = cond-true ((desk_of w port).version == 0) _ _ (eq-eqb (desk_of w port).version 0 none) in
      let both : Some NoSignatures ≡ None = sym refused ∙ ok in
      absurd (cc (both))
  | IsServiceEvent.comes_down k m at ↦ λ none same. absurd (cc (same))
  | IsServiceEvent.disconnects port ↦ λ none same. absurd (cc (same))
  | IsServiceEvent.restarts port ↦ λ none same. absurd (cc (same))
]

rests : (w : WorldState) (r : Response) (e : Event) (port : Port) → IsUntouched w → IsAtRest r → IsUntouched (responded w e port r)
rests w r e port u h = record {
  up = (λ i. u.up i ++ h.silent i);
  services = heard_desks (λ at d. d.connected ≡ false) w port r h.off u.services;
  jobs = heard_desks (λ at d. d.jobs ≡ []) w port r h.jobs u.jobs;
  filter = u.filter;
  questions = u.questions;
}

-- what a publication leaves each service as
both_told : (P : Desk → Type 0) (w : WorldState) (v : ℕ) → ((d : Desk) → P (service_step d (Publishes v)).desk) → (port : Port) → P (desk_of (all_told w v) port)
both_told P w v told One = told w.one
both_told P w v told Two = told w.two

standing_keeps : (limits : LimitValues) (w : WorldState) → Standing limits w → Preserves (λ e. Standing limits) w
standing_keeps limits w s = record {
  filter = λ e f is ok. record {
    fits = keeps_fit.events w.table w.volume f s.fits ok;
    table = (filter_leaves w.table w.volume f s.fits.coherent.orderly.order).0 ∙ s.table;
    desk = s.desk;
    version = s.version;
    before = λ none.
        let u : IsUntouched w = s.before none in
        let after : IsUnused (filter_step w.table w.volume f) = filter_unused w.table w.volume f (no_message w e f is u.up) u.filter u.questions in
        record { up = u.up; services = u.services; jobs = u.jobs; filter = after.0; questions = after.1 };
  };
  service = λ e port x is.
      let r : Response = service_step (desk_of w port) x in
      record {
        fits = s.fits;
        table = s.table;
        desk = heard_desks (λ at d. d.limits ≡ limits) w port r ((service_leaves (desk_of w port) x).0 ∙ s.desk port) s.desk;
        version = heard_desks (λ at d. d.version ≡ latest w.sets) w port r (lends.version (desk_of w port) x ∙ version_kept w e port x is (s.version port)) s.version;
        before = λ none.
            let u : IsUntouched w = s.before none in
            rests w r e port u (service_resting (desk_of w port) x (no_connection w e port x is (s.version port ∙ none)) (u.services port) (u.jobs port));
      };
  publish = λ v ps set ok. record {
    fits = s.fits;
    table = s.table;
    desk = published_limits w s set.version;
    version = both_told (λ d. d.version ≡ set.version) (with_set w set) set.version (λ d. lends.version d (Publishes set.version));
    before = λ none.
        let new : IsNew (map publication_of w.sets) v ps = is_new w (map publication_of w.sets) v ps set ok refl in
        let version : set.version ≡ v = ap (λ (x : Publication). x.version) (made_of v ps set ok.made) in
        absurd (omega (arith, new.later, version, none));
  };
  work = λ k x at.
      let event : ServiceEvent = done (map publication_of w.sets) x.1 in
      let r : Response = service_step (desk_of w x.0) event in
      record {
        fits = s.fits;
        table = s.table;
        desk = heard_desks (λ at d. d.limits ≡ limits) (back_at w k) x.0 r ((service_leaves (desk_of w x.0) event).0 ∙ s.desk x.0) s.desk;
        version = heard_desks (λ at d. d.version ≡ latest w.sets) (back_at w k) x.0 r (lends.version (desk_of w x.0) event ∙ s.version x.0) s.version;
        before = λ none.
            let u : IsUntouched w = s.before none in
            rests (back_at w k) r (Run k) x.0 (record { up = u.up; services = u.services; jobs = u.jobs; filter = u.filter; questions = u.questions })
            (service_resting (desk_of w x.0) event (λ same. absurd (cc (same))) (u.services x.0) (u.jobs x.0));
      };
}
  where
    published_limits : (w : WorldState) → Standing limits w → (v : ℕ) (port : Port) → (at_port port (service_step w.one (Publishes v)).desk (service_step w.two (Publishes v)).desk).limits ≡ limits
    published_limits w s v One = (service_leaves w.one (Publishes v)).0 ∙ s.desk One
    published_limits w s v Two = (service_leaves w.two (Publishes v)).0 ∙ s.desk Two

standing : (number : ℕ) (mode : Mode) (limits : LimitValues) (es : List Event) → Standing limits (world_of (start number mode limits) es)
standing number mode limits es =
    let w : WorldState = start number mode limits in
    history_keeps (Standing limits) (standing_keeps limits) w
    (record {
      fits = keeps_fit.mounts mode limits w.volume;
      table = refl;
      desk = both (λ port. (desk_of w port).limits ≡ limits) refl refl;
      version = both (λ port. (desk_of w port).version ≡ 0) refl refl;
      before = λ none. record { up = refl; services = both (λ port. (desk_of w port).connected ≡ false) refl refl; jobs = both (λ port. (desk_of w port).jobs ≡ []) refl refl; filter = refl; questions = refl };
    }) es
  where
    both : (P : Port → Type 0) → P One → P Two → (port : Port) → P port
    both P one two One = one
    both P one two Two = two

-- ---- the whole

-- the service of a port connects anew
abbrev cut_off : WorldState → Port → WorldState
cut_off w port = responded w (DisconnectService port) port (service_step (desk_of w port) service_events.Disconnects)

abbrev back_on : WorldState → Port → WorldState
back_on w port = responded (cut_off w port) (Connect port) port (service_step (desk_of (cut_off w port) port) Connects)

one_anew : (w : WorldState) (port : Port) → ((desk_of w port).version ≡ 0 → ⊥) → after (after w (DisconnectService port)) (Connect port) ≡ back_on w port
unfolding service_step
one_anew w port some = ap (λ x. after x (Connect port)) (disconnect_step w port) ∙ connect_step (cut_off w port) port (may w port some)
  where
    may : (w : WorldState) (port : Port) → ((desk_of w port).version ≡ 0 → ⊥) → connect_refusal (desk_of (cut_off w port) port) ≡ None
    may w One some = cond-false (w.one.version == 0) _ _ (ne_eqb w.one.version 0 some)
    may w Two some = cond-false (w.two.version == 0) _ _ (ne_eqb w.two.version 0 some)

-- so do both
abbrev both_back : WorldState → WorldState
both_back w = back_on (back_on w One) Two

reconnected : (w : WorldState) → ((port : Port) → (desk_of w port).version ≡ 0 → ⊥) → onward reconnecting w ≡ both_back w
unfolding onward
reconnected w some = ap (λ x. after (after x (DisconnectService Two)) (Connect Two)) (one_anew w One (some One)) ∙ one_anew (back_on w One) Two (some Two)

module _ (mode : Mode) (limits : LimitValues) (w : WorldState) (steady : Steady mode w) (stands : Standing limits w) (jobs : 1 ≤ limits.jobs) (chunk : 1 ≤ limits.chunk) where
  some_chunk : (port : Port) → 1 ≤ min (desk_of w port).limits.chunk w.table.limits.chunk
  some_chunk port = omega (arith, ap (λ (l : LimitValues). l.chunk) (stands.desk port), ap (λ (l : LimitValues). l.chunk) stands.table, chunk)

  some_room : (port : Port) → 1 ≤ (desk_of w port).limits.jobs
  some_room port = omega (arith, ap (λ (l : LimitValues). l.jobs) (stands.desk port), jobs)

  -- of the events, and the world that they lead to
  record FinishesBy (es : List Event) (x : WorldState) : Type 0 where
    happens : x.history ≡ reverse es ++ w.history
    carries : Each IsCarrying es
    short : length es ≤ 4 + 2 * length w.table.questions + 3 * all_chunks w w.table.questions
    waits : x.table.pended ≡ []
    volume : x.volume ≡ w.volume
    sets : x.sets ≡ w.sets
    answers : List Given
    given : x.answers ≡ w.answers ++ answers
    answered : Each (GetsVerdict w answers) w.table.pended
    count : length answers ≡ length w.table.pended

  by_list : (es : List Event) → finishing w ≡ es → FinishesBy es (onward es w) → Finishes w
  by_list es listed h =
      let f : FinishesBy (finishing w) (onward (finishing w) w) = subst (λ xs. FinishesBy xs (onward xs w)) (sym listed) h in
      record { happens = f.happens; carries = f.carries; short = f.short; waits = f.waits; volume = f.volume; sets = f.sets; answers = f.answers; given = f.given; answered = f.answered; count = f.count }

  module _ (can : CanFinish w) (p : Pended) (ps : List Pended) (pend : w.table.pended ≡ p ∷ ps) (q : Question) (qs : List Question) (are : w.table.questions ≡ q ∷ qs) where
    some_version : (port : Port) → (desk_of w port).version ≡ 0 → ⊥
    some_version port none =
        let u : IsUntouched w = stands.before (sym (stands.version port) ∙ none) in
        let both : [] ≡ q ∷ qs = sym u.questions ∙ are in
        absurd (cc (both))

    abbrev anew : WorldState
    anew = onward reconnecting w

    is : anew ≡ both_back w
    is = reconnected w some_version

    -- what both are then
    anew_on : (port : Port) → (desk_of (both_back w) port).connected ≡ true
    unfolding service_step
    anew_on One = refl
    anew_on Two = refl

    anew_idle : (port : Port) → (desk_of (both_back w) port).jobs ≡ []
    unfolding service_step
    anew_idle One = refl
    anew_idle Two = refl

    anew_version : (port : Port) → (desk_of (both_back w) port).version ≡ (desk_of w port).version
    unfolding service_step
    anew_version One = refl
    anew_version Two = refl

    anew_limits : (port : Port) → (desk_of (both_back w) port).limits ≡ (desk_of w port).limits
    unfolding service_step
    anew_limits One = refl
    anew_limits Two = refl

    anew_lease : (port : Port) → (desk_of (both_back w) port).last_lease ≡ (desk_of w port).last_lease
    unfolding service_step
    anew_lease One = refl
    anew_lease Two = refl

    idle_anew : Idle mode anew
    unfolding service_step
    idle_anew =
        let still : Steady mode anew = steady_onward mode reconnecting w steady in
        subst (Idle mode) (sym is) (record {
          steady = subst (Steady mode) is still;
          version = λ port. anew_version port ∙ stands.version port;
          on = anew_on;
          idle = anew_idle;
          reached = can.reached;
          room = λ port. subst (λ (l : LimitValues). 1 ≤ l.jobs) (sym (anew_limits port)) (some_room port);
          chunk = λ port. subst (λ (l : LimitValues). 1 ≤ min l.chunk w.table.limits.chunk) (sym (anew_limits port)) (some_chunk port);
        })

    same_chunks : (ks : List Question) → all_chunks (both_back w) ks ≡ all_chunks w ks
    unfolding service_step
    same_chunks ks = all_chunks_same w (both_back w) ks refl anew_limits refl

    anew_leases : HaveLeases anew (q ∷ qs)
    anew_leases =
        subst (λ x. HaveLeases x (q ∷ qs)) (sym is)
        (λ port. omega (arith, anew_lease port, same_chunks (on_port port (q ∷ qs)), subst (λ ks. (desk_of w port).last_lease + all_chunks w (on_port port ks) ≤ most_leases) are (can.leases port)))

    anew_questions : anew.table.questions ≡ q ∷ qs
    unfolding service_step
    anew_questions = ap (λ (x : WorldState). x.table.questions) is ∙ are

    anew_chunks : all_chunks anew (q ∷ qs) ≡ all_chunks w (q ∷ qs)
    anew_chunks = ap (λ (x : WorldState). all_chunks x (q ∷ qs)) is ∙ same_chunks (q ∷ qs)

    all : AllSettled anew (onward (settling_all (q ∷ qs) anew) anew) (settling_all (q ∷ qs) anew)
    all = all_settled mode (q ∷ qs) anew idle_anew anew_questions anew_leases

    abbrev events : List Event
    events = reconnecting ++ settling_all (q ∷ qs) anew

    abbrev last : WorldState
    last = onward events w

    there : onward (settling_all (q ∷ qs) anew) anew ≡ last
    there = sym (onward-append reconnecting (settling_all (q ∷ qs) anew) w)

    listed : finishing w ≡ events
    unfolding finishing
    listed = ap (finishing_of w) pend ∙ ap (λ ks. reconnecting ++ settling_all ks anew) are

    same_history : anew.history ≡ reverse reconnecting ++ w.history
    unfolding service_step
    same_history = ap (λ (x : WorldState). x.history) is

    same_past : past anew.history ≡ past w.history
    same_past = ap past same_history ∙ past_kept reconnecting w.history (tt, (tt, (tt, (tt, tt))))

    same_volume : anew.volume ≡ w.volume
    unfolding service_step
    same_volume = ap (λ (x : WorldState). x.volume) is

    same_sets : anew.sets ≡ w.sets
    unfolding service_step
    same_sets = ap (λ (x : WorldState). x.sets) is

    same_pended : anew.table.pended ≡ w.table.pended
    unfolding service_step
    same_pended = ap (λ (x : WorldState). x.table.pended) is

    same_answers : anew.answers ≡ w.answers
    unfolding service_step
    same_answers = ap (λ (x : WorldState). x.answers) is

    gets : (given : List Given) (p : Pended) → GetsVerdict anew given p → GetsVerdict w given p
    gets given p h = record {
      verdict = h.verdict;
      right = subst (λ ss. IsVerdictOf (past w.history) p.held.stream (present_generation w.volume p.held.stream) (latest ss) h.verdict) same_sets
          (subst (λ v. IsVerdictOf (past w.history) p.held.stream (present_generation v p.held.stream) (latest anew.sets) h.verdict) same_volume
          (subst (λ x. IsVerdictOf x p.held.stream (present_generation anew.volume p.held.stream) (latest anew.sets) h.verdict) same_past h.right));
      event = h.event;
      given = subst (λ ss. Among (given_at h.event (judged h.verdict (present_generation w.volume p.held.stream) (latest ss) p.held)) given) same_sets
          (subst (λ v. Among (given_at h.event (judged h.verdict (present_generation v p.held.stream) (latest anew.sets) p.held)) given) same_volume h.given);
    }

    by_events : FinishesBy events last
    by_events =
        subst (FinishesBy events) there (record {
          happens = all.happened ∙ (ap (λ h. reverse (settling_all (q ∷ qs) anew) ++ h) same_history ∙ sym (back_onto reconnecting (settling_all (q ∷ qs) anew) w.history));
          carries = (tt, (tt, (tt, (tt, all.carries))));
          short = omega (arith, all.short, ap length anew_questions, ap (all_chunks anew) anew_questions, anew_chunks, ap length are, ap (all_chunks w) are);
          waits = none_waits _ _ all.runs (steady_onward mode (settling_all (q ∷ qs) anew) anew idle_anew.steady).sound.lawful.fits.coherent.asked;
          volume = all.volume ∙ same_volume;
          sets = all.same_sets ∙ same_sets;
          answers = all.given;
          given = all.answers ∙ ap (λ xs. xs ++ all.given) same_answers;
          answered = each_weaker (GetsVerdict anew all.given) (GetsVerdict w all.given) (gets all.given) w.table.pended (subst (Each (GetsVerdict anew all.given)) same_pended all.answered);
          count = all.count ∙ ap length same_pended;
        })

    finishes_some : Finishes w
    finishes_some = by_list events listed by_events

  finishes_none : w.table.pended ≡ [] → Finishes w
  unfolding finishing onward
  finishes_none pended =
      by_list [] (ap (finishing_of w) pended) (record {
        happens = refl;
        carries = tt;
        short = omega arith;
        waits = pended;
        volume = refl;
        sets = refl;
        answers = [];
        given = sym (append-nil w.answers);
        answered = subst (Each (GetsVerdict w [])) (sym pended) tt;
        count = sym (ap length pended);
      })

  by_questions : CanFinish w → (p : Pended) (ps : List Pended) → w.table.pended ≡ p ∷ ps → (qs : List Question) → w.table.questions ≡ qs → Finishes w
  by_questions can p ps pend [] are = finishes_none (none_waits w.table.questions w.table.pended are steady.sound.lawful.fits.coherent.asked)
  by_questions can p ps pend (q ∷ qs) are = finishes_some can p ps pend q qs are

  by_opens : (IsWaiting w → CanFinish w) → (ps : List Pended) → w.table.pended ≡ ps → Finishes w
  by_opens can [] are = finishes_none are
  by_opens can (p ∷ ps) are = by_questions (can (λ none. let both : [] ≡ p ∷ ps = sym none ∙ are in absurd (cc (both)))) p ps are w.table.questions refl

  finishes : (IsWaiting w → CanFinish w) → Finishes w
  finishes can = by_opens can w.table.pended refl

pub can_always_finish : (number : ℕ) (mode : Mode) (limits : LimitValues) (history : List Event) → 1 ≤ limits.chunk → 1 ≤ limits.jobs → (IsWaiting (world_of (start number mode limits) history) → CanFinish (world_of (start number mode limits) history)) → Finishes (world_of (start number mode limits) history)
can_always_finish number mode limits history chunk jobs can = finishes mode limits (world_of (start number mode limits) history) (steady number mode limits history) (standing number mode limits history) jobs chunk can

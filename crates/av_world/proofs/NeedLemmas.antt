-- While no version is published that the filter may grant under, no message makes it give a verdict.
use Rattle.std.proofs.Common.{length, slice_get, ◌≡◌, ◌≢◌, ℕ, zero, suc, ◌<◌, ◌≤◌, true, false, List, [], ◌∷◌, ◌++◌, map, Option, Some, None, if◌then◌else◌, refl, sym, ap, ◌∙◌, subst, arith, append_assoc, append-nil}
use Rattle.std.proofs.lemmas.Bool.{ltb-false}
use Rattle.std.specs.List.{AllByRecursion as Each}
use Rattle.av_base.specs.declared.cause.Cause.{Cause}
use Rattle.av_base.specs.declared.cause.Cause.TheVariants.{Infected, Unsettled, Busy, ScanFailed}
use Rattle.av_base.specs.declared.limits.LimitValues.{LimitValues}
use Rattle.av_base.specs.declared.mode.Mode.{Mode}
use Rattle.av_base.specs.declared.mode.Mode.TheVariants.{FailClosed, FailOpen}
use Rattle.av_base.specs.declared.port.Port.{Port}
use Rattle.av_filter.proofs.EachLemmas.{each-append, each-map, each_mapped}
use Rattle.av_filter.proofs.RowLemmas.{again_row, row_of}
use Rattle.av_filter.specs.Again.{ends}
use Rattle.av_filter.specs.Rows
use Rattle.av_filter.specs.Rows.{AgainRow, Row}
use Rattle.av_filter_table.specs.Ports.{least_port}
use Rattle.av_filter_table.specs.Asking.{again_cause, asks, ended, is_spent}
use Rattle.av_filter.specs.Conduct.{filter_refusal, filter_step}
use Rattle.av_filter_table.specs.declared.pended.Pended.{Pended}
use Rattle.av_filter_table.specs.declared.question.Question.{Question}
use Rattle.av_filter.specs.Reaction.{Reaction}
use Rattle.av_filter_table.specs.Answering.{present_generation, refused_now}
use Rattle.av_filter_table.specs.Table.{Table}
use Rattle.av_frame.specs.Message.{Letter}
use Rattle.av_frame.specs.declared.message.Body.TheVariants.{Reply}
use Rattle.av_frame.specs.declared.message.Body.{Body}
use Rattle.av_frame.specs.declared.outcome.Outcome.{Outcome}
use Rattle.av_frame.specs.declared.outcome.Outcome.TheVariants.{Judged, Failed}
use Rattle.av_pend.specs.Pend.{refused}
use Rattle.av_pend.specs.Waiting.{Waiting}
use Rattle.av_service.specs.Conduct.{connect_refusal, service_step}
use Rattle.av_service.specs.declared.fault.ConnectFault.{ConnectFault}
use Rattle.av_service.specs.Work.{WorkState}
use Rattle.av_sigset.specs.Catalogue.{latest}
use Rattle.av_store.specs.Store.{Store}
use Rattle.av_history.proofs.FitLemmas.{UpBody, UpFits}
use Rattle.av_world.proofs.ProgressLemmas.{Steady, steady, steady_onward}
use Rattle.av_world.proofs.PublishLemmas.{latest_same}
use Rattle.av_history.proofs.SceneLemmas.{published_before}
use Rattle.av_history.specs.declared.event.Event.{Event}
use Rattle.av_history.specs.declared.event.Event.TheVariants.{Down, Up, Run, Connect, DisconnectService}
use Rattle.av_history.specs.declared.given.Given.{Given}
use Rattle.av_history.specs.Past.{past}
use Rattle.av_world.specs.Progress.{GaveNoVerdict, IsCarrying, IsNoVerdict, onward}
use Rattle.av_sigset.specs.Publication.{latest_as, publication_of}
use Rattle.av_history.specs.World.{WorldState, after, back_at, connected, done, down_frame, given_at, member, reacted, responded, start, step_of, up_frame, work_at, work_event, world_of, world_or, desk_of}
use Rattle.av_filter.specs.Conduct as filter_events
use Rattle.av_service.specs.Conduct as service_events

no_refusal : (mode : Mode) (g : ℕ) (c : Cause) (o : Waiting) → c ≢ Infected → IsNoVerdict (refused mode g c o)
no_refusal FailClosed g c o h = h
no_refusal FailOpen g c o h = tt

-- the floor is not lowered, and no verdict is given
record Withholds (t : Table) (r : Reaction) : Type 0 where
  floor : t.floor ≤ r.table.floor
  answers : Each IsNoVerdict r.answers

unsettled_cause : (p : Pended) → again_cause p ≢ Infected
unsettled_cause p = (elim (is_spent p) as (λ b. (if b then Unsettled else Busy) ≢ Infected) [ true ↦ (λ e. absurd (cc (e))) | false ↦ (λ e. absurd (cc (e))) ])

again_withholds : {o : Option Port} {t : Table} {v : Store} {q : Question} {early : List Letter} {r : Reaction} → AgainRow o t v q early r → Withholds t r
unfolding ends ended asks
again_withholds {o} {t} {v} (Rows.over why) = record {
  floor = omega arith;
  answers = each_mapped IsNoVerdict (λ (p : Pended). refused_now t v (again_cause p) p) (λ p. no_refusal t.mode (present_generation v p.held.stream) (again_cause p) p.held (unsettled_cause p)) _;
}
again_withholds {o} {t} {v} (Rows.anew port to left) = record {
  floor = omega arith;
  answers = each_mapped IsNoVerdict (refused_now t v Unsettled) (λ p. no_refusal t.mode (present_generation v p.held.stream) Unsettled p.held (λ e. absurd (cc (e)))) _;
}

-- a reply of a version below the floor
abbrev IsBelow : Table → Outcome → Type 0
IsBelow t (Judged version r) = version < t.floor
IsBelow t (Failed why) = Unit {0}

abbrev MayHear : Table → Body → Type 0
MayHear t (Reply id outcome) = IsBelow t outcome
MayHear t _ = Unit {0}

row_withholds : {t : Table} {v : Store} {m : Letter} {r : Reaction} → Row t v (filter_events.Receives m) r → MayHear t m.body → Withholds t r
unfolding ended
row_withholds {t} (Rows.greeted port number version same free up) h = record { floor = ltb-false version t.floor up; answers = tt }
row_withholds {t} {v} (Rows.failed port id why q at) h = record {
  floor = omega arith;
  answers = each_mapped IsNoVerdict (refused_now t v ScanFailed) (λ p. no_refusal t.mode (present_generation v p.held.stream) ScanFailed p.held (λ e. absurd (cc (e)))) _;
}
row_withholds {t} {v} (Rows.stale port id version r q at old) h = again_withholds (again_row (least_port t.connected) t v q [])
row_withholds {t} (Rows.replied port id version r q at up) h = let high : t.floor ≤ version = ltb-false version t.floor up in absurd (omega (arith, h, high))
row_withholds _ h = record { floor = omega arith; answers = tt }

-- ---- worlds

abbrev IsAbove : WorldState → Type 0
IsAbove w = latest w.sets < w.table.floor

record Refrains (w x : WorldState) : Type 0 where
  above : IsAbove x
  gave : GaveNoVerdict w x

nothing_given : (w x : WorldState) → IsAbove w → x.sets ≡ w.sets → x.table ≡ w.table → x.answers ≡ w.answers → Refrains w x
nothing_given w x h sets table answers = record {
  above = omega (arith, h, ap latest sets, ap (λ (t : Table). t.floor) table);
  gave = record { answers = []; given = answers ∙ sym (append-nil w.answers); without = tt };
}

module _ (mode : Mode) (w : WorldState) (s : Steady mode w) (h : IsAbove w) where
  -- what was sent up tells no later version
  may_hear : (port : Port) (m : Body) → UpBody (past w.history) w.down port m → MayHear w.table m
  may_hear port (Reply id (Judged version r)) fits =
      let below : version ≤ latest_as (past w.history).sets = published_before (past w.history).sets version fits.right.patterns s.sound.falling fits.right.published in
      omega (arith, below, h, latest_same w.sets, ap latest_as s.sound.sets)
  may_hear port (Reply id (Failed why)) fits = tt
  may_hear port _ fits = tt

  comes_up : (k : ℕ) (m : Letter) → UpFits (past w.history) w.down m → Refrains w (reacted w (Up k) (filter_step w.table w.volume (filter_events.Receives m)))
  comes_up k m fits =
      let x : Reaction = filter_step w.table w.volume (filter_events.Receives m) in
      let r : Withholds w.table x = row_withholds (row_of w.table w.volume (filter_events.Receives m)) (may_hear m.port m.body fits) in
      record {
        above = omega (arith, h, r.floor);
        gave = record {
          answers = map (given_at (suc (length w.history))) x.answers;
          given = refl;
          without = each-map (λ (a : Given). IsNoVerdict a.answer) IsNoVerdict (given_at (suc (length w.history))) (λ a n. n) x.answers r.answers;
        };
      }

  by_up : (k : ℕ) (o : Option Letter) → member w.up k ≡ o → Refrains w (world_or w (up_frame w (Up k) o))
  unfolding filter_refusal
  by_up k None at = nothing_given w w h refl refl refl
  by_up k (Some m) at = comes_up k m (member_each w.up k m s.sound.lawful.up at)
    where
      get_each : (ms : List Letter) (k : ℕ) (m : Letter) → Each (UpFits (past w.history) w.down) ms → slice_get ms k ≡ Some m → UpFits (past w.history) w.down m
      get_each [] k m all at = absurd (cc (at))
      get_each (x ∷ ms) zero m all at = let same : x ≡ m = cc (at) in subst (UpFits (past w.history) w.down) same all.0
      get_each (x ∷ ms) (suc k) m all at = get_each ms k m all.1 at

      member_each : (ms : List Letter) (k : ℕ) (m : Letter) → Each (UpFits (past w.history) w.down) ms → member ms k ≡ Some m → UpFits (past w.history) w.down m
      member_each ms zero m all at = absurd (cc (at))
      member_each ms (suc k) m all at = get_each ms k m all at

  by_down : (k : ℕ) (o : Option Letter) → Refrains w (world_or w (down_frame w (Down k) o))
  by_down k None = nothing_given w w h refl refl refl
  by_down k (Some m) = nothing_given w (responded w (Down k) m.port (service_step (desk_of w m.port) (service_events.Receives m))) h refl refl refl

  by_work : (k : ℕ) (o : Option (Port × WorkState)) → Refrains w (world_or w (work_event w (Run k) k o))
  by_work k None = nothing_given w w h refl refl refl
  by_work k (Some x) = nothing_given w (responded (back_at w k) (Run k) x.0 (service_step (desk_of w x.0) (done (map publication_of w.sets) x.1))) h refl refl refl

  by_connection : (port : Port) (o : Option ConnectFault) → Refrains w (world_or w (connected w (Connect port) port o))
  by_connection port None = nothing_given w (responded w (Connect port) port (service_step (desk_of w port) service_events.Connects)) h refl refl refl
  by_connection port (Some f) = nothing_given w w h refl refl refl

  one_event : (e : Event) → IsCarrying e → Refrains w (after w e)
  unfolding step_of
  one_event (Down k) c = by_down k (member w.down k)
  one_event (Up k) c = by_up k (member w.up k) refl
  one_event (Run k) c = by_work k (work_at w.works k)
  one_event (Connect port) c = by_connection port (connect_refusal (desk_of w port))
  one_event (DisconnectService port) c = nothing_given w (responded w (DisconnectService port) port (service_step (desk_of w port) service_events.Disconnects)) h refl refl refl
  one_event _ c = absurd c

none_given : (mode : Mode) (es : List Event) (w : WorldState) → Steady mode w → IsAbove w → Each IsCarrying es → GaveNoVerdict w (onward es w)
unfolding onward
none_given mode [] w s h all = record { answers = []; given = sym (append-nil w.answers); without = tt }
none_given mode (e ∷ es) w s h all =
    let first : Refrains w (after w e) = one_event mode w s h e all.0 in
    let rest : GaveNoVerdict (after w e) (onward es (after w e)) = none_given mode es (after w e) (steady_onward mode (e ∷ []) w s) first.above all.1 in
    record {
      answers = first.gave.answers ++ rest.answers;
      given = rest.given ∙ (ap (λ xs. xs ++ rest.answers) first.gave.given ∙ append_assoc w.answers first.gave.answers rest.answers);
      without = each-append (λ (a : Given). IsNoVerdict a.answer) first.gave.answers rest.answers first.gave.without rest.without;
    }

pub no_verdict_below : (number : ℕ) (mode : Mode) (limits : LimitValues) (history es : List Event) → latest (world_of (start number mode limits) history).sets < (world_of (start number mode limits) history).table.floor → Each IsCarrying es
    → GaveNoVerdict (world_of (start number mode limits) history) (onward es (world_of (start number mode limits) history))
no_verdict_below number mode limits history es above all = none_given mode es (world_of (start number mode limits) history) (steady number mode limits history) above all

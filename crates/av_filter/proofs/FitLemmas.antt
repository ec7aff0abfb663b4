-- Each event of the filter leaves its table coherent, and keeps its fit with the volume.
use Rattle.std.proofs.Common.{◌≡◌, ◌≢◌, ℕ, ◌+◌, ◌<◌, ◌≤◌, Bool, true, false, not, ◌&&◌, if◌then◌else◌, ◌==◌, max, List, [], ◌∷◌, ◌++◌, find, map}
use Rattle.std.proofs.Common.{filter, Option, Some, None, Result, Ok, Err, refl, sym, ap, ◌∙◌, subst, arith, eqb-true}
use Rattle.std.proofs.lemmas.Bool.{and_right, cond_both, ltb-false, ne_eqb, not-true, true≢false}
use Rattle.std.specs.List.{AllByRecursion as Each}
use Rattle.std.specs.Option.{option_map}
use Rattle.av_base.proofs.KeyLemmas.{same_id-refl, same_id-true}
use Rattle.av_base.specs.MessageId.{same_id}
use Rattle.av_base.specs.declared.limits.LimitValues.{LimitValues}
use Rattle.av_base.specs.declared.message_id.MessageId.{MessageId}
use Rattle.av_base.specs.declared.mode.Mode.{Mode}
use Rattle.av_base.specs.declared.verdict.Verdict.{Verdict}
use Rattle.av_context.specs.Contexts.{set_at}
use Rattle.av_context.specs.declared.context_state.ContextState.{ContextState}
use Rattle.av_context.specs.declared.context_state.ContextState.TheVariants as context
use Rattle.av_filter.proofs.EachLemmas.{each_weaker, each-append, each-filter, each-filter_passed, each-map, find_each, find_passes}
use Rattle.av_filter.proofs.MapLemmas.{at-set, at-set_other, each-set, rises-set}
use Rattle.av_filter.proofs.QuestionLemmas.{apart-filter, apart-push, away_none, away_without, found_more, found_new, found_own, found_without, order-filter, order-push}
use Rattle.av_filter.proofs.RowLemmas.{again_row, again_volume, open_row, row_of}
use Rattle.av_filter.proofs.VolumeLemmas.{Leaves, SameBut, changed_same, left_by, stays_there, there_after}
use Rattle.av_filter.specs.Again.{again, again_at, ends}
use Rattle.av_filter_table.specs.Asking.{again_under, asks, ended, is_lost, lost_contexts, moved, next_question, settled}
use Rattle.av_filter.specs.Changing.{changed_volume, changes}
use Rattle.av_filter.specs.Conduct.{Changes, FilterEvent, again_each, booted, filter_refusal, filter_step, loses_all, moves, restarts}
use Rattle.av_filter.specs.Fit.{Fits, IsAsked, IsPresent, IsThere, KeepsFit, Stands}
use Rattle.av_filter_table.specs.Orderly.{AreApart, AreInOrder, IsGiven, IsScanned, Rises}
use Rattle.av_filter.specs.Opening.{new_open, opened, taken}
use Rattle.av_filter.specs.Rows
use Rattle.av_filter.specs.Rows.{AgainRow, OpenRow, Rewrites, Row, marked, without}
use Rattle.av_filter.specs.Reaction.{Reaction}
use Rattle.av_filter_table.specs.Answering.{stream_generation}
use Rattle.av_filter_table.specs.Table.{Table, context_of, is_modified, mounted, next_id, on_port, other_opens, question_at, question_of, question_on, raised, waits_for, without_question}
use Rattle.av_filter.specs.declared.fault.FilterFault.TheVariants as filter_fault
use Rattle.av_filter_table.specs.declared.pended.Pended.{Pended}
use Rattle.av_frame.specs.Message.{Letter, via}
use Rattle.av_base.specs.declared.port.Port.{Port}
use Rattle.av_filter_table.specs.declared.ports.Ports.{Ports}
use Rattle.av_filter_table.specs.declared.question.Question.{Question}
use Rattle.av_filter_table.specs.Ports.{least_port, with_port, without_port}
use Rattle.av_base.specs.Port.{same_port}
use Rattle.av_frame.specs.declared.message.Body.TheVariants.{Abort}
use Rattle.std.specs.Result.{result_err}
use Rattle.av_store.specs.Files.{Change, Create, Write, Cut, Remove}
use Rattle.av_store.specs.History.{IsOf}
use Rattle.av_store.specs.Rows.{Streams, stream_at}
use Rattle.av_store.specs.Seen.{change_of, kept_or}
use Rattle.av_store.specs.Store.{Store}
use Rattle.av_store.specs.declared.fault.StoreFault.{StoreFault}

abbrev Marks : Type 0
Marks = List (ℕ × ContextState)

-- what coherence and fit say of contexts and questions
record Whole (boot sequence : ℕ) (contexts : Marks) (qs : List Question) (ss : Streams) : Type 0 where
  rises : Rises contexts
  given : Each (IsGiven boot sequence) qs
  order : AreInOrder qs
  apart : AreApart qs
  scanned : Each (IsScanned contexts) qs
  there : Each (λ c. IsThere ss c.0) contexts
  present : Each (IsPresent ss) qs

-- the same with one stream left out
record Away (s boot sequence : ℕ) (contexts : Marks) (qs : List Question) (ss : Streams) : Type 0 where
  rises : Rises contexts
  given : Each (IsGiven boot sequence) qs
  order : AreInOrder qs
  apart : AreApart qs
  scanned : Each (IsScanned contexts) qs
  away : Each (λ q. q.stream ≢ s) qs
  there : Each (λ c. c.0 ≢ s → IsThere ss c.0) contexts
  present : Each (IsPresent ss) qs

whole_of : (t : Table) (v : Store) → Stands t v → Whole t.boot t.sequence t.contexts t.questions v.streams
whole_of t v f = record { rises = f.coherent.orderly.rises; given = f.coherent.orderly.given; order = f.coherent.orderly.order; apart = f.coherent.orderly.apart; scanned = f.coherent.orderly.scanned; there = f.fits.there; present = f.fits.present }

module _ (boot sequence : ℕ) (contexts : Marks) (qs : List Question) (ss : Streams) where
  -- a question leaves, or there was none
  leave : (test : Question → Bool) (q : Question) → find test qs ≡ Some q → Whole boot sequence contexts qs ss → Away q.stream boot sequence contexts (without_question q.id qs) ss
  leave test q at w = record {
    rises = w.rises;
    given = each-filter (IsGiven boot sequence) (λ x. not (same_id x.id q.id)) qs w.given;
    order = order-filter (λ x. not (same_id x.id q.id)) qs w.order;
    apart = apart-filter (λ x. not (same_id x.id q.id)) qs w.apart;
    scanned = each-filter (IsScanned contexts) (λ x. not (same_id x.id q.id)) qs w.scanned;
    away = away_without qs test q w.apart at;
    there = each_weaker (λ (c : ℕ × ContextState). IsThere ss c.0) (λ (c : ℕ × ContextState). c.0 ≢ q.stream → IsThere ss c.0) (λ c h ne. h) contexts w.there;
    present = each-filter (IsPresent ss) (λ x. not (same_id x.id q.id)) qs w.present;
  }

  leave_none : (s : ℕ) → question_of s qs ≡ None → Whole boot sequence contexts qs ss → Away s boot sequence contexts qs ss
  leave_none s none w = record {
    rises = w.rises;
    given = w.given;
    order = w.order;
    apart = w.apart;
    scanned = w.scanned;
    away = away_none qs s none;
    there = each_weaker (λ (c : ℕ × ContextState). IsThere ss c.0) (λ (c : ℕ × ContextState). c.0 ≢ s → IsThere ss c.0) (λ c h ne. h) contexts w.there;
    present = w.present;
  }

  -- streams change, but for the one that is left out
  change_away : (s : ℕ) (ss' : Streams) → Leaves s ss ss' → Away s boot sequence contexts qs ss → Away s boot sequence contexts qs ss'
  change_away s ss' same a = record {
    rises = a.rises;
    given = a.given;
    order = a.order;
    apart = a.apart;
    scanned = a.scanned;
    away = a.away;
    there = each_weaker (λ (c : ℕ × ContextState). c.0 ≢ s → IsThere ss c.0) (λ (c : ℕ × ContextState). c.0 ≢ s → IsThere ss' c.0) (λ c h ne. let k = h ne in (k.0, same c.0 ne ∙ k.1)) contexts a.there;
    present = present_kept qs a.present a.away;
  }
    where
      present_kept : (xs : List Question) → Each (IsPresent ss) xs → Each (λ q. q.stream ≢ s) xs → Each (IsPresent ss') xs
      present_kept [] h ne = tt
      present_kept (q ∷ xs) h ne = ((h.0.0, same q.stream ne.0 ∙ h.0.1, h.0.2), present_kept xs h.1 ne.1)

  still_scanned : (s : ℕ) (c : Option ContextState) (xs : List Question) → Each (λ q. q.stream ≢ s) xs → Each (IsScanned contexts) xs → Each (IsScanned (set_at contexts s c)) xs
  still_scanned s c [] ne h = tt
  still_scanned s c (q ∷ xs) ne h = (at-set_other contexts s q.stream c ne.0 ∙ h.0, still_scanned s c xs ne.1 h.1)

  -- the stream that was left out loses its context, or gets one where it is there
  clear : (s : ℕ) → Away s boot sequence contexts qs ss → Whole boot sequence (set_at contexts s None) qs ss
  clear s a = record {
    rises = rises-set contexts s None a.rises;
    given = a.given;
    order = a.order;
    apart = a.apart;
    scanned = still_scanned s None qs a.away a.scanned;
    there = each-set (λ n. IsThere ss n) contexts s None a.rises (λ some. absurd (cc (some))) a.there;
    present = a.present;
  }

  close : (s : ℕ) (c : ContextState) → IsThere ss s → Away s boot sequence contexts qs ss → Whole boot sequence (set_at contexts s (Some c)) qs ss
  close s c here a = record {
    rises = rises-set contexts s (Some c) a.rises;
    given = a.given;
    order = a.order;
    apart = a.apart;
    scanned = still_scanned s (Some c) qs a.away a.scanned;
    there = each-set (λ n. IsThere ss n) contexts s (Some c) a.rises (λ some. here) a.there;
    present = a.present;
  }

  -- or is asked about
  abbrev next : MessageId
  next = record { boot = boot; seq = sequence + 1 }

  abbrev new_question : Port → ℕ → Question
  new_question port s = record { id = next; port = port; stream = s; generation = stream_generation (stream_at s ss) }

  ask : (port : Port) (s : ℕ) → IsThere ss s → Away s boot sequence contexts qs ss → Whole boot (sequence + 1) (set_at contexts s (Some (context.Scanning next))) (qs ++ new_question port s ∷ []) ss
  ask port s here a =
      let c : Option ContextState = Some (context.Scanning next) in
      record {
        rises = rises-set contexts s c a.rises;
        given =
            each-append (IsGiven boot (sequence + 1)) qs (new_question port s ∷ []) (each_weaker (IsGiven boot sequence) (IsGiven boot (sequence + 1)) (λ q g. record { boot_is = g.boot_is; low = g.low; high = omega (arith, g.high) }) qs a.given)
            (record { boot_is = refl; low = omega arith; high = omega arith }, tt);
        order = order-push boot sequence qs (new_question port s) (omega arith) a.given a.order;
        apart = apart-push qs (new_question port s) a.apart a.away;
        scanned = each-append (IsScanned (set_at contexts s c)) qs (new_question port s ∷ []) (still_scanned s c qs a.away a.scanned) (at-set contexts s c a.rises, tt);
        there = each-set (λ n. IsThere ss n) contexts s c a.rises (λ some. here) a.there;
        present = each-append (IsPresent ss) qs (new_question port s ∷ []) a.present ((here.0, here.1, ap stream_generation here.1), tt);
      }

-- opens that wait for other questions go on to do so
asked_without : (gone : MessageId) (qs : List Question) (ps : List Pended) → Each (IsAsked qs) ps → Each (IsAsked (without_question gone qs)) (other_opens gone ps)
asked_without gone qs ps all =
    each-filter_passed (IsAsked qs) (IsAsked (without_question gone qs)) (λ p. not (waits_for gone p))
    (λ p w h. record { question = h.question; runs = found_without p.question gone h.question qs (not-true (waits_for gone p) w) h.runs; stream = h.stream }) ps all

asked_more : (qs more : List Question) (ps : List Pended) → Each (IsAsked qs) ps → Each (IsAsked (qs ++ more)) ps
asked_more qs more ps all = each_weaker (IsAsked qs) (IsAsked (qs ++ more)) (λ p h. record { question = h.question; runs = found_more p.question h.question qs more h.runs; stream = h.stream }) ps all

abbrev Least : ℕ → Pended → Type 0
Least floor p = p.held.least ≤ floor

abbrev Taken : ℕ → Pended → Type 0
Taken opens p = p.held.open_id ≤ opens

-- a whole that is given, with its opens
fit : (t : Table) (v : Store) → t.boot ≡ v.boot → Whole t.boot t.sequence t.contexts t.questions v.streams → Each (IsAsked t.questions) t.pended → Each (Least t.floor) t.pended → Each (Taken v.opens) t.pended → Stands t v
fit t v boots w asked leasts taken = record {
  coherent = record {
    orderly = record { rises = w.rises; given = w.given; order = w.order; apart = w.apart; scanned = w.scanned };
    asked = asked;
    leasts = leasts;
  };
  fits = record { boots = boots; there = w.there; present = w.present; taken = taken };
}

abbrev pub FitsAfter : Reaction → Type 0
FitsAfter r = Stands r.table r.volume

abbrev pub FitsAt : Store → Reaction → Type 0
FitsAt v r = Stands r.table v

-- a question whose stream is left out ends, or is asked anew, at a volume that has as many opens
module _ (t : Table) (v : Store) (q : Question) (boots : t.boot ≡ v.boot) (a : Away q.stream t.boot t.sequence t.contexts (without_question q.id t.questions) v.streams) (asked : Each (IsAsked t.questions) t.pended) (leasts : Each (Least t.floor) t.pended) (taken : Each (Taken v.opens) t.pended) where
  others_fit : (w : Table) → w.boot ≡ t.boot → w.questions ≡ without_question q.id t.questions → w.pended ≡ other_opens q.id t.pended → w.floor ≡ t.floor → Whole w.boot w.sequence w.contexts w.questions v.streams → Stands w v
  others_fit w same qs ps fl whole =
      fit w v (same ∙ boots) whole
      (subst (λ xs. Each (IsAsked xs) w.pended) (sym qs) (subst (Each (IsAsked (without_question q.id t.questions))) (sym ps) (asked_without q.id t.questions t.pended asked)))
      (subst (λ n. Each (Least n) w.pended) (sym fl) (subst (Each (Least t.floor)) (sym ps) (each-filter (Least t.floor) (λ p. not (waits_for q.id p)) t.pended leasts)))
      (subst (Each (Taken v.opens)) (sym ps) (each-filter (Taken v.opens) (λ p. not (waits_for q.id p)) t.pended taken))

  ended_fits : (c : ContextState) → IsThere v.streams q.stream → Stands (ended t q (Some c)) v
  unfolding ended
  ended_fits c here = others_fit _ refl refl refl refl (close t.boot t.sequence t.contexts (without_question q.id t.questions) v.streams q.stream c here a)

  cleared_fits : Stands (ended t q None) v
  unfolding ended
  cleared_fits = others_fit _ refl refl refl refl (clear t.boot t.sequence t.contexts (without_question q.id t.questions) v.streams q.stream a)

  again_at_fits : {o : Option Port} {early : List Letter} {r : Reaction} → AgainRow o t v q early r → question_at q.id t.questions ≡ Some q → IsThere v.streams q.stream → FitsAt v r
  unfolding ends asks
  again_at_fits (Rows.over why) at here = ended_fits context.Modified here
  again_at_fits (Rows.anew port to left) at here =
      let rest : List Question = without_question q.id t.questions in
      let new : Question = next_question t v port q.stream in
      let scanning : Option ContextState = Some (context.Scanning (next_id t)) in
      let whole : Whole t.boot (t.sequence + 1) (set_at t.contexts q.stream scanning) (rest ++ new ∷ []) v.streams = ask t.boot t.sequence t.contexts rest v.streams port q.stream here a in
      let found : question_at (next_id t) (rest ++ new ∷ []) ≡ Some new = found_new t.boot t.sequence new rest (omega arith) a.given in
      fit _ v boots whole
      (each-map (IsAsked (rest ++ new ∷ [])) (IsAsked t.questions) (moved q.id (next_id t))
      (λ p h. (elim (waits_for q.id p) as (λ b. waits_for q.id p ≡ b → IsAsked (rest ++ new ∷ []) (if b then again_under (next_id t) p else p)) [
        | true ↦ λ w.
            let id : p.question ≡ q.id = same_id-true p.question q.id w in
            let same : Some h.question ≡ Some q = sym h.runs ∙ (ap (λ i. question_at i t.questions) id ∙ at) in
            let is : h.question ≡ q = cc (same) in
            record { question = new; runs = found; stream = ap (λ (x : Question). x.stream) (sym is) ∙ h.stream }
        | false ↦ λ w.
            let kept = found_without p.question q.id h.question t.questions w h.runs in
            record { question = h.question; runs = found_more p.question h.question rest (new ∷ []) kept; stream = h.stream }
      ]) refl) _
      (each-filter (IsAsked t.questions) (λ p. not (is_lost q.id p)) t.pended asked))
      (still (Least t.floor) (λ p le. le) leasts) (still (Taken v.opens) (λ p le. le) taken)
    where
      -- what holds of an open in whatever question holds of those that go on
      still : (P : Pended → Type 0) → ((p : Pended) → P p → P (again_under (next_id t) p)) → Each P t.pended → Each P (map (moved q.id (next_id t)) (filter (λ p. not (is_lost q.id p)) t.pended))
      still P under all =
          each-map P P (moved q.id (next_id t)) (λ p h. cond_both (waits_for q.id p) (again_under (next_id t) p) p P (λ w. under p h) (λ w. h)) _
          (each-filter P (λ p. not (is_lost q.id p)) t.pended all)

  again_fits : (early : List Letter) → question_at q.id t.questions ≡ Some q → IsThere v.streams q.stream → FitsAfter (again t v q early)
  again_fits early at here =
      let row = again_row (least_port t.connected) t v q early in subst (Stands (again t v q early).table) (sym (again_volume row)) (again_at_fits row at here)

-- the stream of a question that runs is there
runs_there : (t : Table) (v : Store) (f : Stands t v) (test : Question → Bool) (q : Question) → find test t.questions ≡ Some q → IsThere v.streams q.stream
runs_there t v f test q at = let h = find_each (IsPresent v.streams) test t.questions q f.fits.present at in (h.0, h.1)

away_of : (t : Table) (v : Store) (f : Stands t v) (test : Question → Bool) (q : Question) → find test t.questions ≡ Some q → Away q.stream t.boot t.sequence t.contexts (without_question q.id t.questions) v.streams
away_of t v f test q at = leave t.boot t.sequence t.contexts t.questions v.streams test q at (whole_of t v f)

-- an open, whose least is not above the floor
module _ (t : Table) (v : Store) (f : Stands t v) (s least : ℕ) (low : least ≤ t.floor) where
  abbrev new : MessageId → Pended
  new id = record { question = id; held = new_open v s least }

  leasts_more : (id : MessageId) → Each (Least t.floor) (t.pended ++ new id ∷ [])
  leasts_more id = each-append (Least t.floor) t.pended (new id ∷ []) f.coherent.leasts (low, tt)

  taken_more : (id : MessageId) → Each (Taken v.opens) (t.pended ++ new id ∷ [])
  taken_more id = each-append (Taken v.opens) t.pended (new id ∷ []) f.fits.taken (omega arith, tt)

  away_new : question_of s t.questions ≡ None → Away s t.boot t.sequence t.contexts t.questions v.streams
  away_new none = leave_none t.boot t.sequence t.contexts t.questions v.streams s none (whole_of t v f)

  open_fits : {r : Reaction} → OpenRow t v s least r → FitsAfter r
  unfolding asks
  open_fits (Rows.joins x q at found room) =
      let test : Question → Bool = λ (q : Question). q.stream == s in
      let same : q.stream ≡ s = eqb-true q.stream s (find_passes test t.questions q found) in
      let asked : IsAsked t.questions (new q.id) = record { question = q; runs = found_own test q t.questions f.coherent.orderly.order found; stream = same } in
      fit _ v f.fits.boots (whole_of t v f) (each-append (IsAsked t.questions) t.pended (new q.id ∷ []) f.coherent.asked (asked, tt)) (leasts_more q.id) (taken_more q.id)
  open_fits (Rows.cached x e at none found) =
      fit _ v f.fits.boots (close t.boot t.sequence t.contexts t.questions v.streams s (context.Judged t.floor e.verdict) (x, at) (away_new none)) f.coherent.asked f.coherent.leasts f.fits.taken
  open_fits (Rows.asked x port at none room e) =
      let q : Question = next_question t v port s in
      let asked : IsAsked (t.questions ++ q ∷ []) (new (next_id t)) = record { question = q; runs = found_new t.boot t.sequence q t.questions (omega arith) f.coherent.orderly.given; stream = refl } in
      fit _ v f.fits.boots (ask t.boot t.sequence t.contexts t.questions v.streams port s (x, at) (away_new none))
      (each-append (IsAsked (t.questions ++ q ∷ [])) t.pended (new (next_id t) ∷ []) (asked_more t.questions (q ∷ []) t.pended f.coherent.asked) (asked, tt))
      (leasts_more (next_id t)) (taken_more (next_id t))
  open_fits _ = f

-- its number is taken, and the floor is raised to its least
begun : (t : Table) (v : Store) → Stands t v → (least : ℕ) → Stands (raised least t) (taken v)
begun t v f least =
    let higher : Each (Least (max t.floor least)) t.pended = each_weaker (Least t.floor) (Least (max t.floor least)) (λ p le. omega arith) t.pended f.coherent.leasts in
    let more : Each (Taken (v.opens + 1)) t.pended = each_weaker (Taken v.opens) (Taken (v.opens + 1)) (λ p le. omega arith) t.pended f.fits.taken in
    fit (raised least t) (taken v) f.fits.boots (whole_of t v f) f.coherent.asked higher more

pub opened_fits : (t : Table) (v : Store) → Stands t v → (s least : ℕ) → FitsAfter (opened t v s least)
unfolding opened
opened_fits t v f s least = open_fits (raised least t) (taken v) (begun t v f least) s least (omega arith) (open_row (raised least t) (taken v) s least _ refl)

-- a change of a stream
pub rewrites_of : (c : Change) (s : ℕ) → Rewrites s c → IsOf c s × (c ≡ Remove s → ⊥)
rewrites_of (Create name) s is = absurd is
rewrites_of (Write u o b) s is = (sym is, λ e. cc (e))
rewrites_of (Cut u n) s is = (sym is, λ e. cc (e))
rewrites_of (Remove u) s is = absurd is

-- a stream that is created keeps the fit, of a table that is not coherent too
created_keeps : (t : Table) (v w : Store) → Fits t v → SameBut v w → (name : List ℕ) → change_of v (Create name) ≡ Ok w → Fits t w
created_keeps t v w f same name ok = record {
  boots = f.boots ∙ sym same.boot;
  there = each_weaker (λ (c : ℕ × ContextState). IsThere v.streams c.0) (λ (c : ℕ × ContextState). IsThere w.streams c.0) (λ c h. (h.0, stays_there v w name c.0 h.0 ok h.1)) t.contexts f.there;
  present = each_weaker (IsPresent v.streams) (IsPresent w.streams) (λ q h. (h.0, stays_there v w name q.stream h.0 ok h.1, h.2)) t.questions f.present;
  taken = subst (λ n. Each (Taken n) t.pended) (sym same.opens) f.taken;
}

module _ (t : Table) (v w : Store) (f : Stands t v) (same : SameBut v w) where
  boots : t.boot ≡ w.boot
  boots = f.fits.boots ∙ sym same.boot

  taken_still : Each (Taken w.opens) t.pended
  taken_still = subst (λ n. Each (Taken n) t.pended) (sym same.opens) f.fits.taken

  away_none_at : (c : Change) (s : ℕ) → IsOf c s → change_of v c ≡ Ok w → question_of s t.questions ≡ None → Away s t.boot t.sequence t.contexts t.questions w.streams
  away_none_at c s of ok none = change_away t.boot t.sequence t.contexts t.questions v.streams s w.streams (left_by v w c s of ok) (leave_none t.boot t.sequence t.contexts t.questions v.streams s none (whole_of t v f))

  away_at : (c : Change) (s : ℕ) → IsOf c s → change_of v c ≡ Ok w → (q : Question) → question_of s t.questions ≡ Some q → (q.stream ≡ s) × Away q.stream t.boot t.sequence t.contexts (without_question q.id t.questions) w.streams
  away_at c s of ok q at =
      let test : Question → Bool = λ (q : Question). q.stream == s in
      let is : q.stream ≡ s = eqb-true q.stream s (find_passes test t.questions q at) in
      (is, change_away t.boot t.sequence t.contexts (without_question q.id t.questions) v.streams q.stream w.streams (left_by v w c q.stream (subst (IsOf c) (sym is) of) ok) (away_of t v f test q at))

  rewritten_fits : (c : Change) (s : ℕ) → Rewrites s c → change_of v c ≡ Ok w → question_of s t.questions ≡ None → Stands (marked t s (Some context.Modified)) w
  rewritten_fits c s is ok none =
      let of = rewrites_of c s is in
      fit _ w boots (close t.boot t.sequence t.contexts t.questions w.streams s context.Modified (there_after v w c s of.0 of.1 ok) (away_none_at c s of.0 ok none)) f.coherent.asked f.coherent.leasts taken_still

  outdated_fits : (c : Change) (s : ℕ) (q : Question) → Rewrites s c → change_of v c ≡ Ok w → question_of s t.questions ≡ Some q → FitsAfter (again t w q (via q.port (Abort q.id) ∷ []))
  outdated_fits c s q is ok at =
      let of = rewrites_of c s is in
      let a = away_at c s of.0 ok q at in
      again_fits t w q boots a.1 f.coherent.asked f.coherent.leasts taken_still _ (found_own (λ (q : Question). q.stream == s) q t.questions f.coherent.orderly.order at)
      (subst (IsThere w.streams) (sym a.0) (there_after v w c s of.0 of.1 ok))

  removed_fits : (s : ℕ) → change_of v (Remove s) ≡ Ok w → question_of s t.questions ≡ None → Stands (marked t s None) w
  removed_fits s ok none = fit _ w boots (clear t.boot t.sequence t.contexts t.questions w.streams s (away_none_at (Remove s) s refl ok none)) f.coherent.asked f.coherent.leasts taken_still

  gone_fits : (s : ℕ) (q : Question) → change_of v (Remove s) ≡ Ok w → question_of s t.questions ≡ Some q → Stands (ended t q None) w
  gone_fits s q ok at = let a = away_at (Remove s) s refl ok q at in cleared_fits t w q boots a.1 f.coherent.asked f.coherent.leasts taken_still

  created_fits : (name : List ℕ) → change_of v (Create name) ≡ Ok w → Stands t w
  created_fits name ok = record { coherent = f.coherent; fits = created_keeps t v w f.fits same name ok }

-- the contexts once the service is lost
lost_rises : (qs : List Question) (contexts : Marks) → Rises contexts → Rises (lost_contexts qs contexts)
unfolding lost_contexts
lost_rises [] contexts r = r
lost_rises (q ∷ qs) contexts r = rises-set (lost_contexts qs contexts) q.stream (Some context.Modified) (lost_rises qs contexts r)

lost_there : (ss : Streams) (qs : List Question) (contexts : Marks) → Rises contexts → Each (IsPresent ss) qs → Each (λ c. IsThere ss c.0) contexts → Each (λ c. IsThere ss c.0) (lost_contexts qs contexts)
unfolding lost_contexts
lost_there ss [] contexts r present there = there
lost_there ss (q ∷ qs) contexts r present there =
    each-set (λ n. IsThere ss n) (lost_contexts qs contexts) q.stream (Some context.Modified) (lost_rises qs contexts r) (λ some. (present.0.0, present.0.1))
    (each_weaker (λ (c : ℕ × ContextState). IsThere ss c.0) (λ (c : ℕ × ContextState). c.0 ≢ q.stream → IsThere ss c.0) (λ c h ne. h) (lost_contexts qs contexts) (lost_there ss qs contexts r present.1 there))

-- a written stream has no question
pub no_question : (contexts : Marks) (qs : List Question) → Each (IsScanned contexts) qs → (s : ℕ) → is_modified (context_of contexts s) ≡ true → question_of s qs ≡ None
no_question contexts qs all s modified = go (question_of s qs) refl
  where
    go : (o : Option Question) → question_of s qs ≡ o → question_of s qs ≡ None
    go None at = at
    go (Some q) at =
        let test : Question → Bool = λ (q : Question). q.stream == s in
        let scanned : context_of contexts q.stream ≡ Some (context.Scanning q.id) = find_each (IsScanned contexts) test qs q all at in
        let same : q.stream ≡ s = eqb-true q.stream s (find_passes test qs q at) in
        let marked : context_of contexts s ≡ Some (context.Scanning q.id) = subst (λ u. context_of contexts u ≡ Some (context.Scanning q.id)) same scanned in
        absurd (true≢false (sym modified ∙ ap is_modified marked))

-- the other events
module _ (t : Table) (v : Store) (f : Stands t v) where
  with_floor : (connected : Ports) (version : ℕ) → t.floor ≤ version → Stands (record t { connected = connected; floor = version }) v
  with_floor connected version up = fit _ v f.fits.boots (whole_of t v f) f.coherent.asked (each_weaker (Least t.floor) (Least version) (λ p le. omega arith) t.pended f.coherent.leasts) f.fits.taken

  with_ports : (connected : Ports) → Stands (record t { connected = connected }) v
  with_ports connected = fit _ v f.fits.boots (whole_of t v f) f.coherent.asked f.coherent.leasts f.fits.taken

  closed_fits : (test : Question → Bool) (q : Question) → find test t.questions ≡ Some q → Stands (ended t q (Some context.Modified)) v
  closed_fits test q at = ended_fits t v q f.fits.boots (away_of t v f test q at) f.coherent.asked f.coherent.leasts f.fits.taken context.Modified (runs_there t v f test q at)

  replied_fits : (port : Port) (id : MessageId) (version : ℕ) (r : Verdict) (q : Question) → question_on port id t.questions ≡ Some q → t.floor ≤ version → Stands (settled t q version r) v
  unfolding ended
  replied_fits port id version r q at up =
      let test : Question → Bool = λ (q : Question). same_id q.id id && same_port q.port port in
      let left : Pended → Bool = λ p. not (waits_for q.id p) in
      let high = each_weaker (Least t.floor) (Least version) (λ p le. omega arith) t.pended f.coherent.leasts in
      fit _ v f.fits.boots (close t.boot t.sequence t.contexts (without_question q.id t.questions) v.streams q.stream (context.Judged version r) (runs_there t v f test q at) (away_of t v f test q at))
      (asked_without q.id t.questions t.pended f.coherent.asked) (each-filter (Least version) left t.pended high) (each-filter (Taken v.opens) left t.pended f.fits.taken)

  loses_fits : FitsAfter (loses_all t v)
  unfolding loses_all
  loses_fits =
      let there = lost_there v.streams t.questions t.contexts f.coherent.orderly.rises f.fits.present f.fits.there in
      fit _ v f.fits.boots (record { rises = lost_rises t.questions t.contexts f.coherent.orderly.rises; given = tt; order = tt; apart = tt; scanned = tt; there = there; present = tt }) tt tt tt

-- a question of this list runs
abbrev pub Runs : Table → Question → Type 0
Runs t q = question_at q.id t.questions ≡ Some q

-- each of a list in order is found by its id
pub all_found : (qs : List Question) → AreInOrder qs → Each (λ q. question_at q.id qs ≡ Some q) qs
all_found [] a = tt
all_found (q ∷ qs) a = (rw (same_id-refl q.id) refl, behind qs a.0 (all_found qs a.1))
  where
    behind : (ks : List Question) → Each (λ k. q.id.seq < k.id.seq) ks → Each (λ k. question_at k.id qs ≡ Some k) ks → Each (λ k. question_at k.id (q ∷ qs) ≡ Some k) ks
    behind [] h g = tt
    behind (k ∷ ks) h g =
        let less : q.id.seq < k.id.seq = h.0 in
        let other : same_id q.id k.id ≡ false = and_right (q.id.boot == k.id.boot) (q.id.seq == k.id.seq) (ne_eqb q.id.seq k.id.seq (λ e. omega arith)) in
        (rw other g.0, behind ks h.1 g.1)

-- a later question still runs when this one was asked again
still_runs : {t : Table} {v : Store} {o : Option Port} {q : Question} {early : List Letter} {r : Reaction} (k : Question) → AgainRow o t v q early r → q.id.seq < k.id.seq
    → Runs t k → Runs r.table k
unfolding ends ended asks
still_runs {t} {v} {o} {q} k row less h =
    let other : same_id k.id q.id ≡ false = and_right (k.id.boot == q.id.boot) (k.id.seq == q.id.seq) (ne_eqb k.id.seq q.id.seq (λ e. omega arith)) in
    let kept : question_at k.id (without_question q.id t.questions) ≡ Some k = found_without k.id q.id k t.questions other h in
    elim row as (λ r i. Runs r.table k) [
      | Rows.anew port to left ↦ found_more k.id k (without_question q.id t.questions) (next_question t v port q.stream ∷ []) kept
      | Rows.over why ↦ kept
    ]

pub all_run : (t : Table) (v : Store) (o : Option Port) (q : Question) (ks : List Question) → Each (λ k. q.id.seq < k.id.seq) ks → Each (Runs t) ks → Each (Runs (again_at o t v q []).table) ks
all_run t v o q [] less h = tt
all_run t v o q (k ∷ ks) less h = (still_runs k (again_row o t v q []) less.0 h.0, all_run t v o q ks less.1 h.1)

pub each_fits : (v : Store) (qs : List Question) (t : Table) → Stands t v → AreInOrder qs → Each (Runs t) qs → Stands (again_each t v qs).table v
unfolding again_each
each_fits v [] t f order runs = f
each_fits v (q ∷ qs) t f order runs =
    let test : Question → Bool = λ (k : Question). same_id k.id q.id in
    let row = again_row (least_port t.connected) t v q [] in
    let next : Stands (again t v q []).table v = again_at_fits t v q f.fits.boots (away_of t v f test q runs.0) f.coherent.asked f.coherent.leasts f.fits.taken row runs.0 (runs_there t v f test q runs.0) in
    each_fits v qs (again t v q []).table next order.1 (all_run t v (least_port t.connected) q qs order.0 runs.1)

moved_fits : (t : Table) (v : Store) → Stands t v → (port : Port) → Stands (again_each t v (on_port port t.questions)).table v
moved_fits t v f port =
    each_fits v (on_port port t.questions) t f (order-filter (λ q. same_port q.port port) t.questions f.coherent.orderly.order)
    (each-filter (Runs t) (λ q. same_port q.port port) t.questions (all_found t.questions f.coherent.orderly.order))

pub mounted_fits : (mode : Mode) (limits : LimitValues) (v : Store) → Stands (mounted mode limits v.boot) v
unfolding Rises
mounted_fits mode limits v = record {
  coherent = record { orderly = record { rises = tt; given = tt; order = tt; apart = tt; scanned = tt }; asked = tt; leasts = tt };
  fits = record { boots = refl; there = tt; present = tt; taken = tt };
}

-- an accepted change leads to the volume after it
pub accepted : (v : Store) (c : Change) → option_map filter_fault.Store (result_err (change_of v c)) ≡ None → change_of v c ≡ Ok (changed_volume v c)
accepted v c = go (change_of v c)
  where
    go : (r : Result Store StoreFault) → option_map filter_fault.Store (result_err r) ≡ None → r ≡ Ok (kept_or v r)
    go (Ok w) h = refl
    go (Err f) h = absurd (cc (h))

pub creation_fits : (t : Table) (v : Store) (name : List ℕ) → Fits t v → filter_refusal t v (Changes (Create name)) ≡ None
    → Fits (filter_step t v (Changes (Create name))).table (filter_step t v (Changes (Create name))).volume
unfolding filter_refusal filter_step changes
creation_fits t v name f ok = created_keeps t v _ f (changed_same v (Create name)) name (accepted v (Create name) ok)

row_fits : (t : Table) (v : Store) → Stands t v → {e : FilterEvent} {r : Reaction} → Row t v e r → filter_refusal t v e ≡ None → FitsAfter r
unfolding filter_refusal asks ended moves restarts
row_fits t v f (Rows.opens s least r row) ok = open_fits (raised least t) (taken v) (begun t v f least) s least (omega arith) row
row_fits t v f (Rows.created name) ok = created_fits t v _ f (changed_same v (Create name)) name (accepted v (Create name) ok)
row_fits t v f (Rows.rewritten c s is at) ok = rewritten_fits t v _ f (changed_same v c) c s is (accepted v c ok) at
row_fits t v f (Rows.outdated c s q is at) ok = outdated_fits t v _ f (changed_same v c) c s q is (accepted v c ok) at
row_fits t v f (Rows.removed s at) ok = removed_fits t v _ f (changed_same v (Remove s)) s (accepted v (Remove s) ok) at
row_fits t v f (Rows.gone s q at) ok = gone_fits t v _ f (changed_same v (Remove s)) s q (accepted v (Remove s) ok) at
row_fits t v f (Rows.cleaned s x port at is e) ok =
    let away = leave_none t.boot t.sequence t.contexts t.questions v.streams s (no_question t.contexts t.questions f.coherent.orderly.scanned s is) (whole_of t v f) in
    fit _ v f.fits.boots (ask t.boot t.sequence t.contexts t.questions v.streams port s (x, at) away) (asked_more t.questions _ t.pended f.coherent.asked) f.coherent.leasts f.fits.taken
row_fits t v f (Rows.greeted port number version same free up) ok = with_floor t v f (with_port port t.connected) version (ltb-false version t.floor up)
row_fits t v f (Rows.updated port version) ok = with_floor t v f t.connected (max t.floor version) (omega arith)
row_fits t v f (Rows.failed port id why q at) ok = closed_fits t v f (λ q. same_id q.id id && same_port q.port port) q at
row_fits t v f (Rows.stale port id version r q at old) ok =
    let test : Question → Bool = λ (q : Question). same_id q.id id && same_port q.port port in
    again_fits t v q f.fits.boots (away_of t v f test q at) f.coherent.asked f.coherent.leasts f.fits.taken _ (found_own test q t.questions f.coherent.orderly.order at) (runs_there t v f test q at)
row_fits t v f (Rows.replied port id version r q at up) ok = replied_fits t v f port id version r q at (ltb-false version t.floor up)
row_fits t v f (Rows.timed_out seq q at) ok = closed_fits t v f (λ q. same_id q.id (record { boot = t.boot; seq = seq })) q at
row_fits t v f (Rows.moved port other left) ok = moved_fits (without t port) v (with_ports t v f (without_port port t.connected)) port
row_fits t v f (Rows.lost port none) ok = loses_fits (without t port) v (with_ports t v f (without_port port t.connected))
row_fits t v f Rows.restarted ok = mounted_fits t.mode t.limits (booted v)
row_fits t v f _ ok = f

pub event_fits : (t : Table) (v : Store) (e : FilterEvent) → Stands t v → filter_refusal t v e ≡ None → Stands (filter_step t v e).table (filter_step t v e).volume
event_fits t v e f ok = row_fits t v f (row_of t v e) ok

pub keeps_fit : KeepsFit
keeps_fit = record { mounts = mounted_fits; events = event_fits }

-- What led a filter of a run, event by event.
use Rattle.std.proofs.Common.{ℕ, ◌≡◌, ◌≢◌, ◌+◌, ◌≤◌, ◌&&◌, not, Bool, true, false, cond, List, [], ◌∷◌, ◌++◌, length, refl, sym, ap, subst, ◌∙◌, append_assoc, append-nil, arith, ne_eqb}
use Rattle.std.specs.Prelude.{Option, Some, None, Result, Ok, Err, OnOk, is_some, if◌then◌else◌}
use Rattle.std.specs.Result.{is_err, is_ok}
use Rattle.std.specs.List.{AllByRecursion as Each}
use Rattle.av_base.proofs.AmongLemmas.{among_each, each_self}
use Rattle.av_base.specs.Among.{Among}
use Rattle.av_base.specs.Port.{same_port}
use Rattle.av_base.specs.declared.port.Port.TheVariants.{One}
use Rattle.av_engines.specs.FilterEnd.{IsAt, WatchesOver}
use Rattle.av_engines.specs.Incoming.{Received}
use Rattle.av_engines.specs.Watching.{Led, Standing, all_happened, due, happened, heard, heard_all, is_done, joined, opens_of, run_from, unled}
use Rattle.av_frame.specs.declared.end.End.{End}
use Rattle.av_frame.specs.declared.end.End.TheVariants.{Done, ReadFault, WriteFault, Frame, Closed, Memory, AuditFull}
use Rattle.av_filter.proofs.BoundLemmas.{leads_to}
use Rattle.av_filter.proofs.EachLemmas.{each_weaker}
use Rattle.av_filter.proofs.MapLemmas.{each-without}
use Rattle.av_filter.specs.Call.{Reacts}
use Rattle.av_filter.specs.Changing.{changed_volume, changes}
use Rattle.av_filter.specs.Conduct.{FilterEvent, Changes, Disconnects, Opens, Receives, filter_refusal, filter_step}
use Rattle.av_filter.specs.Mount.{Mount}
use Rattle.av_filter.specs.Opening.{opened}
use Rattle.av_filter.specs.Storing.{IsStored}
use Rattle.av_filter.specs.declared.out.Out.{Out}
use Rattle.av_filter_table.specs.Ports.{is_open}
use Rattle.av_filter_table.specs.Table.{Table}
use Rattle.av_frame.specs.Message.{Letter}
use Rattle.av_pend.specs.declared.answer.Answer.{Answer}
use Rattle.av_store.specs.Files.{Create, Remove, Write}
use Rattle.av_store.specs.Rows.{stream_at, without}
use Rattle.av_store.specs.Seen.{change_of, kept_or}
use Rattle.av_store.specs.Store.{Store, greatest, with_streams}
use Rattle.av_store.specs.declared.fault.StoreFault.TheVariants.{NoStream}
use Rattle.av_sockets.specs.Run.{Adds, AreAccepted, Leads, LeadsLate, LeadsOn}

-- where events lead, whatever was sent and answered before
abbrev final : Table → Store → List FilterEvent → Mount
final t v [] = record { table = t; volume = v }
final t v (e ∷ es) = final (filter_step t v e).table (filter_step t v e).volume es

final_table : (w : Led) (es : List FilterEvent) → (all_happened w es).table ≡ (final w.table w.volume es).table
final_table w [] = refl
final_table w (e ∷ es) = final_table (happened w e) es

final_volume : (w : Led) (es : List FilterEvent) → (all_happened w es).volume ≡ (final w.table w.volume es).volume
final_volume w [] = refl
final_volume w (e ∷ es) = final_volume (happened w e) es

accepted_then : (t : Table) (v : Store) (es fs : List FilterEvent) → AreAccepted t v es → AreAccepted (final t v es).table (final t v es).volume fs → AreAccepted t v (es ++ fs)
accepted_then t v [] fs first second = second
accepted_then t v (e ∷ es) fs first second = (first.0, accepted_then (filter_step t v e).table (filter_step t v e).volume es fs first.1 second)

happened_then : (w : Led) (es fs : List FilterEvent) → all_happened w (es ++ fs) ≡ all_happened (all_happened w es) fs
happened_then w [] fs = refl
happened_then w (e ∷ es) fs = happened_then (happened w e) es fs

-- what was sent and answered before stays in front of the answers
answers_behind : (t : Table) (v : Store) (sent sent' : List Letter) (front back : List Answer) (es : List FilterEvent)
    → (all_happened (record { table = t; volume = v; sent = sent; answers = front ++ back }) es).answers
    ≡ front ++ (all_happened (record { table = t; volume = v; sent = sent'; answers = back }) es).answers
answers_behind t v sent sent' front back [] = refl
answers_behind t v sent sent' front back (e ∷ es) =
    let r = filter_step t v e in
    ap (λ l. (all_happened (record { table = r.table; volume = r.volume; sent = sent ++ r.messages; answers = l }) es).answers) (append_assoc front back r.answers)
    ∙ answers_behind r.table r.volume (sent ++ r.messages) (sent' ++ r.messages) front (back ++ r.answers) es

-- nothing happened
pub leads_nowhere : (m : Mount) → Leads m m []
leads_nowhere m = record { events = []; accepted = tt; at = record { table = refl; volume = refl; answered = refl } }

-- one event did
pub leads_by : (m m' : Mount) (e : FilterEvent) (out : Out) → filter_refusal m.table m.volume e ≡ None → Reacts out m'.table m'.volume (filter_step m.table m.volume e)
    → Leads m m' out.answers.items
leads_by m m' e out accepted reacts = record {
  events = e ∷ [];
  accepted = (accepted, tt);
  at = record { table = reacts.table; volume = reacts.volume; answered = reacts.answers };
}

-- and then others
pub leads_then : (m mid m' : Mount) (xs ys : List Answer) → Leads m mid xs → Leads mid m' ys → Leads m m' (xs ++ ys)
leads_then m mid m' xs ys first second =
    let t = m.table in
    let v = m.volume in
    let w = all_happened (unled t v []) first.events in
    let table : mid.table ≡ (final t v first.events).table = first.at.table ∙ final_table (unled t v []) first.events in
    let volume : mid.volume ≡ (final t v first.events).volume = first.at.volume ∙ final_volume (unled t v []) first.events in
    let from : unled mid.table mid.volume [] ≡ unled w.table w.volume [] = ap (λ k. unled k mid.volume []) first.at.table ∙ ap (λ k. unled w.table k []) first.at.volume in
    let all = happened_then (unled t v []) first.events second.events in
    record {
      events = first.events ++ second.events;
      accepted = accepted_then t v first.events second.events first.accepted
          (subst (λ k. AreAccepted (final t v first.events).table k second.events) volume (subst (λ k. AreAccepted k mid.volume second.events) table second.accepted));
      at = record {
        table =
            second.at.table
            ∙ ap (λ (x : Led). (all_happened x second.events).table) from
            ∙ final_table (unled w.table w.volume []) second.events
            ∙ sym (final_table w second.events)
            ∙ ap (λ (x : Led). x.table) (sym all);
        volume =
            second.at.volume
            ∙ ap (λ (x : Led). (all_happened x second.events).volume) from
            ∙ final_volume (unled w.table w.volume []) second.events
            ∙ sym (final_volume w second.events)
            ∙ ap (λ (x : Led). x.volume) (sym all);
        answered =
            ap (λ l. xs ++ l) (second.at.answered ∙ ap (λ (x : Led). (all_happened x second.events).answers) from)
            ∙ ap (λ l. l ++ (all_happened (unled w.table w.volume []) second.events).answers) first.at.answered
            ∙ sym (answers_behind w.table w.volume w.sent [] w.answers [] second.events)
            ∙ ap (λ l. (all_happened (record { table = w.table; volume = w.volume; sent = w.sent; answers = l }) second.events).answers) (append-nil w.answers)
            ∙ ap (λ (x : Led). x.answers) (sym all);
      };
    }

-- ---- the engine of a filter

-- one standing led to another by these events, which changed no stream
record HasEvents (s r : Standing) : Type 0 where
  events : List FilterEvent
  accepted : AreAccepted s.led.table s.led.volume events
  led : r.led ≡ all_happened s.led events
  still : r.led.volume.streams ≡ s.led.volume.streams

-- where the opens were not submitted their numbers are left
abbrev IsReady : List ℕ → Standing → Type 0
IsReady opens s = s.submitted ≡ false → s.led.volume.opens + length opens ≤ greatest

opens_accepted : (t : Table) (v : Store) (ss : List ℕ) → v.opens + length ss ≤ greatest → AreAccepted t v (opens_of ss)
unfolding filter_refusal
opens_accepted t v [] left = tt
opens_accepted t v (s ∷ ss) left =
    let r = filter_step t v (Opens s 0) in
    let some : v.opens ≢ greatest = λ e. omega (arith, e, left) in
    let taken : r.volume.opens ≡ v.opens + 1 = ap (λ (w : Store). w.opens) (leads_to t v (Opens s 0)) in
    (rw (ne_eqb v.opens greatest some) refl, opens_accepted r.table r.volume ss (omega (arith, taken, left)))

-- opens that may be submitted
due_by : (b : Bool) (opens : List ℕ) (submitted : Bool) (w : Led) → (b ≡ true → w.volume.opens + length opens ≤ greatest)
    → AreAccepted w.table w.volume (cond b (opens_of opens) [])
due_by true opens submitted w left = opens_accepted w.table w.volume opens (left refl)
due_by false opens submitted w left = tt

-- opens change no stream
opens_still : (w : Led) (ss : List ℕ) → (all_happened w (opens_of ss)).volume.streams ≡ w.volume.streams
opens_still w [] = refl
opens_still w (s ∷ ss) = opens_still (happened w (Opens s 0)) ss ∙ ap (λ (v : Store). v.streams) (leads_to w.table w.volume (Opens s 0))

due_still : (b : Bool) (opens : List ℕ) (w : Led) → (all_happened w (cond b (opens_of opens) [])).volume.streams ≡ w.volume.streams
due_still true opens w = opens_still w opens
due_still false opens w = refl

abbrev joined_as : Bool → Bool → List FilterEvent → Led → Standing
joined_as b submitted es w = cond b (record { led = all_happened w es; submitted = true }) (record { led = w; submitted = submitted })

led_by : (b submitted : Bool) (es : List FilterEvent) (w : Led) → (joined_as b submitted es w).led ≡ all_happened w (cond b es [])
led_by true submitted es w = refl
led_by false submitted es w = refl

unsubmitted : (here submitted : Bool) → (here && not submitted) ≡ true → submitted ≡ false
unsubmitted true true both = sym both
unsubmitted false true both = sym both
unsubmitted here false both = refl

joined_events : (opens : List ℕ) (submitted : Bool) (w : Led) → (submitted ≡ false → w.volume.opens + length opens ≤ greatest)
    → HasEvents (record { led = w; submitted = submitted }) (joined opens submitted w)
joined_events opens submitted w left =
    let b = is_open One w.table.connected && not submitted in
    record {
      events = due opens submitted w.table;
      accepted = due_by b opens submitted w (λ both. left (unsubmitted (is_open One w.table.connected) submitted both));
      led = led_by b submitted (opens_of opens) w;
      still = ap (λ (x : Led). x.volume.streams) (led_by b submitted (opens_of opens) w) ∙ due_still b opens w;
    }

received_stays : (w : Led) (m : Letter) → (happened w (Receives m)).volume ≡ w.volume
received_stays w m = leads_to w.table w.volume (Receives m)

received_accepted : (t : Table) (v : Store) (m : Letter) → filter_refusal t v (Receives m) ≡ None
unfolding filter_refusal
received_accepted t v m = refl

heard_by : (b : Bool) (opens : List ℕ) (s : Standing) (m : Letter) → IsReady opens s
    → HasEvents s (cond b (joined opens s.submitted (happened s.led (Receives m))) s)
heard_by true opens s m ready =
    let w = happened s.led (Receives m) in
    let h = joined_events opens s.submitted w (λ before. subst (λ (v : Store). v.opens + length opens ≤ greatest) (sym (received_stays s.led m)) (ready before)) in
    record { events = Receives m ∷ h.events; accepted = (received_accepted s.led.table s.led.volume m, h.accepted); led = h.led; still = h.still ∙ ap (λ (v : Store). v.streams) (received_stays s.led m) }
heard_by false opens s m ready = record { events = []; accepted = tt; led = refl; still = refl }

heard_events : (opens : List ℕ) (s : Standing) (m : Letter) → IsReady opens s → HasEvents s (heard opens s m)
heard_events opens s m ready = heard_by (same_port m.port One) opens s m ready

ready_by : (here now : Bool) (opens : List ℕ) (s : Standing) (m : Letter) (es : List FilterEvent) → IsReady opens s
    → IsReady opens
    (cond here
    (cond now (record { led = all_happened (happened s.led (Receives m)) es; submitted = true })
    (record { led = happened s.led (Receives m); submitted = s.submitted }))
    s)
ready_by true true opens s m es ready before = absurd cc
ready_by true false opens s m es ready before = subst (λ (v : Store). v.opens + length opens ≤ greatest) (sym (received_stays s.led m)) (ready before)
ready_by false now opens s m es ready before = ready before

heard_ready : (opens : List ℕ) (s : Standing) (m : Letter) → IsReady opens s → IsReady opens (heard opens s m)
heard_ready opens s m ready =
    ready_by (same_port m.port One) (is_open One (happened s.led (Receives m)).table.connected && not s.submitted) opens s m (opens_of opens) ready

events_then : (s r q : Standing) → HasEvents s r → HasEvents r q → HasEvents s q
events_then s r q first second =
    let table : r.led.table ≡ (final s.led.table s.led.volume first.events).table = ap (λ (x : Led). x.table) first.led ∙ final_table s.led first.events in
    let volume : r.led.volume ≡ (final s.led.table s.led.volume first.events).volume = ap (λ (x : Led). x.volume) first.led ∙ final_volume s.led first.events in
    record {
      events = first.events ++ second.events;
      accepted = accepted_then s.led.table s.led.volume first.events second.events first.accepted
          (subst (λ k. AreAccepted (final s.led.table s.led.volume first.events).table k second.events) volume
          (subst (λ k. AreAccepted k r.led.volume second.events) table second.accepted));
      led = second.led ∙ ap (λ x. all_happened x second.events) first.led ∙ sym (happened_then s.led first.events second.events);
      still = second.still ∙ first.still;
    }

events_by : (b : Bool) (s x : Standing) → HasEvents s x → HasEvents s (cond b s x)
events_by true s x h = record { events = []; accepted = tt; led = refl; still = refl }
events_by false s x h = h

all_events : (opens : List ℕ) (first : ℕ) (s : Standing) (ms : List Letter) → IsReady opens s → HasEvents s (heard_all opens first s ms)
all_events opens first s [] ready = record { events = []; accepted = tt; led = refl; still = refl }
all_events opens first s (m ∷ ms) ready =
    events_by (is_done first (length opens) s) s (heard_all opens first (heard opens s m) ms)
    (events_then s (heard opens s m) (heard_all opens first (heard opens s m) ms) (heard_events opens s m ready)
    (all_events opens first (heard opens s m) ms (heard_ready opens s m ready)))

joined_ready_by : (now : Bool) (opens : List ℕ) (w : Led) (es : List FilterEvent) → w.volume.opens + length opens ≤ greatest
    → IsReady opens (cond now (record { led = all_happened w es; submitted = true }) (record { led = w; submitted = false }))
joined_ready_by true opens w es left before = absurd cc
joined_ready_by false opens w es left before = left

-- an engine whose opens are submitted at once
run_events : (t : Table) (v : Store) (opens : List ℕ) (ms : List Letter) → v.opens + length opens ≤ greatest
    → HasEvents (record { led = unled t v []; submitted = false }) (run_from true t v opens ms)
run_events t v opens ms left =
    let w = unled t v [] in
    let s = joined opens false w in
    events_then (record { led = w; submitted = false }) s (run_from true t v opens ms) (joined_events opens false w (λ before. left))
    (all_events opens v.opens s ms (joined_ready_by (is_open One t.connected && true) opens w (opens_of opens) left))

-- opens were submitted and messages came, which led there, and no stream was changed
pub record LeadsStill (m m' : Mount) (answers : List Answer) : Type 0 where
  pub leads : Leads m m' answers
  pub still : m'.volume.streams ≡ m.volume.streams

-- where it ended
left_there : (t : Table) (v : Store) (m' : Mount) (opens : List ℕ) (ms : List Letter) (answers : List Answer) → v.opens + length opens ≤ greatest
    → IsAt (run_from true t v opens ms).led m'.table m'.volume answers → LeadsStill (record { table = t; volume = v }) m' answers
left_there t v m' opens ms answers left at =
    let h = run_events t v opens ms left in
    record {
      leads = record {
        events = h.events;
        accepted = h.accepted;
        at = record {
          table = at.table ∙ ap (λ (x : Led). x.table) h.led;
          volume = at.volume ∙ ap (λ (x : Led). x.volume) h.led;
          answered = at.answered ∙ ap (λ (x : Led). x.answers) h.led;
        };
      };
      still = ap (λ (w : Store). w.streams) at.volume ∙ h.still;
    }

disconnected_accepted : (t : Table) (v : Store) → filter_refusal t v (Disconnects One) ≡ None
unfolding filter_refusal
disconnected_accepted t v = refl

left_behind : (t : Table) (v : Store) (m' : Mount) (opens : List ℕ) (ms : List Letter) (answers : List Answer) → v.opens + length opens ≤ greatest
    → IsAt (happened (run_from true t v opens ms).led (Disconnects One)) m'.table m'.volume answers → LeadsStill (record { table = t; volume = v }) m' answers
left_behind t v m' opens ms answers left at =
    let h = run_events t v opens ms left in
    let w = (run_from true t v opens ms).led in
    let all : happened w (Disconnects One) ≡ all_happened (unled t v []) (h.events ++ Disconnects One ∷ []) =
    ap (λ x. happened x (Disconnects One)) h.led ∙ sym (happened_then (unled t v []) h.events (Disconnects One ∷ [])) in
    record {
      leads = record {
        events = h.events ++ Disconnects One ∷ [];
        accepted = accepted_then t v h.events (Disconnects One ∷ []) h.accepted (disconnected_accepted _ _, tt);
        at = record {
          table = at.table ∙ ap (λ (x : Led). x.table) all;
          volume = at.volume ∙ ap (λ (x : Led). x.volume) all;
          answered = at.answered ∙ ap (λ (x : Led). x.answers) all;
        };
      };
      still = ap (λ (u : Store). u.streams) (at.volume ∙ leads_to w.table w.volume (Disconnects One)) ∙ h.still;
    }

-- an engine that memory did not end
pub watched_leads : (opens : List ℕ) (m m' : Mount) (answers : List Answer) (from now : Received) (a b w u : Option (List ℕ)) (end : End)
    → m.volume.opens + length opens ≤ greatest → end ≢ Memory → WatchesOver true opens m.table m.volume m'.table m'.volume answers from now a b w u end → LeadsStill m m' answers
watched_leads opens m m' answers from now a b w u Done left there h = left_there m.table m.volume m' opens h.messages answers left h.left.1
watched_leads opens m m' answers from now a b w u ReadFault left there h = left_behind m.table m.volume m' opens h.messages answers left h.left.1
watched_leads opens m m' answers from now a b w u WriteFault left there h = left_behind m.table m.volume m' opens h.messages answers left h.left
watched_leads opens m m' answers from now a b w u Frame left there h = left_behind m.table m.volume m' opens h.messages answers left h.left.1
watched_leads opens m m' answers from now a b w u Closed left there h = left_behind m.table m.volume m' opens h.messages answers left h.left.1
watched_leads opens m m' answers from now a b w u Memory left there h = absurd (there refl)
watched_leads opens m m' answers from now a b w u AuditFull left there h = absurd h.spelled

-- ---- answers that are kept

pub kept_none : (m : Mount) (kept : List Answer) → LeadsOn m kept m kept
kept_none m kept = record { given = []; leads = leads_nowhere m; behind = sym (append-nil kept); still = refl }

pub kept_then : (m mid m' : Mount) (xs ys zs given : List Answer) → LeadsOn m xs mid ys → Leads mid m' given → m'.volume.streams ≡ mid.volume.streams → zs ≡ ys ++ given → LeadsOn m xs m' zs
kept_then m mid m' xs ys zs given first second still is = record {
  given = first.given ++ given;
  leads = leads_then m mid m' first.given given first.leads second;
  behind = is ∙ ap (λ l. l ++ given) first.behind ∙ append_assoc xs first.given given;
  still = still ∙ first.still;
}

pub kept_more : (m mid m' : Mount) (xs ys zs : List Answer) → LeadsOn m xs mid ys → LeadsOn mid ys m' zs → LeadsOn m xs m' zs
kept_more m mid m' xs ys zs first second = kept_then m mid m' xs ys zs second.given first second.leads second.still second.behind

pub kept_all : (m m' : Mount) (xs zs : List Answer) → xs ≡ [] → LeadsOn m xs m' zs → Leads m m' zs
kept_all m m' xs zs none on = subst (Leads m m') (sym (on.behind ∙ ap (λ l. l ++ on.given) none)) on.leads

pub late_then : (m mid m' : Mount) → LeadsLate m mid → LeadsLate mid m' → LeadsLate m m'
late_then m mid m' first second = record {
  late = first.late ++ second.late;
  leads = leads_then m mid m' first.late second.late first.leads second.leads;
  fewer = each_weaker (λ s. Among s mid.volume.streams) (λ s. Among s m.volume.streams)
      (λ s there. among_each (λ x. Among x m.volume.streams) mid.volume.streams s first.fewer there) m'.volume.streams second.fewer;
}

pub late_none : (m : Mount) → LeadsLate m m
late_none m = record { late = []; leads = leads_nowhere m; fewer = each_self m.volume.streams }

-- items that were added where there was memory
pub ok_items : {A E X : Type 0} (r : Result A E) (xs ys zs : List X) → zs ≡ (if is_ok r then ys else xs) → OnOk r (zs ≡ ys)
ok_items (Ok a) xs ys zs e = e
ok_items (Err x) xs ys zs e = tt

pub sure_items : {A E X : Type 0} (r : Result A E) (xs ys zs : List X) → is_err r ≡ false → zs ≡ (if is_ok r then ys else xs) → zs ≡ ys
sure_items (Ok a) xs ys zs sure e = e
sure_items (Err x) xs ys zs sure e = absurd (no_error sure)
  where
    no_error : true ≡ false → ⊥
    no_error same = cc

pub not_memory : (e : End) → e ≡ Done → e ≢ Memory
not_memory e done same = apart (sym done ∙ same)
  where
    apart : Done ≡ Memory → ⊥
    apart same = cc

-- a stream was opened
pub open_kept : (m m' : Mount) (s least : ℕ) (out : Out) (kept keeps : List Answer)
    → filter_refusal m.table m.volume (Opens s least) ≡ None → Reacts out m'.table m'.volume (opened m.table m.volume s least) → keeps ≡ kept ++ out.answers.items → LeadsOn m kept m' keeps
unfolding filter_step
open_kept m m' s least out kept keeps accepted reacts is = record {
  given = out.answers.items;
  leads = leads_by m m' (Opens s least) out accepted reacts;
  behind = is;
  still = ap (λ (w : Store). w.streams) (reacts.volume ∙ leads_to m.table m.volume (Opens s least));
}

-- a removal leaves streams that were there
removed_fewer : (v : Store) (s : ℕ) → Each (λ x. Among x v.streams) (changed_volume v (Remove s)).streams
unfolding change_of
removed_fewer v s =
    elim (is_some (stream_at s v.streams)) as (λ b. Each (λ x. Among x v.streams) (kept_or v (with_streams v (cond b (Ok (without s v.streams)) (Err NoStream)))).streams) [
      | true ↦ each-without (λ x. Among x v.streams) v.streams s (each_self v.streams)
      | false ↦ each_self v.streams
    ]

-- or taken away
pub removed_late : (m m' : Mount) (s : ℕ) (out : Out)
    → filter_refusal m.table m.volume (Changes (Remove s)) ≡ None → Reacts out m'.table m'.volume (changes m.table m.volume (Remove s)) → LeadsLate m m'
unfolding filter_step
removed_late m m' s out accepted reacts = record {
  late = out.answers.items;
  leads = leads_by m m' (Changes (Remove s)) out accepted reacts;
  fewer = subst (λ (w : Store). Each (λ x. Among x m.volume.streams) w.streams) (sym (reacts.volume ∙ leads_to m.table m.volume (Changes (Remove s)))) (removed_fewer m.volume s);
}

-- a content became a stream, which was created and written once
pub stored_adds : (m m' : Mount) (name c : List ℕ) → IsStored m.table m.volume name c m'.table m'.volume → Adds m m' name c
unfolding filter_step changes
stored_adds m m' name c is = record {
  leads = record {
    events = Changes (Create name) ∷ Changes (Write (m.volume.last + 1) 0 c) ∷ [];
    accepted = (is.creates, (is.writes, tt));
    at = record { table = is.table; volume = is.volume; answered = sym is.answers };
  };
  number = m.volume.last + 1;
  added = is.streams;
}

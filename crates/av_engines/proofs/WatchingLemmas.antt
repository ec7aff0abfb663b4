-- The engine of a filter, event by event.
use Rattle.std.proofs.Common.{ℕ, ◌≡◌, ◌+◌, ◌&&◌, not, Bool, true, false, cond, nat_eq, List, [], ◌∷◌, ◌++◌, length, take, drop, refl, sym, ap, subst, ◌∙◌, append_assoc, append-nil, take-append-drop, arith, inl, inr}
use Rattle.std.specs.Prelude.{Option, Some, None, IfSome, ◌⊎◌, Result, Ok, Err, OnErr, OnOk}
use Rattle.std.specs.Io.KnownBytes.{Appends}
use Rattle.std.specs.List.{flat_map}
use Rattle.std.proofs.KnownBytes.{Appends-nil, Appends-trans}
use Rattle.std.proofs.lemmas.Grind.{flat_map-append}
use Rattle.std.proofs.lemmas.List.{map-append}
use Rattle.av_base.proofs.DeviceLemmas.{prefix_after}
use Rattle.av_base.specs.Port.{same_port}
use Rattle.av_base.specs.declared.port.Port.TheVariants.{One}
use Rattle.av_base.specs.Device.{AppendsPrefix}
use Rattle.av_filter.specs.Call.{Reacts}
use Rattle.av_filter.specs.Conduct.{FilterEvent, Disconnects, Opens, Receives, filter_step}
use Rattle.av_filter.specs.declared.out.Out.{Out}
use Rattle.av_filter_table.specs.Ports.{is_open}
use Rattle.av_filter_table.specs.Table.{Table}
use Rattle.av_frame.specs.Laws.{FaultStays}
use Rattle.av_frame.specs.Message.{Letter}
use Rattle.av_frame.specs.Spelling.{frame}
use Rattle.av_pend.specs.declared.answer.Answer.{Answer}
use Rattle.av_store.specs.Store.{Store}
use Rattle.av_frame.specs.declared.end.End.{End}
use Rattle.av_frame.specs.declared.end.End.TheVariants.{Done, ReadFault, WriteFault, Frame, Closed, Memory, AuditFull}
use Rattle.av_engines.specs.declared.exchange.Exchange.{Exchange}
use Rattle.av_engines.specs.Exchange.{Passes, StopsAs}
use Rattle.av_engines.specs.FilterEnd.{GoesOn, Hears, IsAmid, IsAt, IsLeft, IsStill, IsWithin, Leaves, Puts, RunsOver, WatchesOver, WatchesTo, input_of}
use Rattle.av_engines.specs.Incoming.{Received, Takes, nothing_yet}
use Rattle.av_engines.specs.Spelled.{AreSpelled, IsSent, SpellsAll, SpellsFirst, SpellsUpToFault}
use Rattle.av_engines.specs.Watching.{Led, Standing, all_happened, begun, due, events_of, filter_run, filter_text, happened, heard, heard_all, is_done, joined, later, opens_of, run_from, standing, text_from, unled}
use Rattle.av_engines.proofs.IncomingLemmas.{takes_none, takes_then, takes_within}
use Rattle.av_engines.proofs.ExchangeLemmas.{first_taken, from_start, prefix_whole, stopped_sent, stopped_taken}

-- events after others
happened_then : (w : Led) (es fs : List FilterEvent) → all_happened w (es ++ fs) ≡ all_happened (all_happened w es) fs
happened_then w [] fs = refl
happened_then w (e ∷ es) fs = happened_then (happened w e) es fs

-- what was sent and answered before events stays in front
abbrev pub behind : Led → Led → Led
behind w x = record { table = x.table; volume = x.volume; sent = w.sent ++ x.sent; answers = x.answers }

abbrev pub restarted : Led → Led
restarted w = unled w.table w.volume w.answers

happened_behind : (t : Table) (v : Store) (front back : List Letter) (answers : List Answer) (es : List FilterEvent)
    → all_happened (record { table = t; volume = v; sent = front ++ back; answers = answers }) es
    ≡ record {
      table = (all_happened (record { table = t; volume = v; sent = back; answers = answers }) es).table;
      volume = (all_happened (record { table = t; volume = v; sent = back; answers = answers }) es).volume;
      sent = front ++ (all_happened (record { table = t; volume = v; sent = back; answers = answers }) es).sent;
      answers = (all_happened (record { table = t; volume = v; sent = back; answers = answers }) es).answers;
    }
happened_behind t v front back answers [] = refl
happened_behind t v front back answers (e ∷ es) =
    let r = filter_step t v e in
    ap (λ l. all_happened (record { table = r.table; volume = r.volume; sent = l; answers = answers ++ r.answers }) es) (append_assoc front back r.messages)
    ∙ happened_behind r.table r.volume front (back ++ r.messages) (answers ++ r.answers) es

pub happened_from : (w : Led) (es : List FilterEvent) → all_happened w es ≡ behind w (all_happened (restarted w) es)
happened_from w es =
    ap (λ l. all_happened (record { table = w.table; volume = w.volume; sent = l; answers = w.answers }) es) (sym (append-nil w.sent))
    ∙ happened_behind w.table w.volume w.sent [] w.answers es

-- what a call finds is where events led
found : (w : Led) (t : Table) (v : Store) (answers : List Answer) → IsAt w t v answers → unled t v answers ≡ restarted w
found w t v answers at =
    ap (λ k. unled k v answers) at.table ∙ ap (λ k. unled w.table k answers) at.volume ∙ ap (λ k. unled w.table w.volume k) at.answered

pub at_then : (w : Led) (t t' : Table) (v v' : Store) (answers answers' : List Answer) (fs : List FilterEvent)
    → IsAt w t v answers → IsAt (all_happened (unled t v answers) fs) t' v' answers' → IsAt (all_happened w fs) t' v' answers'
at_then w t t' v v' answers answers' fs first second =
    let same : all_happened w fs ≡ behind w (all_happened (unled t v answers) fs) =
    happened_from w fs ∙ ap (λ x. behind w (all_happened x fs)) (sym (found w t v answers first)) in
    record {
      table = second.table ∙ ap (λ (x : Led). x.table) (sym same);
      volume = second.volume ∙ ap (λ (x : Led). x.volume) (sym same);
      answered = second.answered ∙ ap (λ (x : Led). x.answers) (sym same);
    }

pub amid_then : (w : Led) (es fs : List FilterEvent) (t t' : Table) (v v' : Store) (answers answers' : List Answer)
    → IsAt (all_happened w es) t v answers → IsAmid (unled t v answers) fs t' v' answers' → IsAmid w (es ++ fs) t' v' answers'
amid_then w es fs t t' v v' answers answers' first second = record {
  events = es ++ second.events;
  rest = second.rest;
  first = append_assoc es second.events second.rest ∙ ap (λ l. es ++ l) second.first;
  at = subst (λ x. IsAt x t' v' answers') (sym (happened_then w es second.events)) (at_then (all_happened w es) t t' v v' answers answers' second.events first second.at);
}

-- the first of some events are the first of more
pub amid_more : (w : Led) (es fs all : List FilterEvent) (t : Table) (v : Store) (answers : List Answer) → es ++ fs ≡ all → IsAmid w es t v answers → IsAmid w all t v answers
amid_more w es fs all t v answers more amid = record {
  events = amid.events;
  rest = amid.rest ++ fs;
  first = sym (append_assoc amid.events amid.rest fs) ∙ ap (λ l. l ++ fs) amid.first ∙ more;
  at = amid.at;
}

pub puts_then : (w : Led) (t t' : Table) (v v' : Store) (answers answers' : List Answer) (waited waits more : List ℕ) (fs : List FilterEvent)
    → Puts w t v answers waited waits → Puts (all_happened (unled t v answers) fs) t' v' answers' waits more → Puts (all_happened w fs) t' v' answers' waited more
puts_then w t t' v v' answers answers' waited waits more fs first second =
    let x = all_happened (unled t v answers) fs in
    let same : all_happened w fs ≡ behind w x =
    happened_from w fs ∙ ap (λ k. behind w (all_happened k fs)) (sym (found w t v answers first.at)) in
    record {
      at = at_then w t t' v v' answers answers' fs first.at second.at;
      sent =
          second.sent
          ∙ ap (λ l. l ++ flat_map frame x.sent) first.sent
          ∙ append_assoc waited (flat_map frame w.sent) (flat_map frame x.sent)
          ∙ ap (λ l. waited ++ l) (sym (flat_map-append frame w.sent x.sent))
          ∙ ap (λ (k : Led). waited ++ flat_map frame k.sent) (sym same);
    }

-- one open more was submitted
pub submitted_more : (w : Led) (t t' : Table) (v v' : Store) (answers answers' : List Answer) (waited waits more : List ℕ) (ss ts : List ℕ) (s : ℕ)
    → ts ≡ ss ++ s ∷ [] → Puts (all_happened w (opens_of ss)) t v answers waited waits → Puts (all_happened (unled t v answers) (Opens s 0 ∷ [])) t' v' answers' waits more
    → Puts (all_happened w (opens_of ts)) t' v' answers' waited more
submitted_more w t t' v v' answers answers' waited waits more ss ts s is first second =
    let events : opens_of ts ≡ opens_of ss ++ Opens s 0 ∷ [] = ap opens_of is ∙ map-append (λ n. Opens n 0) ss (s ∷ []) in
    let same : all_happened w (opens_of ts) ≡ all_happened (all_happened w (opens_of ss)) (Opens s 0 ∷ []) = ap (all_happened w) events ∙ happened_then w (opens_of ss) (Opens s 0 ∷ []) in
    subst (λ x. Puts x t' v' answers' waited more) (sym same) (puts_then _ t t' v v' answers answers' waited waits more (Opens s 0 ∷ []) first second)

-- memory was refused to an open, or to its frames
pub amid_opens : (w : Led) (t t' : Table) (v v' : Store) (answers answers' : List Answer) (all : List ℕ) (i s : ℕ) → take (i + 1) all ≡ take i all ++ s ∷ []
    → IsAt (all_happened w (opens_of (take i all))) t v answers → IsAmid (unled t v answers) (Opens s 0 ∷ []) t' v' answers' → IsAmid w (opens_of all) t' v' answers'
amid_opens w t t' v v' answers answers' all i s is first second =
    let front : opens_of (take i all) ++ Opens s 0 ∷ [] ≡ opens_of (take (i + 1) all) = sym (ap opens_of is ∙ map-append (λ n. Opens n 0) (take i all) (s ∷ [])) in
    let whole : opens_of (take (i + 1) all) ++ opens_of (drop (i + 1) all) ≡ opens_of all =
    sym (map-append (λ n. Opens n 0) (take (i + 1) all) (drop (i + 1) all)) ∙ ap opens_of (take-append-drop (i + 1) all) in
    amid_more w _ (opens_of (drop (i + 1) all)) (opens_of all) t' v' answers' (ap (λ l. l ++ opens_of (drop (i + 1) all)) front ∙ whole) (amid_then w (opens_of (take i all)) (Opens s 0 ∷ []) t t' v v' answers answers' first second)

-- what holds may be asked of an error
pub on_err : {A E : Type 0} (P : Type 0) (r : Result A E) → P → OnErr r P
on_err P (Ok a) p = tt
on_err P (Err e) p = p

pub ok_then : {A E P Q : Type 0} (r : Result A E) → (P → Q) → OnOk r P → OnOk r Q
ok_then (Ok a) f p = f p
ok_then (Err e) f p = p

pub err_then : {A E P Q : Type 0} (r : Result A E) → (P → Q) → OnErr r P → OnErr r Q
err_then (Ok a) f p = p
err_then (Err e) f p = f p

-- one event happened, and its answers were kept
pub amid_event : (e : FilterEvent) (out : Out) (t t' : Table) (v v' : Store) (answers mid given : List Answer)
    → Reacts out t' v' (filter_step t v e) → mid ≡ answers → given ≡ mid ++ out.answers.items → IsAmid (unled t v answers) (e ∷ []) t' v' given
amid_event e out t t' v v' answers mid given reacts same kept = record {
  events = e ∷ [];
  rest = [];
  first = refl;
  at = record {
    table = reacts.table;
    volume = reacts.volume;
    answered = kept ∙ ap (λ l. l ++ out.answers.items) same ∙ ap (λ l. answers ++ l) reacts.answers;
  };
}

-- what a message of this port brings
abbrev brought : List ℕ → Standing → Letter → List FilterEvent
brought opens s m = Receives m ∷ due opens s.submitted (happened s.led (Receives m)).table

brings : (opens : List ℕ) (s : Standing) (m : Letter) → same_port m.port One ≡ true → events_of opens s m ≡ brought opens s m
brings opens s m here = ap (λ b. cond b (brought opens s m) []) here

-- and where it leads
hears_here : (opens : List ℕ) (s : Standing) (m : Letter) → same_port m.port One ≡ true → heard opens s m ≡ joined opens s.submitted (happened s.led (Receives m))
hears_here opens s m here = ap (λ b. cond b (joined opens s.submitted (happened s.led (Receives m))) s) here

-- one of the other port leads nowhere
pub hears_other : (opens : List ℕ) (m : Letter) (t : Table) (v : Store) (answers : List Answer) (submitted : Bool) (waits : List ℕ) → same_port m.port One ≡ false
    → Hears (heard opens (standing t v answers submitted) m) t v answers submitted waits waits
hears_other opens m t v answers submitted waits other =
    let s = standing t v answers submitted in
    subst (λ k. Hears k t v answers submitted waits waits) (sym (ap (λ b. cond b (joined opens s.submitted (happened s.led (Receives m))) s) other))
    (record { puts = record { at = record { table = refl; volume = refl; answered = refl }; sent = sym (append-nil waits) }; submitted_is = refl })

-- memory was refused to one of the opens behind a message
pub amid_joined : (opens : List ℕ) (s : Standing) (m : Letter) (t t' : Table) (v v' : Store) (answers answers' : List Answer) (before : Bool)
    → same_port m.port One ≡ true → IsAt (happened s.led (Receives m)) t v answers → before ≡ s.submitted
    → IsAmid (unled t v answers) (due opens before t) t' v' answers' → IsAmid s.led (events_of opens s m) t' v' answers'
amid_joined opens s m t t' v v' answers answers' before here first same second =
    let all : due opens before t ≡ due opens s.submitted (happened s.led (Receives m)).table =
    ap (λ b. due opens b t) same ∙ ap (due opens s.submitted) first.table in
    subst (λ es. IsAmid s.led es t' v' answers') (sym (brings opens s m here))
    (amid_then s.led (Receives m ∷ []) _ t t' v v' answers answers' first (subst (λ es. IsAmid (unled t v answers) es t' v' answers') all second))

-- or to the message
pub amid_received : (opens : List ℕ) (s : Standing) (m : Letter) (t' : Table) (v' : Store) (answers' : List Answer) → same_port m.port One ≡ true
    → IsAmid s.led (Receives m ∷ []) t' v' answers' → IsAmid s.led (events_of opens s m) t' v' answers'
amid_received opens s m t' v' answers' here amid =
    amid_more s.led (Receives m ∷ []) (due opens s.submitted (happened s.led (Receives m)).table) (events_of opens s m) t' v' answers' (sym (brings opens s m here)) amid

-- ---- messages one by one

abbrev joined_as : Bool → Bool → List FilterEvent → Led → Standing
joined_as b submitted es w = cond b (record { led = all_happened w es; submitted = true }) (record { led = w; submitted = submitted })

abbrev behind_all : Led → Standing → Standing
behind_all w s = record { led = behind w s.led; submitted = s.submitted }

joined_by : (b : Bool) (submitted : Bool) (es : List FilterEvent) (w x : Led) → joined_as b submitted es (behind w x) ≡ behind_all w (joined_as b submitted es x)
joined_by true submitted es w x = ap (λ k. record { led = k; submitted = true }) (happened_behind x.table x.volume w.sent x.sent x.answers es)
joined_by false submitted es w x = refl

-- what joins behind a message
pub hears_joined : (opens : List ℕ) (s : Standing) (m : Letter) (t t' : Table) (v v' : Store) (answers answers' : List Answer) (waited waits more : List ℕ) (before submitted : Bool)
    → same_port m.port One ≡ true → Puts (happened s.led (Receives m)) t v answers waited waits → before ≡ s.submitted
    → Hears (joined opens before (unled t v answers)) t' v' answers' submitted waits more → Hears (heard opens s m) t' v' answers' submitted waited more
hears_joined opens s m t t' v v' answers answers' waited waits more before submitted at first same second =
    let w = happened s.led (Receives m) in
    let x : Standing = joined opens s.submitted (restarted w) in
    let here : joined opens before (unled t v answers) ≡ x = ap (λ b. joined opens b (unled t v answers)) same ∙ ap (joined opens s.submitted) (found w t v answers first.at) in
    let whole : heard opens s m ≡ behind_all w x =
    hears_here opens s m at ∙ ap (joined opens s.submitted) (happened_from w []) ∙ joined_by (is_open One w.table.connected && not s.submitted) s.submitted (opens_of opens) w (restarted w) in
    let h : Hears x t' v' answers' submitted waits more = subst (λ k. Hears k t' v' answers' submitted waits more) here second in
    subst (λ k. Hears k t' v' answers' submitted waited more) (sym whole)
    (record {
      puts = record {
        at = record { table = h.puts.at.table; volume = h.puts.at.volume; answered = h.puts.at.answered };
        sent =
            h.puts.sent
            ∙ ap (λ l. l ++ flat_map frame x.led.sent) first.sent
            ∙ append_assoc waited (flat_map frame w.sent) (flat_map frame x.led.sent)
            ∙ ap (λ l. waited ++ l) (sym (flat_map-append frame w.sent x.led.sent));
      };
      submitted_is = h.submitted_is;
    })

-- a message, behind what happened before
abbrev heard_as : Bool → List ℕ → Standing → Letter → Standing
heard_as b opens s m = cond b (joined opens s.submitted (happened s.led (Receives m))) s

heard_by : (b : Bool) (opens : List ℕ) (s : Standing) (m : Letter) → heard_as b opens s m ≡ behind_all s.led (heard_as b opens (record { led = restarted s.led; submitted = s.submitted }) m)
heard_by true opens s m =
    let x = happened (restarted s.led) (Receives m) in
    ap (joined opens s.submitted) (happened_from s.led (Receives m ∷ []))
    ∙ joined_by (is_open One x.table.connected && not s.submitted) s.submitted (opens_of opens) s.led x
heard_by false opens s m =
    ap (λ l. record { led = record { table = s.led.table; volume = s.led.volume; sent = l; answers = s.led.answers }; submitted = s.submitted })
    (sym (append-nil s.led.sent))

heard_from : (opens : List ℕ) (s : Standing) (m : Letter) → heard opens s m ≡ behind_all s.led (heard opens (record { led = restarted s.led; submitted = s.submitted }) m)
heard_from opens s m = heard_by (same_port m.port One) opens s m

-- one more, as long as opens are left to be answered
by_case : (b : Bool) (s x y : Standing) (H : Standing → Standing) (P : Standing → Bool) → P s ≡ b → P (cond b s x) ≡ false → (P x ≡ false → y ≡ H x) → cond b s y ≡ H (cond b s x)
by_case true s x y H P e h f = absurd cc
by_case false s x y H P e h f = f h

heard_more : (opens : List ℕ) (first : ℕ) (s : Standing) (ms : List Letter) (m : Letter) → is_done first (length opens) (heard_all opens first s ms) ≡ false
    → heard_all opens first s (ms ++ m ∷ []) ≡ heard opens (heard_all opens first s ms) m
heard_more opens first s [] m left = rw left refl
heard_more opens first s (k ∷ ms) m left =
    by_case (is_done first (length opens) s) s (heard_all opens first (heard opens s k) ms) (heard_all opens first (heard opens s k) (ms ++ m ∷ [])) (λ t. heard opens t m) (is_done first (length opens)) refl left
    (λ h. heard_more opens first (heard opens s k) ms m h)

-- Some messages were handled. The frames that were written, and those that wait to go out, are the text of them.
pub record IsWatching (at_once : Bool) (opens : List ℕ) (old : Table) (store : Store) (from now : Received) (waits : List ℕ) (a b w u : Option (List ℕ)) (t : Table) (v : Store) (answers : List Answer) (submitted : Bool) : Type 0 where
  pub messages : List Letter
  pub taken : Takes from now a b messages
  pub at : IsAt (run_from at_once old store opens messages).led t v answers
  pub submitted_is : submitted ≡ (run_from at_once old store opens messages).submitted
  pub written : List ℕ
  pub went : Appends w u written
  pub text : text_from at_once old store opens messages ≡ written ++ waits

pub watching_begins : (at_once : Bool) (opens : List ℕ) (t t' : Table) (v v' : Store) (from : Received) (waits more : List ℕ) (a w : Option (List ℕ)) (answers' : List Answer) (submitted : Bool)
    → waits ≡ [] → Hears (begun at_once opens (unled t v [])) t' v' answers' submitted waits more
    → IsWatching at_once opens t v from from more a a w w t' v' answers' submitted
watching_begins at_once opens t t' v v' from waits more a w answers' submitted none hears =
    let start : Standing = begun at_once opens (unled t v []) in
    record {
      messages = [];
      taken = takes_none from a;
      at = hears.puts.at;
      submitted_is = hears.submitted_is;
      written = [];
      went = Appends-nil w;
      text = sym (hears.puts.sent ∙ ap (λ l. l ++ flat_map frame start.led.sent) none);
    }

-- whether all opens are answered, by what the code counts
pub done_is : (at_once : Bool) (opens : List ℕ) (old : Table) (store : Store) (from now : Received) (waits : List ℕ) (a b w u : Option (List ℕ)) (t : Table) (v : Store) (answers : List Answer) (submitted : Bool) (first answered : ℕ)
    → (h : IsWatching at_once opens old store from now waits a b w u t v answers submitted) → first ≡ store.opens → answered ≡ later first answers
    → is_done store.opens (length opens) (run_from at_once old store opens h.messages) ≡ nat_eq answered (length opens)
done_is at_once opens old store from now waits a b w u t v answers submitted first answered h same counted =
    let all = ap (later first) h.at.answered in
    ap (λ n. nat_eq n (length opens)) (sym (counted ∙ all ∙ ap (λ n. later n (run_from at_once old store opens h.messages).led.answers) same))

pub watching_goes_on : (at_once : Bool) (opens : List ℕ) (old : Table) (store : Store) (from : Received) (x y : Exchange) (a b c w v u : Option (List ℕ))
    (t t' : Table) (k k' : Store) (answers answers' : List Answer) (submitted submitted' : Bool) (m : Letter) (waits : List ℕ)
    → (h : IsWatching at_once opens old store from x.incoming x.outgoing a b w v t k answers submitted)
    → is_done store.opens (length opens) (run_from at_once old store opens h.messages) ≡ false
    → Passes x y b c v u (m ∷ [])
    → Hears (heard opens (standing t k answers submitted) m) t' k' answers' submitted' y.outgoing waits
    → IsWatching at_once opens old store from y.incoming waits a c w u t' k' answers' submitted'
watching_goes_on at_once opens old store from x y a b c w v u t t' k k' answers answers' submitted submitted' m waits h left passes hears =
    let before = run_from at_once old store opens h.messages in
    let here : standing t k answers submitted ≡ record { led = restarted before.led; submitted = before.submitted } =
    ap (λ l. record { led = l; submitted = submitted }) (found before.led t k answers h.at) ∙ ap (λ s. record { led = restarted before.led; submitted = s }) h.submitted_is in
    let after = heard opens (standing t k answers submitted) m in
    let more : run_from at_once old store opens (h.messages ++ m ∷ []) ≡ behind_all before.led after =
    heard_more opens store.opens (begun at_once opens (unled old store [])) h.messages m left ∙ heard_from opens before m ∙ ap (λ s. behind_all before.led (heard opens s m)) (sym here) in
    record {
      messages = h.messages ++ m ∷ [];
      taken = takes_then from x.incoming y.incoming a b c h.messages (m ∷ []) h.taken passes.taken;
      at = record {
        table = hears.puts.at.table ∙ ap (λ (s : Standing). s.led.table) (sym more);
        volume = hears.puts.at.volume ∙ ap (λ (s : Standing). s.led.volume) (sym more);
        answered = hears.puts.at.answered ∙ ap (λ (s : Standing). s.led.answers) (sym more);
      };
      submitted_is = hears.submitted_is ∙ ap (λ (s : Standing). s.submitted) (sym more);
      written = h.written ++ x.outgoing;
      went = Appends-trans w v u h.written x.outgoing h.went passes.sent;
      text =
          ap (λ (s : Standing). flat_map frame s.led.sent) more
          ∙ flat_map-append frame before.led.sent after.led.sent
          ∙ ap (λ l. l ++ flat_map frame after.led.sent) h.text
          ∙ ap (λ l. (h.written ++ x.outgoing) ++ l) (sym (hears.puts.sent ∙ ap (λ l. l ++ flat_map frame after.led.sent) passes.empty));
    }

still : (e : End) (x y : Exchange) (b c v u : Option (List ℕ)) (done : Bool) (w : Led) (t : Table) (k : Store) (answers : List Answer) → StopsAs e x y b c v u → done ≡ false → IsAt w t k answers
    → (within : Type 0) → (IsAt w t k answers → within) → IsStill e within done w t k answers
still Done x y b c v u done w t k answers stops left at within here = absurd stops.1
still ReadFault x y b c v u done w t k answers stops left at within here = (left, at)
still WriteFault x y b c v u done w t k answers stops left at within here = at
still Frame x y b c v u done w t k answers stops left at within here = (left, at)
still Closed x y b c v u done w t k answers stops left at within here = (left, at)
still Memory x y b c v u done w t k answers stops left at within here = here at
still AuditFull x y b c v u done w t k answers stops left at within here = absurd stops.1

-- what stopped was not done
not_done : (e : End) (x y : Exchange) (b c v u : Option (List ℕ)) (P : Type 0) → StopsAs e x y b c v u → GoesOn e P
not_done Done x y b c v u P stops = absurd stops.1
not_done ReadFault x y b c v u P stops = tt
not_done WriteFault x y b c v u P stops = tt
not_done Frame x y b c v u P stops = tt
not_done Closed x y b c v u P stops = tt
not_done Memory x y b c v u P stops = tt
not_done AuditFull x y b c v u P stops = tt

pub watching_stops : FaultStays → (e : End) (at_once : Bool) (opens : List ℕ) (old : Table) (store : Store) (from : Received) (x y : Exchange) (a b c w v u : Option (List ℕ))
    (t : Table) (k : Store) (answers : List Answer) (submitted : Bool)
    → (h : IsWatching at_once opens old store from x.incoming x.outgoing a b w v t k answers submitted)
    → is_done store.opens (length opens) (run_from at_once old store opens h.messages) ≡ false
    → StopsAs e x y b c v u → RunsOver at_once opens old store t k answers from y.incoming a c w u e
watching_stops stays e at_once opens old store from x y a b c w v u t k answers submitted h ongoing stops = record {
  messages = h.messages;
  spelled = stopped_taken stays e from x y a b c v u h.messages h.taken stops;
  few = takes_within from x.incoming a b h.messages h.taken;
  taken = not_done e x y b c v u _ stops;
  sent = subst (IsSent e w u) (sym h.text) (stopped_sent e x y b c w v u h.written h.went stops);
  left = still e x y b c v u _ _ t k answers stops ongoing h.at _ IsWithin.between;
}

-- memory was refused to the message that came last
pub watching_fails : (at_once : Bool) (opens : List ℕ) (old : Table) (store : Store) (from : Received) (x y : Exchange) (a b c w v u : Option (List ℕ))
    (t t' : Table) (k k' : Store) (answers answers' : List Answer) (submitted : Bool) (m : Letter)
    → (h : IsWatching at_once opens old store from x.incoming x.outgoing a b w v t k answers submitted)
    → is_done store.opens (length opens) (run_from at_once old store opens h.messages) ≡ false
    → Passes x y b c v u (m ∷ []) → IsAmid (unled t k answers) (events_of opens (standing t k answers submitted) m) t' k' answers'
    → RunsOver at_once opens old store t' k' answers' from y.incoming a c w u Memory
watching_fails at_once opens old store from x y a b c w v u t t' k k' answers answers' submitted m h ongoing passes amid =
    let before : Standing = run_from at_once old store opens h.messages in
    let here : standing t k answers submitted ≡ record { led = restarted before.led; submitted = before.submitted } =
    ap (λ l. record { led = l; submitted = submitted }) (found before.led t k answers h.at) ∙ ap (λ s. record { led = restarted before.led; submitted = s }) h.submitted_is in
    let events : events_of opens (standing t k answers submitted) m ≡ events_of opens before m = ap (λ s. events_of opens s m) here in
    record {
      messages = h.messages;
      spelled = first_taken from x.incoming a b h.messages h.taken;
      few = takes_within from x.incoming a b h.messages h.taken;
      taken = tt;
      sent = prefix_whole w u _ (subst (Appends w u) (sym h.text) (Appends-trans w v u h.written x.outgoing h.went passes.sent));
      left =
          IsWithin.amid m (first_taken from y.incoming a c (h.messages ++ m ∷ []) (takes_then from x.incoming y.incoming a b c h.messages (m ∷ []) h.taken passes.taken)) ongoing
          (subst (λ es. IsAmid before.led es t' k' answers') events (amid_then before.led [] _ t t' k k' answers answers' h.at amid));
    }

-- all opens are answered, and what waited to go out went out, or a front of it
pub watching_ends : (at_once : Bool) (opens : List ℕ) (old : Table) (store : Store) (from now : Received) (waits : List ℕ) (a b w v u : Option (List ℕ)) (t : Table) (k : Store) (answers : List Answer) (submitted : Bool)
    → (h : IsWatching at_once opens old store from now waits a b w v t k answers submitted)
    → is_done store.opens (length opens) (run_from at_once old store opens h.messages) ≡ true → Appends v u waits → RunsOver at_once opens old store t k answers from now a b w u Done
watching_ends at_once opens old store from now waits a b w v u t k answers submitted h done sent = record {
  messages = h.messages;
  spelled = first_taken from now a b h.messages h.taken;
  few = takes_within from now a b h.messages h.taken;
  taken = h.taken;
  sent = subst (Appends w u) (sym h.text) (Appends-trans w v u h.written waits h.went sent);
  left = (done, h.at);
}

pub watching_breaks : (at_once : Bool) (opens : List ℕ) (old : Table) (store : Store) (from now : Received) (waits : List ℕ) (a b w v u : Option (List ℕ)) (t : Table) (k : Store) (answers : List Answer) (submitted : Bool)
    → IsWatching at_once opens old store from now waits a b w v t k answers submitted → AppendsPrefix v u waits → RunsOver at_once opens old store t k answers from now a b w u WriteFault
watching_breaks at_once opens old store from now waits a b w v u t k answers submitted h sent = record {
  messages = h.messages;
  spelled = first_taken from now a b h.messages h.taken;
  few = takes_within from now a b h.messages h.taken;
  taken = tt;
  sent = subst (AppendsPrefix w u) (sym h.text) (prefix_after w v u h.written waits h.went sent);
  left = h.at;
}

-- ---- the disconnection at the end

first_of_all : (messages : List Letter) (a : Option (List ℕ)) → IfSome a (SpellsAll messages) → IfSome a (SpellsFirst messages)
first_of_all messages None all = tt
first_of_all messages (Some xs) all = record { more = all.0; whole = all.1.whole; in_range = all.1.in_range }

first_to_fault : (messages : List Letter) (a : Option (List ℕ)) → IfSome a (SpellsUpToFault messages) → IfSome a (SpellsFirst messages)
first_to_fault messages None all = tt
first_to_fault messages (Some xs) all = record { more = all.0; whole = all.2.whole; in_range = all.2.in_range }

-- what holds of another end holds of Memory
refused_spelled : (e : End) (messages : List Letter) (a : Option (List ℕ)) → AreSpelled e a messages → AreSpelled Memory a messages
refused_spelled Done messages a spelled = spelled
refused_spelled ReadFault messages a spelled = spelled
refused_spelled WriteFault messages a spelled = spelled
refused_spelled Frame messages a spelled = first_to_fault messages a spelled
refused_spelled Closed messages a spelled = first_of_all messages a spelled
refused_spelled Memory messages a spelled = spelled
refused_spelled AuditFull messages a spelled = absurd spelled

refused_sent : (e : End) (w u : Option (List ℕ)) (text : List ℕ) → IsSent e w u text → IsSent Memory w u text
refused_sent Done w u text sent = prefix_whole w u text sent
refused_sent ReadFault w u text sent = prefix_whole w u text sent
refused_sent WriteFault w u text sent = sent
refused_sent Frame w u text sent = prefix_whole w u text sent
refused_sent Closed w u text sent = prefix_whole w u text sent
refused_sent Memory w u text sent = sent
refused_sent AuditFull w u text sent = prefix_whole w u text sent

-- where a disconnection led
left_at : (w : Led) (t t' : Table) (v : Store) (answers answers' : List Answer) → IsAt w t v answers → IsAt (happened (unled t v answers) (Disconnects One)) t' v answers' → IsAt (happened w (Disconnects One)) t' v answers'
left_at w t t' v answers answers' first second = at_then w t t' v v answers answers' (Disconnects One ∷ []) first second

kept_at : (w : Led) (t t' : Table) (v : Store) (answers answers' : List Answer) → IsAt w t v answers → t' ≡ t → answers' ≡ answers → IsAt w t' v answers'
kept_at w t t' v answers answers' at table same = record { table = table ∙ at.table; volume = at.volume; answered = same ∙ at.answered }

kept_within : (at_once : Bool) (opens : List ℕ) (from : Led) (a : Option (List ℕ)) (messages : List Letter) (s : Standing) (t t' : Table) (v : Store) (answers answers' : List Answer) → t' ≡ t → answers' ≡ answers
    → IsWithin at_once opens from a messages s t v answers → IsWithin at_once opens from a messages s t' v answers'
kept_within at_once opens from a messages s t t' v answers answers' table same within = subst (λ k. IsWithin at_once opens from a messages s k v answers') (sym table) (subst (IsWithin at_once opens from a messages s t v) (sym same) within)

module _ (at_once : Bool) (opens : List ℕ) (old : Table) (store : Store) (from now : Received) (a b w u : Option (List ℕ)) where
  abbrev Watches : Table → Store → List Answer → End → Type 0
  Watches t v answers e = WatchesOver at_once opens old store t v answers from now a b w u e

  abbrev Runs : Table → Store → List Answer → End → Type 0
  Runs t v answers e = RunsOver at_once opens old store t v answers from now a b w u e

  abbrev left_by : End → Table → Store → List Answer → List Letter → Type 0
  left_by e t v answers messages =
      IsLeft e (IsWithin at_once opens (unled old store []) (input_of from a) messages (run_from at_once old store opens messages) t v answers)
      (is_done store.opens (length opens) (run_from at_once old store opens messages)) (run_from at_once old store opens messages).led t v answers

  -- an engine that would end otherwise than by Memory, with this left of its run, ends so or with Memory
  ends_as : (e end : End) (t t' : Table) (v : Store) (answers answers' : List Answer)
      → (runs : Runs t v answers e) → IsAt (run_from at_once old store opens runs.messages).led t v answers
      → (IsAt (happened (run_from at_once old store opens runs.messages).led (Disconnects One)) t' v answers' → left_by e t' v answers' runs.messages)
      → ((end ≡ e) × IsAt (happened (unled t v answers) (Disconnects One)) t' v answers') ⊎ ((end ≡ Memory) × (t' ≡ t) × (answers' ≡ answers))
      → Watches t' v answers' end
  ends_as e end t t' v answers answers' runs at left (inl k) =
      subst (λ x. Watches t' v answers' x) (sym k.0)
      (record { messages = runs.messages; spelled = runs.spelled; few = runs.few; taken = runs.taken; sent = runs.sent; left = left (left_at _ t t' v answers answers' at k.1) })
  ends_as e end t t' v answers answers' runs at left (inr k) =
      subst (λ x. Watches t' v answers' x) (sym k.0)
      (record {
        messages = runs.messages;
        spelled = refused_spelled e runs.messages (input_of from a) runs.spelled;
        few = runs.few;
        taken = tt;
        sent = refused_sent e w u _ runs.sent;
        left = IsWithin.between (kept_at _ t t' v answers answers' at k.1 k.2);
      })

  pub watched : (e end : End) (t t' : Table) (v : Store) (answers answers' : List Answer)
      → Runs t v answers e → Leaves e end t v answers t' answers' → Watches t' v answers' end
  watched Done end t t' v answers answers' runs leaves =
      subst (λ x. Watches t' v answers' x) (sym leaves.0)
      (record { messages = runs.messages; spelled = runs.spelled; few = runs.few; taken = runs.taken; sent = runs.sent; left = (runs.left.0, kept_at _ t t' v answers answers' runs.left.1 leaves.1 leaves.2) })
  watched ReadFault end t t' v answers answers' runs leaves = ends_as ReadFault end t t' v answers answers' runs runs.left.1 (λ at. (runs.left.0, at)) leaves
  watched WriteFault end t t' v answers answers' runs leaves = ends_as WriteFault end t t' v answers answers' runs runs.left (λ at. at) leaves
  watched Frame end t t' v answers answers' runs leaves = ends_as Frame end t t' v answers answers' runs runs.left.1 (λ at. (runs.left.0, at)) leaves
  watched Closed end t t' v answers answers' runs leaves = ends_as Closed end t t' v answers answers' runs runs.left.1 (λ at. (runs.left.0, at)) leaves
  watched Memory end t t' v answers answers' runs leaves =
      subst (λ x. Watches t' v answers' x) (sym leaves.0)
      (record { messages = runs.messages; spelled = runs.spelled; few = runs.few; taken = tt; sent = runs.sent; left = kept_within at_once opens (unled old store []) (input_of from a) runs.messages _ t t' v answers answers' leaves.1 leaves.2 runs.left })
  watched AuditFull end t t' v answers answers' runs leaves = absurd runs.spelled

not_done_yet : Memory ≡ Done → ⊥
not_done_yet same = cc

-- it is done only where it would be
pub done_by : (would end : End) (t t' : Table) (v : Store) (answers answers' : List Answer) → Leaves would end t v answers t' answers' → end ≡ Done → would ≡ Done
done_by Done end t t' v answers answers' leaves done = refl
done_by ReadFault end t t' v answers answers' (inl k) done = sym k.0 ∙ done
done_by ReadFault end t t' v answers answers' (inr k) done = absurd (not_done_yet (sym k.0 ∙ done))
done_by WriteFault end t t' v answers answers' (inl k) done = sym k.0 ∙ done
done_by WriteFault end t t' v answers answers' (inr k) done = absurd (not_done_yet (sym k.0 ∙ done))
done_by Frame end t t' v answers answers' (inl k) done = sym k.0 ∙ done
done_by Frame end t t' v answers answers' (inr k) done = absurd (not_done_yet (sym k.0 ∙ done))
done_by Closed end t t' v answers answers' (inl k) done = sym k.0 ∙ done
done_by Closed end t t' v answers answers' (inr k) done = absurd (not_done_yet (sym k.0 ∙ done))
done_by Memory end t t' v answers answers' leaves done = sym leaves.0 ∙ done
done_by AuditFull end t t' v answers answers' leaves done = sym leaves.0 ∙ done

-- over a stream from its start on
from_start_on : (opens : List ℕ) (old : Table) (store : Store) (turns : ℕ) (now : Received) (a b w u : Option (List ℕ)) (t : Table) (v : Store) (answers : List Answer) (e : End)
    → WatchesOver false opens old store t v answers (nothing_yet turns) now a b w u e → WatchesTo opens old store t v answers a w u turns e
from_start_on opens old store turns now a b w u t v answers e h =
    let input = from_start (nothing_yet turns) a refl in
    record {
      messages = h.messages;
      spelled = subst (λ k. AreSpelled e k h.messages) input h.spelled;
      few = omega (arith, h.few);
      sent = h.sent;
      left = subst (λ k. IsLeft e (IsWithin false opens (unled old store []) k h.messages (filter_run old store opens h.messages) t v answers) (is_done store.opens (length opens) (filter_run old store opens h.messages)) (filter_run old store opens h.messages).led t v answers) input h.left;
    }

pub watches_to : (at_once : Bool) (opens : List ℕ) (old : Table) (store : Store) (turns : ℕ) (from now : Received) (a b w u : Option (List ℕ)) (t : Table) (v : Store) (answers : List Answer) (e : End)
    → at_once ≡ false → from ≡ nothing_yet turns → WatchesOver at_once opens old store t v answers from now a b w u e → WatchesTo opens old store t v answers a w u turns e
watches_to at_once opens old store turns from now a b w u t v answers e behind start h =
    from_start_on opens old store turns now a b w u t v answers e
    (subst (λ r. WatchesOver false opens old store t v answers r now a b w u e) start (subst (λ k. WatchesOver k opens old store t v answers from now a b w u e) behind h))

nothing_spelled : (a : Option (List ℕ)) → IfSome a (SpellsFirst [])
nothing_spelled None = tt
nothing_spelled (Some xs) = record { more = xs; whole = refl; in_range = tt }

-- memory was refused before the first read
pub nothing_watched : (at_once : Bool) (opens : List ℕ) (t t' : Table) (v v' : Store) (from now : Received) (a b w : Option (List ℕ)) (answers' : List Answer)
    → at_once ≡ true → IsAmid (unled t v []) (due opens false t) t' v' answers' → RunsOver at_once opens t v t' v' answers' from now a b w w Memory
nothing_watched at_once opens t t' v v' from now a b w answers' true_is amid = record {
  messages = [];
  spelled = nothing_spelled (input_of from a);
  few = omega arith;
  taken = tt;
  sent = record { front = []; back = text_from at_once t v opens []; parts = refl; appended = Appends-nil w };
  left = IsWithin.begun true_is refl amid;
}

-- or to the stream itself
pub nothing_begun : (opens : List ℕ) (t : Table) (v : Store) (a w : Option (List ℕ)) (turns : ℕ) (answers : List Answer) → answers ≡ [] → WatchesTo opens t v t v answers a w w turns Memory
nothing_begun opens t v a w turns answers none = record {
  messages = [];
  spelled = nothing_spelled a;
  few = omega arith;
  sent = record { front = []; back = filter_text t v opens []; parts = refl; appended = Appends-nil w };
  left = IsWithin.between (record { table = refl; volume = refl; answered = none });
}

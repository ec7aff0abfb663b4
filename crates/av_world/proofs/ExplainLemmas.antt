-- Each answer is explained by the event that gives it.
use Rattle.std.proofs.Common.{◌≡◌, ℕ, ◌+◌, ◌<◌, ◌≤◌, Bool, true, false, not, ◌&&◌, List, [], ◌∷◌, ◌++◌, length, map, filter, find, append_assoc, Option}
use Rattle.std.proofs.Common.{Some, None, if◌then◌else◌, ◌==◌, nat_lt, max, refl, sym, ap, ◌∙◌, subst, arith, inl, inr}
use Rattle.std.specs.List.{AllByRecursion as Each, list_any}
use Rattle.std.specs.Option.{option_map}
use Rattle.std.proofs.lemmas.Bool.{and_parts, and_cases, and_from, false_from_ne_true, or_right, true≢false, ltb-true, ltb-false, leb-true}
use Rattle.av_base.proofs.AmongLemmas.{among_each, each_self}
use Rattle.av_base.proofs.KeyLemmas.{same_id-refl, same_id-true}
use Rattle.av_base.specs.Among.{Among}
use Rattle.av_base.specs.MessageId.{same_id}
use Rattle.av_base.specs.declared.cause.Cause.{Cause}
use Rattle.av_base.specs.declared.cause.Cause.TheVariants as cause
use Rattle.av_base.specs.declared.cause.Cause.TheVariants.{NotConnected, Busy, TimedOut, PortDisconnected, ScanFailed, Unsettled, StreamRemoved, FilterRestart}
use Rattle.av_base.specs.declared.message_id.MessageId.{MessageId}
use Rattle.av_base.specs.declared.mode.Mode.{Mode}
use Rattle.av_base.specs.declared.mode.Mode.TheVariants.{FailClosed, FailOpen}
use Rattle.av_base.specs.declared.verdict.Verdict.{Verdict}
use Rattle.av_base.specs.declared.verdict.Verdict.TheVariants.{Clean, Infected}
use Rattle.av_context.specs.declared.context_state.ContextState.{ContextState}
use Rattle.av_context.specs.declared.context_state.ContextState.TheVariants as context
use Rattle.av_filter.specs.Again.{again, ends}
use Rattle.av_filter_table.specs.Asking.{again_cause, again_under, asks, ended, is_held, is_lost, is_spent, moved}
use Rattle.av_filter.specs.Conduct.{FilterEvent, Opens, Receives, Disconnects, Restarts, again_each, loses_all, moves, filter_step, restarts}
use Rattle.av_filter.specs.Opening.{answers_with, new_open, pends, taken}
use Rattle.av_filter.proofs.RowLemmas.{again_row, row_of}
use Rattle.av_filter.specs.Rows
use Rattle.av_filter.specs.Rows.{AgainRow, Hinders, OpenRow, Row, without}
use Rattle.av_filter.specs.Reaction.{Reaction}
use Rattle.av_filter_table.specs.Answering.{all_judged, by_mode, judged, refused_now}
use Rattle.av_filter_table.specs.Table.{Table, context_of, next_id, on_port, opens_of, question_at, question_on, raised, sequence_left, waits_for}
use Rattle.av_filter.specs.declared.note.Note.{Note}
use Rattle.av_filter_table.specs.declared.pended.Pended.{Pended}
use Rattle.av_filter_table.specs.declared.question.Question.{Question}
use Rattle.av_frame.specs.Message.{Letter, via}
use Rattle.av_base.specs.declared.port.Port.TheVariants.{One, Two}
use Rattle.av_base.specs.declared.port.Port.{Port}
use Rattle.av_filter_table.specs.declared.ports.Ports.{Ports}
use Rattle.av_filter_table.specs.Ports.{is_open, least_port, without_port}
use Rattle.av_base.specs.Port.{same_port}
use Rattle.av_frame.specs.declared.message.Body.TheVariants.{Reply}
use Rattle.av_frame.specs.declared.outcome.Outcome.TheVariants.{Judged}
use Rattle.av_pend.specs.Pend.{denied, refused}
use Rattle.av_pend.specs.Waiting.{Waiting}
use Rattle.av_pend.specs.declared.answer.Answer.{Answer}
use Rattle.av_store.specs.History.{generation_of}
use Rattle.av_store.specs.Rows.{stream_at}
use Rattle.av_store.specs.Store.{Store, greatest}
use Rattle.av_store.specs.declared.stream.Stream.{Stream}
use Rattle.av_filter.proofs.QuestionLemmas.{order-filter}
use Rattle.av_history.proofs.ContentLemmas.{present_content}
use Rattle.av_filter.proofs.EachLemmas.{each_weaker, each-append, each-filter, each-filter_passed, each-map, find_each, find_passes}
use Rattle.av_history.proofs.FilterLemmas.{Comes, Runs, order_just, current_right, look_right, past_filter, runs}
use Rattle.av_history.proofs.FitLemmas.{Fits as FilterFits, core, OutcomeFits, about}
use Rattle.av_history.specs.Held.{Asked, asked}
use Rattle.av_history.specs.Past.{Past, IsVerdictOf}
use Rattle.av_history.specs.Safety.{Waits, Explains, IsByMode, IsExplained, IsRightFor, Moves, Submission, next_open}
use Rattle.av_filter.specs.Fit.{IsAsked, IsCoherent, RunOnOpen}
use Rattle.av_filter_table.specs.Orderly.{AreInOrder, IsGiven}

-- what the open of each number asked for
abbrev pub Wanted : Type 0
Wanted = ℕ → Option Submission

-- an open is as it was submitted, and asks for no version above the floor
abbrev pub Stands : Wanted → ℕ → Pended → Type 0
Stands wanted floor o = (wanted o.held.open_id ≡ Some (record { stream = o.held.stream; least = o.held.least })) × (o.held.least ≤ floor)

-- so are all
abbrev pub Stand : Wanted → ℕ → List Pended → Type 0
Stand wanted floor ps = Each (Stands wanted floor) ps

-- an open that comes is as it is submitted
abbrev pub Submits : Wanted → Store → FilterEvent → Type 0
Submits wanted v (Opens s least) = wanted (next_open v) ≡ Some (record { stream = s; least = least })
Submits wanted v _ = Unit {0}

pub record Fair (wanted : Wanted) (p : Past) (t : Table) (v : Store) (f : FilterEvent) (r : Reaction) : Type 0 where
  pub stand : Stand wanted r.table.floor r.table.pended
  pub explained : Each (IsExplained wanted p t v f r.table.floor) r.answers

raised_floor : (wanted : Wanted) (m n : ℕ) → m ≤ n → (ps : List Pended) → Stand wanted m ps → Stand wanted n ps
raised_floor wanted m n le = each_weaker (Stands wanted m) (Stands wanted n) (λ o h. (h.0, omega (arith, h.1, le)))

-- a cause that lets an open through in fail-open mode is no signature
right_by_mode : (wanted : Wanted) (p : Past) (n : ℕ) (c : Cause) → IsByMode c → IsRightFor wanted p n c
right_by_mode wanted p n cause.Infected by = absurd (by.1 refl)
right_by_mode wanted p n _ by = tt

explained-refused : (wanted : Wanted) (p : Past) (t : Table) (v : Store) (f : FilterEvent) (floor : ℕ) (mode : Mode) (g : ℕ) (c : Cause) (o : Waiting) → wanted o.open_id ≡ Some (record { stream = o.stream; least = o.least }) → IsByMode c → Explains p t v f o.open_id c
    → IsExplained wanted p t v f floor (refused mode g c o)
explained-refused wanted p t v f floor FailClosed g c o is by h = (h, right_by_mode wanted p o.open_id c by)
explained-refused wanted p t v f floor FailOpen g c o is by h = (ap (option_map (λ (x : Submission). x.stream)) is, by, h)

busy : IsByMode Busy
busy = (λ e. cc, λ e. cc, λ e. cc)

not_connected : IsByMode NotConnected
not_connected = (λ e. cc, λ e. cc, λ e. cc)

timed_out : IsByMode TimedOut
timed_out = (λ e. cc, λ e. cc, λ e. cc)

disconnected : IsByMode PortDisconnected
disconnected = (λ e. cc, λ e. cc, λ e. cc)

failed : IsByMode ScanFailed
failed = (λ e. cc, λ e. cc, λ e. cc)

unsettled : IsByMode Unsettled
unsettled = (λ e. cc, λ e. cc, λ e. cc)

restarted : IsByMode FilterRestart
restarted = (λ e. cc, λ e. cc, λ e. cc)

-- one that waits for a question
abbrev waits : (t : Table) (id : MessageId) (o : Pended) → Among o t.pended → waits_for id o ≡ true → Waits t id o.held.open_id
waits t id o a w = record { waiting = o; pended = a; number = refl; question = same_id-true o.question id w }

abbrev waits_as : (t : Table) (i id : MessageId) (o : Pended) → i ≡ id → Among o t.pended → waits_for i o ≡ true → Waits t id o.held.open_id
waits_as t i id o same a w = record { waiting = o; pended = a; number = refl; question = same_id-true o.question i w ∙ same }

-- what each of a question's opens gets
opens_get : (P : Answer → Type 0) (t : Table) (id : MessageId) (f : Pended → Answer) → ((o : Pended) → Among o t.pended → waits_for id o ≡ true → P (f o)) → Each P (map f (opens_of id t.pended))
opens_get P t id f h =
    each-map P (λ (o : Pended). Among o t.pended × (waits_for id o ≡ true)) f (λ o k. h o k.0 k.1) (opens_of id t.pended)
    (each-filter_passed (λ (o : Pended). Among o t.pended) (λ (o : Pended). Among o t.pended × (waits_for id o ≡ true)) (waits_for id) (λ o e a. (a, e)) t.pended (each_self t.pended))

any_from : {A : Type 0} (test : A → Bool) (xs : List A) (x : A) → Among x xs → test x ≡ true → list_any test xs ≡ true
any_from test [] x a e = absurd a
any_from test (y ∷ ys) x (inl same) e = rw (subst (λ z. test z ≡ true) same e) refl
any_from test (y ∷ ys) x (inr later) e = or_right (test y) (list_any test ys) (any_from test ys x later e)

moved_stands : (wanted : Wanted) (floor : ℕ) (old new : MessageId) (o : Pended) → Stands wanted floor o → Stands wanted floor (moved old new o)
moved_stands wanted floor old new o h = elim (waits_for old o) as (λ b. Stands wanted floor (if b then again_under new o else o)) [ true ↦ h | false ↦ h ]

-- what walking one question leaves: t0 is the table at the event
record Walked (wanted : Wanted) (p : Past) (t0 : Table) (v : Store) (f : FilterEvent) (t : Table) (r : Reaction) : Type 0 where
  stand : Stand wanted t.floor r.table.pended
  floor : r.table.floor ≡ t.floor
  explained : Each (IsExplained wanted p t0 v f t.floor) r.answers

-- asked again: every reason for it and for a want of numbers is the caller's
again_walked : (wanted : Wanted) (p : Past) (t0 t : Table) (v v' : Store) (f : FilterEvent) {to : Option Port} (port : Port) → to ≡ Some port
    → (q : Question) (early : List Letter) → Stand wanted t.floor t.pended
    → ((o : Pended) → Among o t.pended → waits_for q.id o ≡ true → 8 ≤ o.held.rescans → Explains p t0 v f o.held.open_id Unsettled)
    → ((o : Pended) → Among o t.pended → waits_for q.id o ≡ true → greatest ≤ t.sequence → Explains p t0 v f o.held.open_id Busy)
    → {r : Reaction} → AgainRow to t v' q early r → Walked wanted p t0 v f t r
unfolding ends asks ended
again_walked wanted p t0 t v v' f {to} port on q early stand spent number row =
    elim row as (λ r i. Walked wanted p t0 v f t r) [
      | Rows.anew at is can ↦ record {
        stand =
            each-map (Stands wanted t.floor) (Stands wanted t.floor) (moved q.id (next_id t)) (λ o h. moved_stands wanted t.floor q.id (next_id t) o h) _
            (each-filter (Stands wanted t.floor) (λ o. not (is_lost q.id o)) t.pended stand);
        floor = refl;
        explained =
            each-map (IsExplained wanted p t0 v f t.floor) (λ (o : Pended). IsExplained wanted p t0 v f t.floor (refused_now t v' Unsettled o)) (refused_now t v' Unsettled) (λ o h. h)
            (filter (is_lost q.id) t.pended)
            (each-filter_passed (λ (o : Pended). Among o t.pended) (λ (o : Pended). IsExplained wanted p t0 v f t.floor (refused_now t v' Unsettled o)) (is_lost q.id)
            (λ o w a. let both = and_parts (waits_for q.id o) (is_spent o) w in unsettles o a both.0 (leb-true 8 o.held.rescans both.1)) t.pended (each_self t.pended));
      }
      | Rows.over why ↦ record {
        stand = each-filter (Stands wanted t.floor) (λ o. not (waits_for q.id o)) t.pended stand;
        floor = refl;
        explained = opens_get (IsExplained wanted p t0 v f t.floor) t q.id (λ (o : Pended). refused_now t v' (again_cause o) o) (λ o a w. left (why port on) o a w);
      }
    ]
  where
    submitted_so : (o : Pended) → Among o t.pended → wanted o.held.open_id ≡ Some (record { stream = o.held.stream; least = o.held.least })
    submitted_so o a = (among_each (Stands wanted t.floor) t.pended o stand a).0

    unsettles : (o : Pended) → Among o t.pended → waits_for q.id o ≡ true → 8 ≤ o.held.rescans → IsExplained wanted p t0 v f t.floor (refused_now t v' Unsettled o)
    unsettles o a w le = explained-refused wanted p t0 v f t.floor t.mode _ Unsettled o.held (submitted_so o a) unsettled (spent o a w le)

    left : (list_any (is_held q.id) t.pended && sequence_left t) ≡ false → (o : Pended) → Among o t.pended → waits_for q.id o ≡ true → IsExplained wanted p t0 v f t.floor (refused_now t v' (if is_spent o then Unsettled else Busy) o)
    left e o a w =
        let go : (b : Bool) → is_spent o ≡ b → IsExplained wanted p t0 v f t.floor (refused_now t v' (if b then Unsettled else Busy) o) = elim [
          | true ↦ λ s. unsettles o a w (leb-true 8 o.held.rescans s)
          | false ↦ λ s.
              let held : list_any (is_held q.id) t.pended ≡ true = any_from (is_held q.id) t.pended o a (and_from (waits_for q.id o) (not (is_spent o)) w (ap not s)) in
              let gone : sequence_left t ≡ false = elim (and_cases (list_any (is_held q.id) t.pended) (sequence_left t) e) [ inl h ↦ absurd (true≢false (sym held ∙ h)) | inr h ↦ h ] in
              explained-refused wanted p t0 v f t.floor t.mode _ Busy o.held (submitted_so o a) busy (number o a w (ltb-false t.sequence greatest gone))
        ] in
        go (is_spent o) refl

-- where some port is connected, as it is where a question runs
port_left : (ports : Ports) (port : Port) → is_open port ports ≡ true → (least : Port) × (least_port ports ≡ Some least)
port_left ports One on = (One, rw on refl)
port_left ports Two on = (elim ports.one as (λ b. ports.one ≡ b → (least : Port) × ((if b then Some One else (if ports.two then Some Two else None)) ≡ Some least)) [
  | true ↦ λ e. (One, refl)
  | false ↦ λ e. (Two, rw on refl)
]) refl

again_fair : (wanted : Wanted) (p : Past) (t : Table) (v v' : Store) (f : FilterEvent) (q : Question) (early : List Letter) → ((least : Port) × (least_port t.connected ≡ Some least)) → Stand wanted t.floor t.pended
    → ((o : Pended) → Waits t q.id o.held.open_id → Among o t.pended → waits_for q.id o ≡ true → 8 ≤ o.held.rescans → Explains p t v f o.held.open_id Unsettled) → ((n : ℕ) → Waits t q.id n → greatest ≤ t.sequence → Explains p t v f n Busy)
    → Fair wanted p t v f (again t v' q early)
again_fair wanted p t v v' f q early on stand spent number =
    let w : Walked wanted p t v f t (again t v' q early) =
    again_walked wanted p t t v v' f on.0 on.1 q early stand (λ o a k le. spent o (waits t q.id o a k) a k le) (λ o a k le. number o.held.open_id (waits t q.id o a k) le)
    (again_row (least_port t.connected) t v' q early) in
    record {
      stand = subst (λ n. Stand wanted n (again t v' q early).table.pended) (sym w.floor) w.stand;
      explained = subst (λ n. Each (IsExplained wanted p t v f n) (again t v' q early).answers) (sym w.floor) w.explained;
    }

-- nothing answered
quiet_fair : (wanted : Wanted) (p : Past) (t : Table) (v : Store) (f : FilterEvent) (r : Reaction) → Stand wanted r.table.floor r.table.pended → r.answers ≡ [] → Fair wanted p t v f r
quiet_fair wanted p t v f r stand none = record { stand = stand; explained = subst (Each (IsExplained wanted p t v f r.table.floor)) (sym none) tt }

-- a question that ends, its opens answered
ended_fair : (wanted : Wanted) (p : Past) (t : Table) (v v' : Store) (f : FilterEvent) (q : Question) (c : Option ContextState) (answer : Pended → Answer) (ms : List Letter) (n : Note) → Stand wanted t.floor t.pended
    → ((o : Pended) → Among o t.pended → waits_for q.id o ≡ true → IsExplained wanted p t v f t.floor (answer o)) → Fair wanted p t v f (record { table = ended t q c; volume = v'; answers = map answer (opens_of q.id t.pended); messages = ms; note = n })
unfolding ended
ended_fair wanted p t v v' f q c answer ms n stand h = record {
  stand = each-filter (Stands wanted t.floor) (λ o. not (waits_for q.id o)) t.pended stand;
  explained = opens_get (IsExplained wanted p t v f t.floor) t q.id answer h;
}

-- each open that waits is refused
refused_fair : (wanted : Wanted) (p : Past) (t : Table) (v : Store) (f : FilterEvent) (floor : ℕ) (c : Cause) → IsByMode c → Stand wanted t.floor t.pended → ((id : MessageId) (n : ℕ) → Waits t id n → Explains p t v f n c)
    → Each (IsExplained wanted p t v f floor) (by_mode t v c t.pended)
refused_fair wanted p t v f floor c by stand why =
    each-map (IsExplained wanted p t v f floor) (λ (o : Pended). Among o t.pended) (refused_now t v c) (λ o a. explained-refused wanted p t v f floor t.mode _ c o.held (among_each (Stands wanted t.floor) t.pended o stand a).0 by (why o.question o.held.open_id (record { waiting = o; pended = a; number = refl; question = refl })))
    t.pended (each_self t.pended)

-- an open, on the table with the floor raised
module _ (wanted : Wanted) (p : Past) (t : Table) (v : Store) (down : List Letter) (fits : FilterFits p v.streams (core t) down) (stand : Stand wanted t.floor t.pended) (s least : ℕ) (now : wanted (next_open v) ≡ Some (record { stream = s; least = least })) where
  higher : Stand wanted (max t.floor least) t.pended
  higher = raised_floor wanted t.floor (max t.floor least) (omega arith) t.pended stand

  one_answer : (a : Answer) (t' : Table) → t'.floor ≡ max t.floor least → t'.pended ≡ t.pended → IsExplained wanted p t v (Opens s least) (max t.floor least) a → Fair wanted p t v (Opens s least) (answers_with t' (taken v) a)
  one_answer a t' fl pe h = record {
    stand = subst (λ n. Stand wanted n t'.pended) (sym fl) (subst (Stand wanted (max t.floor least)) (sym pe) higher);
    explained = (subst (λ n. IsExplained wanted p t v (Opens s least) n a) (sym fl) h, tt);
  }

  refusal : (c : Cause) (f : Stream) → IsByMode c → Explains p t v (Opens s least) (next_open v) c → Fair wanted p t v (Opens s least) (answers_with (raised least t) (taken v) (refused t.mode f.generation c (new_open (taken v) s least)))
  refusal c f by h = one_answer _ (raised least t) refl refl (explained-refused wanted p t v (Opens s least) _ t.mode _ c (new_open (taken v) s least) now by h)

  verdict_answer : (f : Stream) (r : Verdict) → stream_at s v.streams ≡ Some f → IsVerdictOf p s f.generation (max t.floor least) r → IsExplained wanted p t v (Opens s least) (max t.floor least) (judged r f.generation (max t.floor least) (new_open (taken v) s least))
  verdict_answer f Clean here h = (now, omega arith, refl)
  verdict_answer f (Infected i e) here h =
      let present = (present_content p.streams v.streams s f fits.present here).1 in
      let right = subst (λ g. IsVerdictOf p s g (max t.floor least) (Infected i e)) present h in (
        Explains.judged_now s least (max t.floor least) i e (omega arith) right,
        record { asked = record { stream = s; least = least }; wanted_is = now; version = max t.floor least; index = i; end_at = e; least = omega arith; found = right },
      )

  one_more : (t' : Table) (id : MessageId) (ms : List Letter) → t'.floor ≡ max t.floor least → t'.pended ≡ t.pended → Fair wanted p t v (Opens s least) (pends t' (taken v) s least id ms)
  one_more t' id ms fl pe = record {
    stand = subst (λ n. Stand wanted n (t'.pended ++ record { question = id; held = new_open (taken v) s least } ∷ [])) (sym fl)
        (each-append (Stands wanted (max t.floor least)) t'.pended (record { question = id; held = new_open (taken v) s least } ∷ []) (subst (Stand wanted (max t.floor least)) (sym pe) higher) ((now, omega arith), tt));
    explained = tt;
  }

  -- where it is asked about nothing
  hindered : (f : Stream) (c : Cause) → Hinders (raised least t) c
      → Fair wanted p t v (Opens s least) (answers_with (raised least t) (taken v) (refused t.mode f.generation c (new_open (taken v) s least)))
  hindered f _ why = elim why as (λ c i. Fair wanted p t v (Opens s least) (answers_with (raised least t) (taken v) (refused t.mode f.generation c (new_open (taken v) s least)))) [
    | Rows.full e ↦ refusal Busy f busy (Explains.opens_full s least (ltb-false (length t.pended) t.limits.pended e))
    | Rows.not_connected off ↦ refusal NotConnected f not_connected (Explains.not_connected s least off)
    | Rows.not_asked x on at ↦ refusal Busy f busy (no_ask x on (nat_lt (length t.questions) t.limits.questions && sequence_left t) refl at)
  ]
    where
      no_ask : (x : Port) → least_port t.connected ≡ Some x → (b : Bool) → (nat_lt (length t.questions) t.limits.questions && sequence_left t) ≡ b
          → (if b then least_port t.connected else None) ≡ None → Explains p t v (Opens s least) (next_open v) Busy
      no_ask x on true e none = let both : Some x ≡ None = sym on ∙ none in absurd (cc (both))
      no_ask x on false e none =
          elim (and_cases (nat_lt (length t.questions) t.limits.questions) (sequence_left t) e) [
            | inl full ↦ Explains.questions_full s least (ltb-false (length t.questions) t.limits.questions full)
            | inr h ↦ Explains.no_number s least (ltb-false t.sequence greatest h)
          ]

  open_fair : {r : Reaction} → OpenRow (raised least t) (taken v) s least r → Fair wanted p t v (Opens s least) r
  unfolding asks
  open_fair (Rows.no_stream at) = one_answer _ _ refl refl (Explains.no_stream s least at, tt)
  open_fair (Rows.known f r at known) =
      one_answer _ _ refl refl (verdict_answer f r at (current_right p v.streams s (max t.floor least) f r (context_of t.contexts s) (fits.contexts s) at known))
  open_fair (Rows.hindered f c at why) = hindered f c why
  open_fair (Rows.cached f e at none found) = one_answer _ _ refl refl (verdict_answer f e.verdict at (look_right p s f.generation (max t.floor least) t.cache e fits.cache found))
  open_fair _ = one_more _ _ _ refl refl

-- what asking one question again keeps of a table, and which opens may be there
record Kept (n : Table) (q : Question) (after : Table) : Type 0 where
  connected : after.connected ≡ n.connected
  floor : after.floor ≡ n.floor
  sequence : n.sequence ≤ after.sequence
  pended : (o : Pended) (k : Question) → k.id.seq ≤ n.sequence → Among o after.pended → waits_for k.id o ≡ true → Among o n.pended

among_filter : {A : Type 0} (test : A → Bool) (xs : List A) (x : A) → Among x (filter test xs) → Among x xs
among_filter test [] x a = a
among_filter test (y ∷ ys) x a =
    (elim (test y) as (λ b. Among x (if b then y ∷ filter test ys else filter test ys) → Among x (y ∷ ys)) [
      | true ↦ λ h. elim h [ inl e ↦ inl e | inr later ↦ inr (among_filter test ys x later) ]
      | false ↦ λ h. inr (among_filter test ys x h)
    ]) a

-- one that waits for an older question was not moved
moved_among : (old : MessageId) (n : Table) (ps : List Pended) (o : Pended) (k : Question) → k.id.seq ≤ n.sequence → Among o (map (moved old (next_id n)) ps) → waits_for k.id o ≡ true → Among o ps
moved_among old n [] o k low a w = a
moved_among old n (x ∷ ps) o k low (inr a) w = inr (moved_among old n ps o k low a w)
moved_among old n (x ∷ ps) o k low (inl e) w =
    inl ((elim (waits_for old x) as (λ b. o ≡ (if b then again_under (next_id n) x else x) → o ≡ x) [
      | true ↦ λ h.
          let id : next_id n ≡ k.id = ap (λ (z : Pended). z.question) (sym h) ∙ same_id-true o.question k.id w in
          let same : n.sequence + 1 ≡ k.id.seq = ap (λ (z : MessageId). z.seq) id in
          absurd (omega (arith, same, low))
      | false ↦ λ h. h
    ]) e)

again_kept : {to : Option Port} {n : Table} {v : Store} {q : Question} {r : Reaction} → AgainRow to n v q [] r → Kept n q r.table
unfolding ends asks ended
again_kept {to} {n} {v} {q} (Rows.anew port at can) = record {
  connected = refl;
  floor = refl;
  sequence = omega arith;
  pended = λ o k low a w. among_filter (λ x. not (is_lost q.id x)) n.pended o (moved_among q.id n (filter (λ x. not (is_lost q.id x)) n.pended) o k low a w);
}
again_kept {to} {n} {v} {q} (Rows.over why) = record {
  connected = refl;
  floor = refl;
  sequence = omega arith;
  pended = λ o k low a w. among_filter (λ x. not (waits_for q.id x)) n.pended o a;
}

among_behind : (front : List Question) (q : Question) (qs : List Question) → Among q (front ++ q ∷ qs)
among_behind [] q qs = inl refl
among_behind (k ∷ front) q qs = inr (among_behind front q qs)

among_low : (n : ℕ) (qs : List Question) (k : Question) → Among k qs → Each (λ (q : Question). q.id.seq ≤ n) qs → k.id.seq ≤ n
among_low n [] k a all = absurd a
among_low n (q ∷ qs) k (inl e) all = subst (λ (x : Question). x.id.seq ≤ n) (sym e) all.0
among_low n (q ∷ qs) k (inr a) all = among_low n qs k a all.1

-- one more question is walked
each_last : (t : Table) (v : Store) (front : List Question) (q : Question) → (again_each t v (front ++ q ∷ [])).table ≡ (again (again_each t v front).table v q []).table
unfolding again_each
each_last t v [] q = refl
each_last t v (k ∷ front) q = each_last (again t v k []).table v front q

nothing_walked : (t : Table) (v : Store) → (again_each t v []).table ≡ t
unfolding again_each
nothing_walked t v = refl

-- an earlier id is another
other_id : (i j : MessageId) → i.seq < j.seq → same_id i j ≡ false
other_id i j less = false_from_ne_true (same_id i j) (λ e. let same : i.seq ≡ j.seq = ap (λ (k : MessageId). k.seq) (same_id-true i j e) in omega (arith, same, less))

-- the question of an id on a port is the one of that id
found_on : (port : Port) (id : MessageId) (qs : List Question) (q : Question) → AreInOrder qs → question_on port id qs ≡ Some q → question_at q.id qs ≡ Some q
found_on port id [] q order at = absurd cc
found_on port id (k ∷ qs) q order at =
    (elim (same_id k.id id && same_port k.port port) as (λ b. (if b then Some k else question_on port id qs) ≡ Some q → question_at q.id (k ∷ qs) ≡ Some q) [
      | true ↦ λ h. let same : k ≡ q = cc in subst (λ (x : Question). question_at x.id (k ∷ qs) ≡ Some x) same (rw (same_id-refl k.id) refl)
      | false ↦ λ h.
          let later : k.id.seq < q.id.seq = find_each (λ (x : Question). k.id.seq < x.id.seq) (λ x. same_id x.id id && same_port x.port port) qs q order.0 h in
          rw (other_id k.id q.id later) (found_on port id qs q order.1 h)
    ]) at

-- an open that waits for it is of its stream
pub question_stream : {qs : List Question} (q : Question) (o : Pended) → question_at q.id qs ≡ Some q → IsAsked qs o → waits_for q.id o ≡ true → q.stream ≡ o.held.stream
question_stream {qs} q o at a waiting =
    let id : o.question ≡ q.id = same_id-true o.question q.id waiting in
    let both : Some a.question ≡ Some q = sym a.runs ∙ (ap (λ i. question_at i qs) id ∙ at) in
    let same : a.question ≡ q = cc (both) in
    ap (λ (x : Question). x.stream) (sym same) ∙ a.stream

-- the other events
module _ (wanted : Wanted) (p : Past) (t : Table) (v : Store) (down : List Letter) (fits : FilterFits p v.streams (core t) down) (sits : IsCoherent t) (runs_on : RunOnOpen t) (stand : Stand wanted t.floor t.pended) where
  submitted_so : (o : Pended) → Among o t.pended → wanted o.held.open_id ≡ Some (record { stream = o.held.stream; least = o.held.least })
  submitted_so o a = (among_each (Stands wanted t.floor) t.pended o stand a).0

  left_for : (test : Question → Bool) (q : Question) → find test t.questions ≡ Some q → (least : Port) × (least_port t.connected ≡ Some least)
  left_for test q at = port_left t.connected q.port (find_each (λ (k : Question). is_open k.port t.connected ≡ true) test t.questions q runs_on at)

  -- what a reply that judges a question says of its content
  replied_fair : (port : Port) (id : MessageId) (version : ℕ) (r : Verdict) (q : Question) → question_on port id t.questions ≡ Some q → t.floor ≤ version
      → OutcomeFits p down port id (Judged version r)
      → Each (IsExplained wanted p t v (Receives (via port (Reply id (Judged version r)))) version) (all_judged r q.generation version (opens_of q.id t.pended))
  replied_fair port id version r q at up h =
      let run : Runs p v.streams down q = runs p v.streams (core t) down (λ q. same_id q.id id && same_port q.port port) q fits at in
      let same : q.id ≡ id = same_id-true q.id id (and_parts (same_id q.id id) (same_port q.port port) (find_passes (λ (q : Question). same_id q.id id && same_port q.port port) t.questions q at)).0 in
      let told = sym h.told ∙ subst (λ i. asked down i ≡ Some (about q.port q.stream q.generation (length run.file.bytes))) same run.told in
      let about_it : h.of ≡ about q.port q.stream q.generation (length run.file.bytes) = cc (told) in
      let right : IsVerdictOf p q.stream q.generation version r = subst (λ (a : Asked). IsVerdictOf p a.stream a.generation version r) about_it h.right in
      opens_get (IsExplained wanted p t v (Receives (via port (Reply id (Judged version r)))) version) t q.id (λ (o : Pended). judged r q.generation version o.held) (λ o a w.
      let stands : Stands wanted t.floor o = among_each (Stands wanted t.floor) t.pended o stand a in
      by_verdict o (waits t q.id o a w) refl (question_stream q o (found_on port id t.questions q sits.orderly.order at) (among_each (IsAsked t.questions) t.pended o sits.asked a) w) stands.0 (omega (arith, stands.1, up)) r (subst (λ g. IsVerdictOf p q.stream g version r) run.present right))
    where
      by_verdict : (o : Pended) (w : Waits t q.id o.held.open_id) → w.waiting ≡ o → q.stream ≡ o.held.stream → wanted o.held.open_id ≡ Some (record { stream = o.held.stream; least = o.held.least }) → o.held.least ≤ version → (x : Verdict) → IsVerdictOf p q.stream (generation_of p.streams q.stream) version x
          → IsExplained wanted p t v (Receives (via port (Reply id (Judged version r)))) version (judged x q.generation version o.held)
      by_verdict o w is of so least Clean right = (so, least, refl)
      by_verdict o w is of so least (Infected i e) right = (
        Explains.judged_late port id (Judged version r) q o.held.open_id version i e at w (subst (λ (z : Pended). z.held.least ≤ version) (sym is) least) right,
        record {
          asked = record { stream = o.held.stream; least = o.held.least };
          wanted_is = so;
          version = version;
          index = i;
          end_at = e;
          least = least;
          found = subst (λ s. IsVerdictOf p s (generation_of p.streams s) version (Infected i e)) of right;
        },
      )

  -- ---- a port is lost

  -- what stays of a table while its questions are walked
  walk : (port other : Port) → least_port (without_port port t.connected) ≡ Some other → (front qs : List Question) (now_table : Table) → on_port port t.questions ≡ front ++ qs → (again_each (without t port) v front).table ≡ now_table
      → now_table.connected ≡ without_port port t.connected → now_table.floor ≡ t.floor → Stand wanted t.floor now_table.pended → AreInOrder qs → Each (λ q. q.id.seq ≤ now_table.sequence) qs
      → ((o : Pended) (k : Question) → Among k qs → Among o now_table.pended → waits_for k.id o ≡ true → Among o t.pended)
      → Stand wanted t.floor (again_each now_table v qs).table.pended × ((again_each now_table v qs).table.floor ≡ t.floor) × Each (IsExplained wanted p t v (Disconnects port) t.floor) (again_each now_table v qs).answers
  unfolding again_each
  walk port other left front [] n is at on fl l order low stays = (l, fl, tt)
  walk port other left front (q ∷ qs) n is at on fl l order low stays =
      let r : Reaction = again n v q [] in
      let to : least_port n.connected ≡ Some other = ap least_port on ∙ left in
      let moves : Moves t port = (other, left) in
      let here : Walked wanted p t v (Disconnects port) n r =
      again_walked wanted p t n v v (Disconnects port) other to q [] (subst (λ k. Stand wanted k n.pended) (sym fl) l)
      (λ o a w le. Explains.unsettled_lost port q o.held.open_id moves (subst (Among q) (sym is) (among_behind front q qs)) (waits t q.id o (stays o q (inl refl) a w) w) le)
      (λ o a w le. Explains.no_number_lost port front qs q o.held.open_id moves is (waits t q.id o (stays o q (inl refl) a w) w) (subst (λ (x : Table). greatest ≤ x.sequence) (sym at) le))
      (again_row (least_port n.connected) n v q []) in
      let kept : Kept n q r.table = again_kept (again_row (least_port n.connected) n v q []) in
      let next = walk port other left (front ++ q ∷ []) qs r.table (is ∙ sym (append_assoc front (q ∷ []) qs)) (each_last (without t port) v front q ∙ ap (λ (x : Table). (again x v q []).table) at) (kept.connected ∙ on) (kept.floor ∙ fl)
      (subst (λ k. Stand wanted k r.table.pended) fl here.stand) order.1 (each_weaker (λ (k : Question). k.id.seq ≤ n.sequence) (λ (k : Question). k.id.seq ≤ r.table.sequence) (λ k le. omega (arith, le, kept.sequence)) qs low.1)
      (λ o k among a w. stays o k (inr among) (kept.pended o k (among_low n.sequence qs k among low.1) a w) w) in
      (next.0, next.1, each-append (IsExplained wanted p t v (Disconnects port) t.floor) r.answers (again_each r.table v qs).answers (subst (λ k. Each (IsExplained wanted p t v (Disconnects port) k) r.answers) fl here.explained) next.2)

  moved_fair : (port other : Port) → least_port (without_port port t.connected) ≡ Some other → Fair wanted p t v (Disconnects port) (moves (without t port) v (on_port port t.questions))
  unfolding moves
  moved_fair port other left =
      let qs : List Question = on_port port t.questions in
      let w = walk port other left [] qs (without t port) refl (nothing_walked (without t port) v) refl refl stand (order-filter (λ q. same_port q.port port) t.questions sits.orderly.order)
      (each-filter (λ (q : Question). q.id.seq ≤ t.sequence) (λ q. same_port q.port port) t.questions (each_weaker (IsGiven t.boot t.sequence) (λ (q : Question). q.id.seq ≤ t.sequence) (λ q h. h.high) t.questions sits.orderly.given)) (λ o k among a w. a) in
      record {
        stand = subst (λ k. Stand wanted k (again_each (without t port) v qs).table.pended) (sym w.1) w.0;
        explained = order_just (IsExplained wanted p t v (Disconnects port) (again_each (without t port) v qs).table.floor) (again_each (without t port) v qs).answers (subst (λ k. Each (IsExplained wanted p t v (Disconnects port) k) (again_each (without t port) v qs).answers) (sym w.1) w.2);
      }

  row_fair : {f : FilterEvent} {r : Reaction} → Row t v f r → Submits wanted v f → Comes p down t v f → Fair wanted (past_filter p f) t v f r
  unfolding ended loses_all restarts asks
  row_fair (Rows.opens s least r row) now h = open_fair wanted p t v down fits stand s least now row
  row_fair (Rows.outdated c s k of at) now h =
      again_fair wanted _ t v _ _ k _ (left_for (λ (x : Question). x.stream == s) k at) stand
      (λ x w a e le. Explains.unsettled_changed c s k x.held.open_id of at (waits t k.id x a e) le) (λ n w le. Explains.no_number_changed c s k n of at w le)
  row_fair (Rows.gone s k at) now h =
      ended_fair wanted _ t v _ _ k None (λ (o : Pended). denied StreamRemoved o.held) _ _ stand (λ x a w. (Explains.removed s k x.held.open_id at (waits t k.id x a w), tt))
  row_fair (Rows.greeted port number version same free up) now h = quiet_fair wanted p t v _ _ (raised_floor wanted t.floor version (ltb-false version t.floor up) t.pended stand) refl
  row_fair (Rows.updated port version) now h = quiet_fair wanted p t v _ _ (raised_floor wanted t.floor (max t.floor version) (omega arith) t.pended stand) refl
  row_fair (Rows.failed port id why q at) now h =
      ended_fair wanted p t v v _ q (Some context.Modified) _ _ _ stand (λ x a w. explained-refused wanted p t v _ _ t.mode _ ScanFailed x.held (submitted_so x a) failed
      (Explains.failed port id q why x.held.open_id at (waits t q.id x a w)))
  row_fair (Rows.stale port id version r q at low) now h =
      let old : version < t.floor = ltb-true version t.floor low in
      again_fair wanted p t v v _ q _ (left_for (λ (k : Question). same_id k.id id && same_port k.port port) q at) stand
      (λ x w a k le. Explains.unsettled_stale port id q version r x.held.open_id at old (waits t q.id x a k) le) (λ n w le. Explains.no_number_stale port id q version r n at old w le)
  row_fair (Rows.replied port id version r q at high) now h =
      let up : t.floor ≤ version = ltb-false version t.floor high in
      record {
        stand = each-filter (Stands wanted version) (λ o. not (waits_for q.id o)) t.pended (raised_floor wanted t.floor version up t.pended stand);
        explained = replied_fair port id version r q at up h;
      }
  row_fair (Rows.timed_out seq q at) now h =
      let id : MessageId = record { boot = t.boot; seq = seq } in
      let same : q.id ≡ id = same_id-true q.id id (find_passes (λ (q : Question). same_id q.id id) t.questions q at) in
      ended_fair wanted p t v v _ q (Some context.Modified) _ _ _ stand (λ x a w. explained-refused wanted p t v _ _ t.mode _ TimedOut x.held (submitted_so x a) timed_out
      (Explains.timed_out seq x.held.open_id (waits_as t q.id id x same a w)))
  row_fair (Rows.moved port other left) now h = moved_fair port other left
  row_fair (Rows.lost port none) now h = record {
    stand = tt;
    explained = refused_fair wanted p t v (Disconnects port) t.floor PortDisconnected disconnected stand (λ id n w. Explains.disconnected port id n none w);
  }
  row_fair Rows.restarted now h = record { stand = tt; explained = refused_fair wanted p t v Restarts 0 FilterRestart restarted stand Explains.restarted }
  row_fair _ now h = quiet_fair wanted _ t v _ _ stand refl

  pub filter_fair : (f : FilterEvent) → Submits wanted v f → Comes p down t v f → Fair wanted (past_filter p f) t v f (filter_step t v f)
  filter_fair f now h = row_fair (row_of t v f) now h

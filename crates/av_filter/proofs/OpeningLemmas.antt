-- What becomes of an open, case by case.
use Rattle.std.proofs.Common.{◌≡◌, ◌++◌, IfOk, Result, Ok, Err, ℕ, ◌+◌, ◌<◌, ◌≤◌, ◌∷◌, [], true, false, max, is_some, Option, None, Some, refl, sym, ap, ◌∙◌, subst, arith}
use Rattle.std.specs.List.{AllByRecursion as Each}
use Rattle.std.specs.Option.{option_map}
use Rattle.av_base.specs.declared.port.Port.{Port}
use Rattle.av_base.specs.declared.cause.Cause.{Cause}
use Rattle.av_base.specs.declared.cause.Cause.TheVariants.{NoStream, NotConnected, Busy}
use Rattle.av_base.specs.declared.verdict.Verdict.{Verdict}
use Rattle.av_cache.specs.Cache.{look, in_front, moved, verdict_of}
use Rattle.av_cache.specs.declared.entry.Entry.{Entry}
use Rattle.av_context.specs.Contexts.{set_at}
use Rattle.av_context.specs.declared.context_state.ContextState.TheVariants.{Judged, Scanning}
use Rattle.av_filter.proofs.ClosingLemmas.{own_id}
use Rattle.av_filter.proofs.EachLemmas.{each-map}
use Rattle.av_filter.specs.Again.{scan_message}
use Rattle.av_filter.specs.Arriving.{IsAnswered, IsArrival}
use Rattle.av_filter.specs.Call.{Reacts}
use Rattle.av_filter.specs.Fit.{Fits}
use Rattle.av_filter.specs.Opening.{answers_with, new_open, open_asked, open_cached, open_found, open_judged, open_new, opened, pends, taken}
use Rattle.av_filter.specs.Ready.{IsRunning}
use Rattle.av_filter.specs.declared.note.Note.TheVariants.{Submitted}
use Rattle.av_filter.specs.declared.opening.Arrival.{Arrival}
use Rattle.av_filter.specs.declared.out.Out.{Out}
use Rattle.av_filter_table.specs.Answering.{judged, present_generation, stream_generation}
use Rattle.av_filter_table.specs.Asking.{asks}
use Rattle.av_filter_table.specs.FilterTable.{id_of, open_numbers}
use Rattle.av_filter_table.specs.Ports.{least_port}
use Rattle.av_filter_table.specs.Table.{Table, asking, context_of, current, has_room, next_id, question_of, raised}
use Rattle.av_filter_table.specs.declared.pended.Pended.{Pended}
use Rattle.av_filter_table.specs.declared.question.Question.{Question}
use Rattle.av_pend.specs.Pend.{denied, refused, waiting_from}
use Rattle.av_pend.specs.declared.answer.Answer.{Answer}
use Rattle.av_frame.specs.Message.{Letter}
use Rattle.av_store.specs.Rows.{stream_at}
use Rattle.av_store.specs.Store.{Store}
use Rattle.av_store.specs.declared.stream.Stream.{Stream}

-- the floor that an open finds
abbrev pub floor_at : Table → ℕ → ℕ
floor_at t least = max t.floor least

pub opened_away : (t : Table) (v : Store) (s least : ℕ) → stream_at s v.streams ≡ None
    → opened t v s least ≡ answers_with (raised least t) (taken v) (denied NoStream (new_open (taken v) s least))
unfolding opened open_found
opened_away t v s least away = rw away refl

pub opened_judged : (t : Table) (v : Store) (s least : ℕ) (x : Stream) (r : Verdict) → stream_at s v.streams ≡ Some x → current (context_of t.contexts s) (floor_at t least) ≡ Some r
    → opened t v s least ≡ answers_with (raised least t) (taken v) (judged r x.generation (floor_at t least) (new_open (taken v) s least))
unfolding opened open_found open_judged
opened_judged t v s least x r there known = ap (open_found (raised least t) (taken v) s least) there ∙ ap (open_judged (raised least t) (taken v) s least x) known

-- an open of which no verdict is known
unjudged : (t : Table) (v : Store) (s least : ℕ) (x : Stream) → stream_at s v.streams ≡ Some x → current (context_of t.contexts s) (floor_at t least) ≡ None
    → opened t v s least ≡ open_asked (raised least t) (taken v) s least x (question_of s t.questions)
unfolding opened open_found open_judged
unjudged t v s least x there known = ap (open_found (raised least t) (taken v) s least) there ∙ ap (open_judged (raised least t) (taken v) s least x) known

pub opened_joined : (t : Table) (v : Store) (s least : ℕ) (x : Stream) (q : Question) → stream_at s v.streams ≡ Some x → current (context_of t.contexts s) (floor_at t least) ≡ None → question_of s t.questions ≡ Some q → has_room t ≡ true
    → opened t v s least ≡ pends (raised least t) (taken v) s least q.id []
unfolding open_asked
opened_joined t v s least x q there known runs room = unjudged t v s least x there known ∙ ap (open_asked (raised least t) (taken v) s least x) runs ∙ rw room refl

pub opened_crowded : (t : Table) (v : Store) (s least : ℕ) (x : Stream) (q : Question) → stream_at s v.streams ≡ Some x → current (context_of t.contexts s) (floor_at t least) ≡ None → question_of s t.questions ≡ Some q → has_room t ≡ false
    → opened t v s least ≡ answers_with (raised least t) (taken v) (refused t.mode x.generation Busy (new_open (taken v) s least))
unfolding open_asked
opened_crowded t v s least x q there known runs room = unjudged t v s least x there known ∙ ap (open_asked (raised least t) (taken v) s least x) runs ∙ rw room refl

-- one of which no question runs
unasked : (t : Table) (v : Store) (s least : ℕ) (x : Stream) → stream_at s v.streams ≡ Some x → current (context_of t.contexts s) (floor_at t least) ≡ None → question_of s t.questions ≡ None
    → opened t v s least ≡ open_cached (raised least t) (taken v) s least x (look s x.generation (floor_at t least) t.cache)
unfolding open_asked
unasked t v s least x there known none = unjudged t v s least x there known ∙ ap (open_asked (raised least t) (taken v) s least x) none

pub opened_cached : (t : Table) (v : Store) (s least : ℕ) (x : Stream) (e : Entry) → stream_at s v.streams ≡ Some x → current (context_of t.contexts s) (floor_at t least) ≡ None → question_of s t.questions ≡ None → look s x.generation (floor_at t least) t.cache ≡ Some e
    → opened t v s least ≡ answers_with (record (raised least t) { contexts = set_at t.contexts s (Some (Judged (floor_at t least) e.verdict)); cache = in_front e t.cache }) (taken v) (judged e.verdict x.generation (floor_at t least) (new_open (taken v) s least))
unfolding open_cached
opened_cached t v s least x e there known none hit = unasked t v s least x there known none ∙ ap (open_cached (raised least t) (taken v) s least x) hit

-- one of which the cache knows nothing: there is no room, the service is away, no question can be asked, or one is
pub opened_full : (t : Table) (v : Store) (s least : ℕ) (x : Stream) → stream_at s v.streams ≡ Some x → current (context_of t.contexts s) (floor_at t least) ≡ None → question_of s t.questions ≡ None → look s x.generation (floor_at t least) t.cache ≡ None → has_room t ≡ false
    → opened t v s least ≡ answers_with (raised least t) (taken v) (refused t.mode x.generation Busy (new_open (taken v) s least))
unfolding open_cached
opened_full t v s least x there known none miss room = unasked t v s least x there known none ∙ ap (open_cached (raised least t) (taken v) s least x) miss ∙ rw room refl

-- one that would be asked about: whether a port is connected, and where a question can be asked
unknown : (t : Table) (v : Store) (s least : ℕ) (x : Stream) → stream_at s v.streams ≡ Some x → current (context_of t.contexts s) (floor_at t least) ≡ None → question_of s t.questions ≡ None → look s x.generation (floor_at t least) t.cache ≡ None → has_room t ≡ true
    → opened t v s least ≡ open_new (raised least t) (taken v) s least x (is_some (least_port t.connected)) (asking t)
unfolding open_cached
unknown t v s least x there known none miss room = unasked t v s least x there known none ∙ ap (open_cached (raised least t) (taken v) s least x) miss ∙ rw room refl

pub opened_apart : (t : Table) (v : Store) (s least : ℕ) (x : Stream) → stream_at s v.streams ≡ Some x → current (context_of t.contexts s) (floor_at t least) ≡ None → question_of s t.questions ≡ None → look s x.generation (floor_at t least) t.cache ≡ None → has_room t ≡ true → is_some (least_port t.connected) ≡ false
    → opened t v s least ≡ answers_with (raised least t) (taken v) (refused t.mode x.generation NotConnected (new_open (taken v) s least))
unfolding open_new
opened_apart t v s least x there known none miss room away = unknown t v s least x there known none miss room ∙ ap (λ b. open_new (raised least t) (taken v) s least x b (asking t)) away

pub opened_busy : (t : Table) (v : Store) (s least : ℕ) (x : Stream) → stream_at s v.streams ≡ Some x → current (context_of t.contexts s) (floor_at t least) ≡ None → question_of s t.questions ≡ None → look s x.generation (floor_at t least) t.cache ≡ None → has_room t ≡ true → is_some (least_port t.connected) ≡ true → asking t ≡ None
    → opened t v s least ≡ answers_with (raised least t) (taken v) (refused t.mode x.generation Busy (new_open (taken v) s least))
unfolding open_new
opened_busy t v s least x there known none miss room near can = unknown t v s least x there known none miss room ∙ (λ i. open_new (raised least t) (taken v) s least x (near i) (can i))

pub opened_asked : (t : Table) (v : Store) (port : Port) (s least : ℕ) (x : Stream) → stream_at s v.streams ≡ Some x → current (context_of t.contexts s) (floor_at t least) ≡ None → question_of s t.questions ≡ None → look s x.generation (floor_at t least) t.cache ≡ None → has_room t ≡ true → is_some (least_port t.connected) ≡ true → asking t ≡ Some port
    → opened t v s least ≡ pends (asks (raised least t) (taken v) port s) (taken v) s least (next_id t) (scan_message t (taken v) port s ∷ [])
unfolding open_new
opened_asked t v port s least x there known none miss room near can = unknown t v s least x there known none miss room ∙ (λ i. open_new (raised least t) (taken v) s least x (near i) (can i))

-- the next open number is above those that were given
pub numbers_below : (t : Table) (v : Store) (n : ℕ) → Fits t v → n ≡ v.opens + 1 → Each (λ k. k < n) (open_numbers t.pended)
numbers_below t v n fits is =
    each-map (λ k. k < n) (λ (p : Pended). p.held.open_id ≤ v.opens) (λ p. p.held.open_id) (λ p high. let low : p.held.open_id ≤ v.opens = high in omega arith) t.pended fits.taken

-- a hit of the cache
pub record Hit (o : Option Entry) (r : Verdict) : Type 0 where
  pub entry : Entry
  pub found : o ≡ Some entry
  pub verdict : entry.verdict ≡ r

pub hit_of : (o : Option Entry) (r : Verdict) → Some r ≡ option_map verdict_of o → Hit o r
hit_of None r e = absurd (cc (e))
hit_of (Some x) r e = let same : x.verdict ≡ r = cc (e) in record { entry = x; found = refl; verdict = same }

-- what holds of an answer, where there is one
pub if_ok : {A E : Type 0} (r : Result A E) (P Q : A → Type 0) → ((a : A) → P a → Q a) → IfOk r P → IfOk r Q
if_ok (Ok a) P Q f p = f a p
if_ok (Err e) P Q f p = tt

pub not_there : (v : Store) (s : ℕ) → None ≡ option_map (λ (x : Stream). x.generation) (stream_at s v.streams) → stream_at s v.streams ≡ None
not_there v s e = go (stream_at s v.streams) e
  where
    go : (o : Option Stream) → None ≡ option_map (λ (x : Stream). x.generation) o → o ≡ None
    go None e = refl
    go (Some x) e = absurd (cc (e))

pub arrives : (a : Arrival) (t : Table) (v : Store) → Some a.generation ≡ option_map (λ (x : Stream). x.generation) (stream_at a.stream v.streams) → a.open_id ≡ v.opens + 1 → a.floor ≡ max t.floor a.least → IsArrival a t v
arrives a t v e number floor = go (stream_at a.stream v.streams) refl e
  where
    go : (o : Option Stream) → stream_at a.stream v.streams ≡ o → Some a.generation ≡ option_map (λ (x : Stream). x.generation) o → IsArrival a t v
    go None there e = absurd (cc (e))
    go (Some x) there e = record { present = x; there = there; generation = cc (e); open_id = number; floor = floor }

-- an open that is answered at once
pub answered : (out : Out) (t t' : Table) (v : Store) (s least n : ℕ) (a b : Answer) → n ≡ v.opens + 1 → b ≡ a → IsAnswered out t t' n least b → opened t v s least ≡ answers_with (raised least t) (taken v) a → Reacts out t' (taken v) (opened t v s least)
answered out t t' v s least n a b number same is by =
    subst (Reacts out t' (taken v)) (sym by) (record { answers = is.answers ∙ ap (λ x. x ∷ []) same; messages = is.messages; note = is.note ∙ ap Submitted number; table = is.table; volume = refl })

-- its waiting value, and what it is told by the mode or by a verdict
pub same_refusal : (a : Arrival) (t : Table) (v : Store) (why : Cause) (i : IsArrival a t v) → refused t.mode a.generation why (waiting_from a.open_id a.stream a.least) ≡ refused t.mode i.present.generation why (new_open (taken v) a.stream a.least)
same_refusal a t v why i = λ j. refused t.mode (i.generation j) why (waiting_from (i.open_id j) a.stream a.least)

pub same_verdict : (a : Arrival) (t : Table) (v : Store) (r : Verdict) (i : IsArrival a t v) → judged r a.generation a.floor (waiting_from a.open_id a.stream a.least) ≡ judged r i.present.generation (floor_at t a.least) (new_open (taken v) a.stream a.least)
same_verdict a t v r i = λ j. judged r (i.generation j) (i.floor j) (waiting_from (i.open_id j) a.stream a.least)

-- no verdict is known, at the floor of the definitions; and so the cache
pub at_floor : (a : Arrival) (t : Table) (v : Store) (o : Option Verdict) → IsArrival a t v → current (context_of t.contexts a.stream) a.floor ≡ o → current (context_of t.contexts a.stream) (floor_at t a.least) ≡ o
at_floor a t v o i known = ap (current (context_of t.contexts a.stream)) (sym i.floor) ∙ known

pub cached_at : (a : Arrival) (t : Table) (v : Store) (o : Option Entry) (i : IsArrival a t v) → look a.stream a.generation a.floor t.cache ≡ o → look a.stream i.present.generation (floor_at t a.least) t.cache ≡ o
cached_at a t v o i found = (λ j. look a.stream (sym i.generation j) (sym i.floor j) t.cache) ∙ found

-- a verdict of the cache
pub known : (out : Out) (t t1 t2 t3 : Table) (v : Store) (a : Arrival) (r : Verdict) (i : IsArrival a t v) → current (context_of t.contexts a.stream) a.floor ≡ None → question_of a.stream t.questions ≡ None
    → Some r ≡ option_map verdict_of (look a.stream a.generation a.floor t.cache)
    → t1 ≡ record t { contexts = set_at t.contexts a.stream (Some (Judged a.floor r)) } → t2 ≡ record t1 { cache = moved (look a.stream a.generation a.floor t1.cache) t1.cache } → t3 ≡ raised a.least t2
    → out.answers.items ≡ judged r a.generation a.floor (waiting_from a.open_id a.stream a.least) ∷ [] → out.messages.items ≡ [] → out.note ≡ Submitted a.open_id
    → Reacts out t3 (taken v) (opened t v a.stream a.least)
known out t t1 t2 t3 v a r i unjudged unasked found set looked up answers messages note =
    let s = a.stream in
    let h = hit_of (look s a.generation a.floor t.cache) r found in
    let e = h.entry in
    let first : Table = record t { contexts = set_at t.contexts s (Some (Judged a.floor r)) } in
    let left : t3 ≡ raised a.least (record first { cache = in_front e t.cache }) =
    up ∙ ap (raised a.least) (looked ∙ (ap (λ (u : Table). record u { cache = moved (look s a.generation a.floor u.cache) u.cache }) set ∙ ap (λ o. record first { cache = moved o t.cache }) h.found)) in
    let by = opened_cached t v s a.least i.present e i.there (at_floor a t v None i unjudged) unasked (cached_at a t v (Some e) i h.found) in
    let near : answers_with (record (raised a.least t) { contexts = set_at t.contexts s (Some (Judged a.floor r)); cache = in_front e t.cache }) (taken v) (judged r a.generation a.floor (waiting_from a.open_id s a.least)) ≡ opened t v s a.least =
    (λ j. answers_with (record (raised a.least t) { contexts = set_at t.contexts s (Some (Judged (i.floor j) (sym h.verdict j))); cache = in_front e t.cache }) (taken v) (judged (sym h.verdict j) (i.generation j) (i.floor j) (waiting_from (i.open_id j) s a.least)))
    ∙ sym by in
    subst (Reacts out t3 (taken v)) near (record { answers = answers; messages = messages; note = note ∙ ap Submitted i.open_id; table = left; volume = refl })

-- an open that waits for the scan that runs
pub joined : (out : Out) (t t1 t2 : Table) (v : Store) (a : Arrival) (q : Question) (i : IsArrival a t v) → current (context_of t.contexts a.stream) a.floor ≡ None → question_of a.stream t.questions ≡ Some q → IsRunning t q → has_room t ≡ true
    → t1 ≡ record t { pended = t.pended ++ record { question = id_of t.boot q.id.seq; held = waiting_from a.open_id a.stream a.least } ∷ [] } → t2 ≡ raised a.least t1
    → out.answers.items ≡ [] → out.messages.items ≡ [] → out.note ≡ Submitted a.open_id
    → Reacts out t2 (taken v) (opened t v a.stream a.least)
joined out t t1 t2 v a q i unjudged asked runs room added up answers messages note =
    let s = a.stream in
    let by = opened_joined t v s a.least i.present q i.there (at_floor a t v None i unjudged) asked room in
    let left : t2 ≡ (pends (raised a.least t) (taken v) s a.least q.id []).table =
    up ∙ (ap (raised a.least) added ∙ (λ j. record (raised a.least t) { pended = t.pended ++ record { question = own_id t q runs j; held = waiting_from (i.open_id j) s a.least } ∷ [] })) in
    subst (Reacts out t2 (taken v)) (sym by) (record { answers = answers; messages = messages; note = note ∙ ap Submitted i.open_id; table = left; volume = refl })

-- an open for which a question is asked
pub asked : (out : Out) (t t1 t2 : Table) (v : Store) (port : Port) (a : Arrival) (m : Letter) (i : IsArrival a t v) → current (context_of t.contexts a.stream) a.floor ≡ None → question_of a.stream t.questions ≡ None
    → look a.stream a.generation a.floor t.cache ≡ None → has_room t ≡ true → is_some (least_port t.connected) ≡ true → asking t ≡ Some port
    → t1 ≡ record t {
      sequence = t.sequence + 1;
      contexts = set_at t.contexts a.stream (Some (Scanning (next_id t)));
      questions = t.questions ++ record { id = next_id t; port = port; stream = a.stream; generation = a.generation } ∷ [];
      pended = t.pended ++ record { question = next_id t; held = waiting_from a.open_id a.stream a.least } ∷ [];
    }
    → t2 ≡ raised a.least t1
    → out.answers.items ≡ [] → out.messages.items ≡ m ∷ [] → m ≡ scan_message t v port a.stream → out.note ≡ Submitted a.open_id
    → Reacts out t2 (taken v) (opened t v a.stream a.least)
unfolding asks
asked out t t1 t2 v port a m i unjudged unasked miss room near can made up answers messages is note =
    let s = a.stream in
    let by = opened_asked t v port s a.least i.present i.there (at_floor a t v None i unjudged) unasked (cached_at a t v None i miss) room near can in
    let generation : a.generation ≡ present_generation v s = i.generation ∙ ap stream_generation (sym i.there) in
    let left : t2 ≡ (pends (asks (raised a.least t) (taken v) port s) (taken v) s a.least (next_id t) (scan_message t (taken v) port s ∷ [])).table =
    up ∙ (ap (raised a.least) made
    ∙ (λ j. record (raised a.least t) {
      sequence = t.sequence + 1;
      contexts = set_at t.contexts s (Some (Scanning (next_id t)));
      questions = t.questions ++ record { id = next_id t; port = port; stream = s; generation = generation j } ∷ [];
      pended = t.pended ++ record { question = next_id t; held = waiting_from (i.open_id j) s a.least } ∷ [];
    })) in
    subst (Reacts out t2 (taken v)) (sym by) (record { answers = answers; messages = messages ∙ ap (λ x. x ∷ []) is; note = note ∙ ap Submitted i.open_id; table = left; volume = refl })

-- The invariant of the filter's side: what its table holds fits what the streams have held, and what was sent is true.
use Rattle.std.proofs.Common.{◌≡◌, ◌≢◌, ℕ, ◌+◌, ◌<◌, Bool, false, not, ◌==◌, List, [], ◌∷◌, ◌++◌, length, take, drop, map, find, Option, Some, None, Ok, refl, sym, ap, ◌∙◌, subst, arith, inl, inr, ◌⊎◌, true, is_some}
use Rattle.std.specs.List.{AllByRecursion as Each}
use Rattle.std.proofs.lemmas.Bool.{cases_eq, ne_eqb, and_left, and_right}
use Rattle.av_base.proofs.KeyLemmas.{same_id-true}
use Rattle.av_base.specs.MessageId.{same_id}
use Rattle.av_base.specs.declared.message_id.MessageId.{MessageId}
use Rattle.av_base.specs.declared.verdict.Verdict.{Verdict}
use Rattle.av_cache.specs.declared.entry.Entry.{Entry}
use Rattle.av_context.specs.Contexts.{set_at}
use Rattle.av_context.specs.declared.context_state.ContextState.{ContextState}
use Rattle.av_context.specs.declared.context_state.ContextState.TheVariants as context
use Rattle.av_filter.proofs.MapLemmas.{at-set, at-set_other, rises-set}
use Rattle.av_filter_table.specs.Orderly.{AreApart, Rises}
pub use Rattle.av_filter_table.specs.Orderly.{IsScanned}
use Rattle.av_filter_table.specs.Asking.{lost_contexts}
use Rattle.av_filter_table.specs.Answering.{stream_bytes, stream_generation}
use Rattle.av_filter_table.specs.Table.{Table, context_of, question_of, without_question}
use Rattle.av_filter_table.specs.declared.question.Question.{Question}
use Rattle.av_frame.specs.declared.message.Body.{Body}
use Rattle.av_frame.specs.Message.{Letter, via}
use Rattle.av_base.specs.declared.port.Port.{Port}
use Rattle.av_frame.specs.declared.message.Body.TheVariants.{Scan, Chunk, Reply}
use Rattle.av_frame.specs.declared.outcome.Outcome.{Outcome}
use Rattle.av_frame.specs.declared.outcome.Outcome.TheVariants.{Judged, Failed}
use Rattle.av_sigset.specs.Publication.{published_as}
use Rattle.av_sigset.specs.declared.signature.Pattern.{Pattern}
use Rattle.av_store.proofs.HistoryLemmas.{content_grows}
use Rattle.av_store.proofs.SeenLemmas.{kept_change}
use Rattle.av_store.specs.Files.{Change, Create}
use Rattle.av_store.specs.History.{IsOf, content, now}
use Rattle.av_store.specs.Rows.{Streams, stream_at}
use Rattle.av_store.specs.Seen.{Keeps, change_of, seen}
use Rattle.av_store.specs.Store.{Store}
use Rattle.av_store.specs.declared.stream.Stream.{Stream}
use Rattle.av_filter.proofs.QuestionLemmas.{apart-filter, apart-push, away_none, away_without}
use Rattle.av_history.proofs.AskedLemmas.{asked_more, asked_new, once-append, one_once, plain_once, some_none, asked_scan, asked_scan_other, IsPlain}
use Rattle.av_history.proofs.ContentLemmas.{present_content, stream_away, stream_stays}
use Rattle.av_filter.proofs.EachLemmas.{each_weaker, each-append, each-filter}
use Rattle.av_history.specs.Whole.{ScanOnce}
use Rattle.av_history.specs.Held.{Asked, asked}
use Rattle.av_history.specs.Past.{Past, changes, IsVerdictOf, IsRightEntry}

-- a later past has all contents and sets of an earlier one
pub record Grown (p p' : Past) : Type 0 where
  pub contents : (s g : ℕ) (c : List ℕ) → content p.streams s g ≡ Some c → content p'.streams s g ≡ Some c
  pub sets : (v : ℕ) (set : List Pattern) → published_as p.sets v ≡ Some set → published_as p'.sets v ≡ Some set

pub right_grows : (p p' : Past) (s g v : ℕ) (r : Verdict) → Grown p p' → IsVerdictOf p s g v r → IsVerdictOf p' s g v r
right_grows p p' s g v r up h = record { patterns = h.patterns; bytes = h.bytes; published = up.sets v h.patterns h.published; held = up.contents s g h.bytes h.held; right = h.right }

pub same_past : (p : Past) → Grown p p
same_past p = record { contents = λ s g c h. h; sets = λ v set h. h }

pub change_grows : (p : Past) (c : Change) → Grown p (changes p c)
change_grows p c = record { contents = content_grows p.streams c; sets = λ v set h. h }

abbrev pub about : Port → ℕ → ℕ → ℕ → Asked
about port s g l = record { port = port; stream = s; generation = g; length = l }

-- a message that was sent down tells what it names: a scan the stream's content, a chunk a part of it
pub record ScanFits (p : Past) (down : List Letter) (port : Port) (id : MessageId) (s g l : ℕ) : Type 0 where
  pub told : asked down id ≡ Some (about port s g l)
  pub bytes : List ℕ
  pub held : content p.streams s g ≡ Some bytes
  pub size : length bytes ≡ l

pub record ChunkFits (p : Past) (down : List Letter) (id : MessageId) (o : ℕ) (b : List ℕ) : Type 0 where
  pub of : Asked
  pub told : asked down id ≡ Some of
  pub bytes : List ℕ
  pub held : content p.streams of.stream of.generation ≡ Some bytes
  pub part : take (length b) (drop o bytes) ≡ b

abbrev pub BodyFits : Past → List Letter → Port → Body → Type 0
BodyFits p down port (Scan id s g l) = ScanFits p down port id s g l
BodyFits p down port (Chunk id o b) = ChunkFits p down id o b
BodyFits p down port _ = Unit {0}

abbrev pub DownFits : Past → List Letter → Letter → Type 0
DownFits p down m = BodyFits p down m.port m.body

-- a reply that was sent up tells the verdict of what was asked about
pub record ReplyFits (p : Past) (down : List Letter) (port : Port) (id : MessageId) (v : ℕ) (r : Verdict) : Type 0 where
  pub of : Asked
  pub told : asked down id ≡ Some of
  pub there : of.port ≡ port
  pub right : IsVerdictOf p of.stream of.generation v r

abbrev pub OutcomeFits : Past → List Letter → Port → MessageId → Outcome → Type 0
OutcomeFits p down port id (Judged v r) = ReplyFits p down port id v r
OutcomeFits p down port id (Failed reason) = Unit {0}

abbrev pub UpBody : Past → List Letter → Port → Body → Type 0
UpBody p down port (Reply id outcome) = OutcomeFits p down port id outcome
UpBody p down port _ = Unit {0}

abbrev pub UpFits : Past → List Letter → Letter → Type 0
UpFits p down m = UpBody p down m.port m.body

pub body_grows : (p p' : Past) (down more : List Letter) → Grown p p' → (port : Port) (m : Body) → BodyFits p down port m → BodyFits p' (down ++ more) port m
body_grows p p' down more up port (Scan id s g l) h = record { told = asked_more down more id _ h.told; bytes = h.bytes; held = up.contents s g h.bytes h.held; size = h.size }
body_grows p p' down more up port (Chunk id o b) h =
    record { of = h.of; told = asked_more down more id _ h.told; bytes = h.bytes; held = up.contents h.of.stream h.of.generation h.bytes h.held; part = h.part }
body_grows p p' down more up port _ h = tt

pub down_grows : (p p' : Past) (down more : List Letter) → Grown p p' → (m : Letter) → DownFits p down m → DownFits p' (down ++ more) m
down_grows p p' down more up m h = body_grows p p' down more up m.port m.body h

outcome_grows : (p p' : Past) (down more : List Letter) → Grown p p' → (port : Port) (id : MessageId) (o : Outcome) → OutcomeFits p down port id o → OutcomeFits p' (down ++ more) port id o
outcome_grows p p' down more up port id (Judged v r) h = record { of = h.of; told = asked_more down more id _ h.told; there = h.there; right = right_grows p p' _ _ _ _ up h.right }
outcome_grows p p' down more up port id (Failed reason) h = tt

pub up_body_grows : (p p' : Past) (down more : List Letter) → Grown p p' → (port : Port) (m : Body) → UpBody p down port m → UpBody p' (down ++ more) port m
up_body_grows p p' down more up port (Reply id o) h = outcome_grows p p' down more up port id o h
up_body_grows p p' down more up port _ h = tt

pub up_grows : (p p' : Past) (down more : List Letter) → Grown p p' → (m : Letter) → UpFits p down m → UpFits p' (down ++ more) m
up_grows p p' down more up m h = up_body_grows p p' down more up m.port m.body h

-- what the invariant reads of a table
pub record Core : Type 0 where
  pub boot : ℕ
  pub sequence : ℕ
  pub contexts : List (ℕ × ContextState)
  pub questions : List Question
  pub cache : List Entry

abbrev pub core : Table → Core
core t = record { boot = t.boot; sequence = t.sequence; contexts = t.contexts; questions = t.questions; cache = t.cache }

abbrev pub ContextFits : Past → Streams → ℕ → Option ContextState → Type 0
ContextFits p ss s (Some (context.Judged v r)) = (x : Stream) × (stream_at s ss ≡ Some x) × IsVerdictOf p s x.generation v r
ContextFits p ss s _ = Unit {0}

-- a question is about the present content of a stream that is there, and its scan said so
pub record QuestionFits (ss : Streams) (down : List Letter) (q : Question) : Type 0 where
  pub file : Stream
  pub here : stream_at q.stream ss ≡ Some file
  pub present : q.generation ≡ stream_generation (stream_at q.stream ss)
  pub told : asked down q.id ≡ Some (about q.port q.stream q.generation (length (stream_bytes (stream_at q.stream ss))))

-- ids that weren't given yet
abbrev pub IsLater : ℕ → ℕ → MessageId → Type 0
IsLater boot sequence id = (boot < id.boot) ⊎ ((boot ≡ id.boot) × (sequence < id.seq))

pub record Fits (p : Past) (ss : Streams) (k : Core) (down : List Letter) : Type 0 where
  pub present : ss ≡ seen (map now p.streams)
  pub rises : Rises k.contexts
  pub contexts : (s : ℕ) → ContextFits p ss s (context_of k.contexts s)
  pub questions : Each (QuestionFits ss down) k.questions
  pub apart : AreApart k.questions
  pub scanning : Each (IsScanned k.contexts) k.questions
  pub cache : Each (IsRightEntry p) k.cache
  pub fresh : (id : MessageId) → IsLater k.boot k.sequence id → asked down id ≡ None
  pub sent : Each (DownFits p down) down
  pub once : ScanOnce down

-- the same, with one stream left out: it has no question, and its context doesn't count
pub record FitsAway (s : ℕ) (p : Past) (ss : Streams) (k : Core) (down : List Letter) : Type 0 where
  pub present : ss ≡ seen (map now p.streams)
  pub rises : Rises k.contexts
  pub contexts : (u : ℕ) → u ≢ s → ContextFits p ss u (context_of k.contexts u)
  pub questions : Each (QuestionFits ss down) k.questions
  pub apart : AreApart k.questions
  pub scanning : Each (IsScanned k.contexts) k.questions
  pub away : Each (λ q. q.stream ≢ s) k.questions
  pub cache : Each (IsRightEntry p) k.cache
  pub fresh : (id : MessageId) → IsLater k.boot k.sequence id → asked down id ≡ None
  pub sent : Each (DownFits p down) down
  pub once : ScanOnce down

abbrev pub core_without : MessageId → Core → Core
core_without id k = record k { questions = without_question id k.questions }

-- a question leaves, or there was none
pub leave : (test : Question → Bool) (q : Question) (p : Past) (ss : Streams) (k : Core) (down : List Letter) → find test k.questions ≡ Some q → Fits p ss k down → FitsAway q.stream p ss (core_without q.id k) down
leave test q p ss k down h f = record {
  present = f.present;
  rises = f.rises;
  contexts = λ u ne. f.contexts u;
  questions = each-filter (QuestionFits ss down) (λ x. not (same_id x.id q.id)) k.questions f.questions;
  apart = apart-filter (λ x. not (same_id x.id q.id)) k.questions f.apart;
  scanning = each-filter (IsScanned k.contexts) (λ x. not (same_id x.id q.id)) k.questions f.scanning;
  away = away_without k.questions test q f.apart h;
  cache = f.cache;
  fresh = f.fresh;
  sent = f.sent;
  once = f.once;
}

pub leave_none : (s : ℕ) (p : Past) (ss : Streams) (k : Core) (down : List Letter) → question_of s k.questions ≡ None → Fits p ss k down → FitsAway s p ss k down
leave_none s p ss k down h f = record {
  present = f.present;
  rises = f.rises;
  contexts = λ u ne. f.contexts u;
  questions = f.questions;
  apart = f.apart;
  scanning = f.scanning;
  away = away_none k.questions s h;
  cache = f.cache;
  fresh = f.fresh;
  sent = f.sent;
  once = f.once;
}

-- which context stands after one is set
context_set : (P : ℕ → Option ContextState → Type 0) (s : ℕ) (c : Option ContextState) (contexts : List (ℕ × ContextState)) → Rises contexts → P s c → ((u : ℕ) → u ≢ s → P u (context_of contexts u))
    → (u : ℕ) → P u (context_of (set_at contexts s c) u)
context_set P s c contexts r h others u =
    elim (cases_eq u s) [
      | inl e ↦ subst (λ w. P w (context_of (set_at contexts s c) w)) (sym e) (subst (P s) (sym (at-set contexts s c r)) h)
      | inr ne ↦ subst (P u) (sym (at-set_other contexts s u c ne)) (others u ne)
    ]

-- the contexts after the port was lost
pub lost_rises : (qs : List Question) (contexts : List (ℕ × ContextState)) → Rises contexts → Rises (lost_contexts qs contexts)
unfolding lost_contexts
lost_rises [] contexts r = r
lost_rises (q ∷ qs) contexts r = rises-set (lost_contexts qs contexts) q.stream (Some context.Modified) (lost_rises qs contexts r)

pub lost_fit : (p : Past) (ss : Streams) (qs : List Question) (contexts : List (ℕ × ContextState)) → Rises contexts → ((u : ℕ) → ContextFits p ss u (context_of contexts u)) → (u : ℕ) → ContextFits p ss u (context_of (lost_contexts qs contexts) u)
unfolding lost_contexts
lost_fit p ss [] contexts r h = h
lost_fit p ss (q ∷ qs) contexts r h =
    context_set (ContextFits p ss) q.stream (Some context.Modified) (lost_contexts qs contexts) (lost_rises qs contexts r) tt (λ u ne. lost_fit p ss qs contexts r h u)

still_scanned : (s : ℕ) (c : Option ContextState) (contexts : List (ℕ × ContextState)) (qs : List Question) → Each (λ q. q.stream ≢ s) qs → Each (IsScanned contexts) qs → Each (IsScanned (set_at contexts s c)) qs
still_scanned s c contexts [] ne h = tt
still_scanned s c contexts (q ∷ qs) ne h = (at-set_other contexts s q.stream c ne.0 ∙ h.0, still_scanned s c contexts qs ne.1 h.1)

abbrev pub core_with : ℕ → Option ContextState → Core → Core
core_with s c k = record k { contexts = set_at k.contexts s c }

-- the stream that was left out gets a context that fits
pub close : (s : ℕ) (c : Option ContextState) (p : Past) (ss : Streams) (k : Core) (down : List Letter) → FitsAway s p ss k down → ContextFits p ss s c → Fits p ss (core_with s c k) down
close s c p ss k down f h = record {
  present = f.present;
  rises = rises-set k.contexts s c f.rises;
  contexts = context_set (ContextFits p ss) s c k.contexts f.rises h f.contexts;
  questions = f.questions;
  apart = f.apart;
  scanning = still_scanned s c k.contexts k.questions f.away f.scanning;
  cache = f.cache;
  fresh = f.fresh;
  sent = f.sent;
  once = f.once;
}

-- messages that ask nothing are sent
pub tell : (p : Past) (ss : Streams) (k : Core) (down ms : List Letter) → Fits p ss k down → IsPlain ms → Each (DownFits p (down ++ ms)) ms → Fits p ss k (down ++ ms)
tell p ss k down ms f plain each = record {
  present = f.present;
  rises = f.rises;
  contexts = f.contexts;
  questions = each_weaker (QuestionFits ss down) (QuestionFits ss (down ++ ms)) (λ q h. record { file = h.file; here = h.here; present = h.present; told = asked_more down ms q.id _ h.told }) k.questions f.questions;
  apart = f.apart;
  scanning = f.scanning;
  cache = f.cache;
  fresh = λ id later. asked_new down ms id (f.fresh id later) ∙ plain id;
  sent = each-append (DownFits p (down ++ ms)) down ms (each_weaker (DownFits p down) (DownFits p (down ++ ms)) (down_grows p p down ms (same_past p)) down f.sent) each;
  once = once-append down ms f.once (plain_once ms plain) (λ id some. plain id);
}

-- the stream that was left out is asked about
abbrev pub given_id : Core → MessageId
given_id k = record { boot = k.boot; seq = k.sequence + 1 }

abbrev pub new_question : Core → Streams → Port → ℕ → Question
new_question k ss port s = record { id = given_id k; port = port; stream = s; generation = stream_generation (stream_at s ss) }

abbrev pub core_asked : Core → Streams → Port → ℕ → Core
core_asked k ss port s =
    record {
      boot = k.boot;
      sequence = k.sequence + 1;
      contexts = set_at k.contexts s (Some (context.Scanning (given_id k)));
      questions = k.questions ++ new_question k ss port s ∷ [];
      cache = k.cache;
    }

abbrev pub asking : Core → Streams → Port → ℕ → Letter
asking k ss port s = via port (Scan (given_id k) s (stream_generation (stream_at s ss)) (length (stream_bytes (stream_at s ss))))

-- an id after the given one is a later one, and another
later_still : (k : Core) (id : MessageId) → IsLater k.boot (k.sequence + 1) id → IsLater k.boot k.sequence id × (same_id (given_id k) id ≡ false)
later_still k id (inl lt) = (inl lt, and_left (k.boot == id.boot) (k.sequence + 1 == id.seq) (ne_eqb k.boot id.boot (λ e. omega arith)))
later_still k id (inr h) = (inr (h.0, omega (arith, h.1)), and_right (k.boot == id.boot) (k.sequence + 1 == id.seq) (ne_eqb (k.sequence + 1) id.seq (λ e. omega (arith, h.1))))

pub ask : (s : ℕ) (port : Port) (p : Past) (ss : Streams) (k : Core) (down early : List Letter) (f : Stream) → FitsAway s p ss k down → stream_at s ss ≡ Some f → IsPlain early → ((d : List Letter) → Each (DownFits p d) early)
    → Fits p ss (core_asked k ss port s) (down ++ (early ++ asking k ss port s ∷ []))
ask s port p ss k down early f a here plain each =
    let ms : List Letter = early ++ asking k ss port s ∷ [] in
    let all : List Letter = down ++ ms in
    let unused : asked down (given_id k) ≡ None = a.fresh (given_id k) (inr (refl, omega arith)) in
    let told : asked all (given_id k) ≡ Some (about port s (stream_generation (stream_at s ss)) (length (stream_bytes (stream_at s ss)))) =
    asked_new down ms (given_id k) unused ∙ asked_scan early plain port (given_id k) s (stream_generation (stream_at s ss)) (length (stream_bytes (stream_at s ss))) in
    let old : (m : Letter) → DownFits p down m → DownFits p all m = down_grows p p down ms (same_past p) in
    let present = present_content p.streams ss s f a.present here in
    record {
      present = a.present;
      rises = rises-set k.contexts s (Some (context.Scanning (given_id k))) a.rises;
      contexts = context_set (ContextFits p ss) s (Some (context.Scanning (given_id k))) k.contexts a.rises tt a.contexts;
      questions =
          each-append (QuestionFits ss all) k.questions (new_question k ss port s ∷ [])
          (each_weaker (QuestionFits ss down) (QuestionFits ss all) (λ q h. record { file = h.file; here = h.here; present = h.present; told = asked_more down ms q.id _ h.told }) k.questions a.questions)
          (record { file = f; here = here; present = refl; told = told }, tt);
      apart = apart-push k.questions (new_question k ss port s) a.apart a.away;
      scanning =
          each-append (IsScanned (set_at k.contexts s (Some (context.Scanning (given_id k))))) k.questions (new_question k ss port s ∷ []) (still_scanned s (Some (context.Scanning (given_id k))) k.contexts k.questions a.away a.scanning)
          (at-set k.contexts s (Some (context.Scanning (given_id k))) a.rises, tt);
      cache = a.cache;
      fresh = λ id later.
          let l = later_still k id later in
          asked_new down ms id (a.fresh id l.0) ∙ asked_scan_other early plain port (given_id k) id s (stream_generation (stream_at s ss)) (length (stream_bytes (stream_at s ss))) l.1;
      once = once-append down ms a.once (once-append early (asking k ss port s ∷ []) (plain_once early plain) (one_once (asking k ss port s)) (λ id some. absurd (some_none (asked early id) some (plain id)))) (λ id some. apart id some);
      sent =
          each-append (DownFits p all) down ms (each_weaker (DownFits p down) (DownFits p all) old down a.sent)
          (each-append (DownFits p all) early (asking k ss port s ∷ []) (each all) (
            record {
              told = told;
              bytes = f.bytes;
              held = subst (λ g. content p.streams s g ≡ Some f.bytes) (sym (ap stream_generation here)) present.0;
              size = sym (ap (λ o. length (stream_bytes o)) here);
            },
            tt,
          ));
    }
  where
    apart : (id : MessageId) → is_some (asked down id) ≡ true → asked (early ++ asking k ss port s ∷ []) id ≡ None
    apart id some =
        (elim (same_id (given_id k) id) as (λ b. same_id (given_id k) id ≡ b → asked (early ++ asking k ss port s ∷ []) id ≡ None) [
          | true ↦ λ e.
              let same : given_id k ≡ id = same_id-true (given_id k) id e in
              absurd (some_none (asked down id) some (ap (asked down) (sym same) ∙ a.fresh (given_id k) (inr (refl, omega arith))))
          | false ↦ λ e. asked_scan_other early plain port (given_id k) id s (stream_generation (stream_at s ss)) (length (stream_bytes (stream_at s ss))) e
        ]) refl

pub context_kept : (p p' : Past) (ss ss' : Streams) (u : ℕ) (c : Option ContextState) → Grown p p' → ((x : Stream) → stream_at u ss ≡ Some x → stream_at u ss' ≡ Some x) → ContextFits p ss u c → ContextFits p' ss' u c
context_kept p p' ss ss' u None up same h = tt
context_kept p p' ss ss' u (Some context.Modified) up same h = tt
context_kept p p' ss ss' u (Some (context.Scanning id)) up same h = tt
context_kept p p' ss ss' u (Some (context.Judged v r)) up same h = (h.0, same h.0 h.1, right_grows p p' _ _ _ _ up h.2)

body_same : (p p' : Past) (down : List Letter) → Grown p p' → (port : Port) (m : Body) → BodyFits p down port m → BodyFits p' down port m
body_same p p' down up port (Scan id s g l) h = record { told = h.told; bytes = h.bytes; held = up.contents s g h.bytes h.held; size = h.size }
body_same p p' down up port (Chunk id o b) h = record { of = h.of; told = h.told; bytes = h.bytes; held = up.contents h.of.stream h.of.generation h.bytes h.held; part = h.part }
body_same p p' down up port _ h = tt

pub down_same : (p p' : Past) (down : List Letter) → Grown p p' → (m : Letter) → DownFits p down m → DownFits p' down m
down_same p p' down up m h = body_same p p' down up m.port m.body h

-- an accepted change
module _ (c : Change) (p : Past) (v w : Store) (k : Core) (down : List Letter) (keeps : Keeps v (map now p.streams)) (done : change_of v c ≡ Ok w) where
  abbrev p' : Past
  p' = changes p c

  next : Keeps w (map now p'.streams)
  next = kept_change v w p.streams c keeps done

  cache_kept : Each (IsRightEntry p) k.cache → Each (IsRightEntry p') k.cache
  cache_kept all = each_weaker (IsRightEntry p) (IsRightEntry p') (λ e h. right_grows p p' e.stream e.generation e.version e.verdict (change_grows p c) h) k.cache all

  sent_kept : Each (DownFits p down) down → Each (DownFits p' down) down
  sent_kept all = each_weaker (DownFits p down) (DownFits p' down) (λ m h. down_same p p' down (change_grows p c) m h) down all

  question_kept : (q : Question) → stream_at q.stream w.streams ≡ stream_at q.stream v.streams → QuestionFits v.streams down q → QuestionFits w.streams down q
  question_kept q same h = record {
    file = h.file;
    here = same ∙ h.here;
    present = h.present ∙ ap stream_generation (sym same);
    told = h.told ∙ ap (λ o. Some (about q.port q.stream q.generation (length (stream_bytes o)))) (sym same);
  }

  -- of the stream that was left out
  pub change_away : (s : ℕ) → IsOf c s → FitsAway s p v.streams k down → FitsAway s p' w.streams k down
  change_away s of a = record {
    present = next.streams;
    rises = a.rises;
    contexts = λ u ne. context_kept p p' v.streams w.streams u (context_of k.contexts u) (change_grows p c) (λ x h. stream_away v w p.streams c keeps done s u of ne ∙ h) (a.contexts u ne);
    questions = questions_kept k.questions a.questions a.away;
    apart = a.apart;
    scanning = a.scanning;
    away = a.away;
    cache = cache_kept a.cache;
    fresh = a.fresh;
    sent = sent_kept a.sent;
    once = a.once;
  }
    where
      questions_kept : (qs : List Question) → Each (QuestionFits v.streams down) qs → Each (λ q. q.stream ≢ s) qs → Each (QuestionFits w.streams down) qs
      questions_kept [] h ne = tt
      questions_kept (q ∷ qs) h ne = (question_kept q (stream_away v w p.streams c keeps done s q.stream of ne.0) h.0, questions_kept qs h.1 ne.1)

-- a creation
pub create : (name : List ℕ) (p : Past) (v w : Store) (k : Core) (down : List Letter) → Keeps v (map now p.streams) → change_of v (Create name) ≡ Ok w → Fits p v.streams k down → Fits (changes p (Create name)) w.streams k down
create name p v w k down keeps done a = record {
  present = (next (Create name) p v w k down keeps done).streams;
  rises = a.rises;
  contexts = λ u. context_kept p (changes p (Create name)) v.streams w.streams u (context_of k.contexts u) (change_grows p (Create name)) (λ x h. stream_stays v w p.streams name u x keeps done h) (a.contexts u);
  questions = each_weaker (QuestionFits v.streams down) (QuestionFits w.streams down) (λ q h. question_kept (Create name) p v w k down keeps done q (stream_stays v w p.streams name q.stream h.file keeps done h.here ∙ sym h.here) h) k.questions a.questions;
  apart = a.apart;
  scanning = a.scanning;
  cache = cache_kept (Create name) p v w k down keeps done a.cache;
  fresh = a.fresh;
  sent = sent_kept (Create name) p v w k down keeps done a.sent;
  once = a.once;
}

-- Each event of the filter keeps the invariant, and gives only justified answers.
use Rattle.std.proofs.Common.{◌≡◌, ℕ, ◌+◌, Bool, true, false, not, ◌&&◌, List, [], ◌∷◌, ◌++◌, length, take, drop, map, find, Option, Some, None, append_assoc}
use Rattle.std.proofs.Common.{Ok, if◌then◌else◌, ◌==◌, nat_le, min, refl, sym, ap, ◌∙◌, subst, arith, inl, inr, eqb-true}
use Rattle.std.specs.List.{AllByRecursion as Each}
use Rattle.std.proofs.lemmas.List.{length-take, take_min}
use Rattle.std.proofs.lemmas.Bool.{and_parts, cond_both}
use Rattle.av_base.proofs.KeyLemmas.{same_id-true}
use Rattle.av_base.specs.MessageId.{same_id}
use Rattle.av_base.specs.declared.cause.Cause.{Cause}
use Rattle.av_base.specs.declared.cause.Cause.TheVariants.{TimedOut, PortDisconnected, ScanFailed, Unsettled, StreamRemoved, FilterRestart}
use Rattle.av_base.specs.declared.message_id.MessageId.{MessageId}
use Rattle.av_base.specs.declared.mode.Mode.{Mode}
use Rattle.av_base.specs.declared.mode.Mode.TheVariants.{FailClosed, FailOpen}
use Rattle.av_base.specs.declared.verdict.Verdict.{Verdict}
use Rattle.av_base.specs.declared.verdict.Verdict.TheVariants.{Clean, Infected}
use Rattle.av_cache.specs.Cache.{has_key, look, in_front, put, same_key}
use Rattle.av_cache.specs.declared.entry.Entry.{Entry}
use Rattle.av_context.specs.declared.context_state.ContextState.{ContextState}
use Rattle.av_context.specs.declared.context_state.ContextState.TheVariants as context
use Rattle.av_filter_table.specs.Orderly.{AreInOrder, Rises}
use Rattle.av_filter.specs.Again.{again, ends, scan_message}
use Rattle.av_filter_table.specs.Asking.{again_cause, again_under, asks, ended, is_lost, moved, next_question, settled}
use Rattle.av_filter.specs.Changing.{changed_volume}
use Rattle.av_filter.specs.Conduct.{FilterEvent, Changes, Receives, again_each, in_order, loses_all, moves, placed, filter_refusal, filter_step, restarts}
use Rattle.av_filter.specs.Opening.{answers_with, new_open, taken}
use Rattle.av_filter.specs.Reaction.{Reaction, only, sends}
use Rattle.av_filter_table.specs.Answering.{all_judged, by_mode, judged, present_bytes, present_generation, refused_now, stream_bytes, stream_generation}
use Rattle.av_filter.specs.Receiving.{chunk_of}
use Rattle.av_filter_table.specs.Table.{Table, context_of, current, next_id, on_port, opens_of, question_of, question_on, raised, waits_for}
use Rattle.av_filter.specs.declared.note.Note.{Note}
use Rattle.av_filter.specs.declared.note.Note.TheVariants.{Quiet}
use Rattle.av_filter_table.specs.declared.pended.Pended.{Pended}
use Rattle.av_filter_table.specs.declared.question.Question.{Question}
use Rattle.av_frame.specs.Message.{Letter, via}
use Rattle.av_base.specs.declared.port.Port.{Port}
use Rattle.av_filter_table.specs.Ports.{least_port}
use Rattle.av_base.specs.Port.{same_port}
use Rattle.av_frame.specs.declared.message.Body.TheVariants.{Abort, Chunk}
use Rattle.av_frame.specs.declared.outcome.Outcome.TheVariants.{Judged}
use Rattle.av_pend.specs.Pend.{denied, open_of, refused}
use Rattle.av_pend.specs.Waiting.{Waiting}
use Rattle.av_pend.specs.declared.answer.Answer.{Answer}
use Rattle.av_store.proofs.SeenLemmas.{kept_change}
use Rattle.av_store.specs.Files.{Change, Create, Remove}
use Rattle.av_store.specs.History.{IsOf, content, generation_of, now}
use Rattle.av_store.specs.Rows.{Streams, stream_at}
use Rattle.av_store.specs.Seen.{Keeps, change_of}
use Rattle.av_store.specs.Store.{Store}
use Rattle.av_store.specs.declared.stream.Stream.{Stream}
use Rattle.av_filter.proofs.QuestionLemmas.{order-filter}
use Rattle.av_history.proofs.AskedLemmas.{asked_more, IsPlain, plain_nil, plain_abort, plain_chunk, plain_no_chunk}
use Rattle.av_history.proofs.ContentLemmas.{present_content, stream_written}
use Rattle.av_filter.proofs.EachLemmas.{each_weaker, each-append, each-filter, each-filter_passed, each-map, each-take, find_each, find_passes, each_mapped}
use Rattle.av_filter.proofs.VolumeLemmas.{changed_same}
use Rattle.av_filter.proofs.FitLemmas.{Runs as RunsIn, accepted, all_found, all_run, no_question, rewrites_of}
use Rattle.av_filter.proofs.RowLemmas.{again_row, again_volume, row_of}
use Rattle.av_filter.specs.Rows
use Rattle.av_filter.specs.Rows.{AgainRow, OpenRow, Rewrites, Row, closes, marked, without}
use Rattle.av_history.proofs.FitLemmas
use Rattle.av_history.proofs.FitLemmas.{Fits as FilterFits, FitsAway, Core, core, core_with, DownFits, UpFits, OutcomeFits, ContextFits, QuestionFits, about, leave}
use Rattle.av_history.proofs.FitLemmas.{leave_none, close, ask, tell, change_away, create, core_without, lost_fit, lost_rises}
use Rattle.av_history.specs.Headline.{IsJustified}
use Rattle.av_history.specs.Held.{Asked, asked}
use Rattle.av_history.specs.Past.{Past, changes, IsVerdictOf, IsRightEntry}
pub use Rattle.av_history.specs.Scene.{past_filter}

-- a held open is of the stream that its question asked about
pub record OpenFits (down : List Letter) (o : Pended) : Type 0 where
  pub of : Asked
  pub told : asked down o.question ≡ Some of
  pub stream : of.stream ≡ o.held.stream

pub opens_grow : (down more : List Letter) (ps : List Pended) → Each (OpenFits down) ps → Each (OpenFits (down ++ more)) ps
opens_grow down more ps all = each_weaker (OpenFits down) (OpenFits (down ++ more)) (λ o h. record { of = h.of; told = asked_more down more o.question _ h.told; stream = h.stream }) ps all

pub record Good (p : Past) (mode : Mode) (down : List Letter) (r : Reaction) : Type 0 where
  pub fits : FilterFits p r.volume.streams (core r.table) (down ++ r.messages)
  pub keeps : Keeps r.volume (map now p.streams)
  pub opens : Each (OpenFits (down ++ r.messages)) r.table.pended
  pub boots : r.table.boot ≡ r.volume.boot
  pub justified : Each (IsJustified mode p) r.answers
  pub mode_kept : r.table.mode ≡ mode

pub justified-refused : (p : Past) (mode : Mode) (g : ℕ) (c : Cause) (o : Waiting) → IsJustified mode p (refused mode g c o)
justified-refused p FailClosed g c o = tt
justified-refused p FailOpen g c o = λ e. absurd cc

pub justified-judged : (p : Past) (mode : Mode) (r : Verdict) (g v : ℕ) (o : Waiting) → g ≡ generation_of p.streams o.stream → IsVerdictOf p o.stream g v r → IsJustified mode p (judged r g v o)
justified-judged p mode Clean g v o e h = (e, h)
justified-judged p mode (Infected i f) g v o e h = tt

none_sent : (p : Past) (d : List Letter) → Each (DownFits p d) []
none_sent p d = tt

-- messages that tell nothing about contents
abort_sent : (p : Past) (port : Port) (i : MessageId) (d : List Letter) → Each (DownFits p d) (via port (Abort i) ∷ [])
abort_sent p port i d = (tt, tt)

-- what a question asked about, told of its stream
pub record QuestionAsked (down : List Letter) (q : Question) : Type 0 where
  pub of : Asked
  pub told : asked down q.id ≡ Some of
  pub stream : of.stream ≡ q.stream

each_last : {A : Type 0} (P : A → Type 0) (xs : List A) (x : A) → Each P (xs ++ x ∷ []) → P x
each_last P [] x all = all.0
each_last P (y ∷ xs) x all = each_last P xs x all.1

-- an open that waits for a question is of its stream
pub same_stream : (down : List Letter) (q : Question) (o : Pended) → QuestionAsked down q → OpenFits down o → waits_for q.id o ≡ true → q.stream ≡ o.held.stream
same_stream down q o a h w =
    let id : o.question ≡ q.id = same_id-true o.question q.id w in
    let told : Some h.of ≡ Some a.of = sym h.told ∙ (ap (asked down) id ∙ a.told) in
    let of : h.of ≡ a.of = cc (told) in
    sym a.stream ∙ (ap (λ (x : Asked). x.stream) (sym of) ∙ h.stream)

-- what is so of a table and a volume beside their fit
record Agrees (p : Past) (t : Table) (v : Store) (down : List Letter) : Type 0 where
  boots : t.boot ≡ v.boot
  opens : Each (OpenFits down) t.pended
  keeps : Keeps v (map now p.streams)

-- opens that are answered by the mode
by_mode_good : (p : Past) (t : Table) (v : Store) (c : Cause) (ps : List Pended) → Each (IsJustified t.mode p) (by_mode t v c ps)
by_mode_good p t v c ps = each_mapped (IsJustified t.mode p) (refused_now t v c) (λ o. justified-refused p t.mode _ c o.held) ps

module _ (p : Past) (t : Table) (v : Store) (down : List Letter) (so : Agrees p t v down) where
  ends_good : (q : Question) (early : List Letter) → FitsAway q.stream p v.streams (core_without q.id (core t)) down → IsPlain early → ((d : List Letter) → Each (DownFits p d) early) → Good p t.mode down (ends t v q early)
  unfolding ends ended
  ends_good q early away plain each = record {
    fits = tell p v.streams _ down early (close q.stream (Some context.Modified) p v.streams (core_without q.id (core t)) down away tt) plain (each (down ++ early));
    keeps = so.keeps;
    opens = opens_grow down early _ (each-filter (OpenFits down) (λ o. not (waits_for q.id o)) t.pended so.opens);
    boots = so.boots;
    justified = each_mapped (IsJustified t.mode p) (λ (o : Pended). refused_now t v (again_cause o) o) (λ o. justified-refused p t.mode _ _ o.held) _;
    mode_kept = refl;
  }

  again_good : {o : Option Port} {q : Question} {early : List Letter} {r : Reaction} → AgainRow o t v q early r → (f : Stream)
      → FitsAway q.stream p v.streams (core_without q.id (core t)) down → stream_at q.stream v.streams ≡ Some f → QuestionAsked down q → IsPlain early
      → ((d : List Letter) → Each (DownFits p d) early) → Good p t.mode down r
  unfolding asks
  again_good {o} {q} {early} (Rows.over why) f away here a plain each = ends_good q early away plain each
  again_good {o} {q} {early} (Rows.anew port to left) f away here a plain each =
      let all : List Letter = down ++ (early ++ scan_message t v port q.stream ∷ []) in
      let fits = ask q.stream port p v.streams (core_without q.id (core t)) down early f away here plain each in
      let new : QuestionFits v.streams all (next_question t v port q.stream) = each_last (QuestionFits v.streams all) _ (next_question t v port q.stream) fits.questions in
      record {
        fits = fits;
        keeps = so.keeps;
        opens =
            each-map (OpenFits all) (OpenFits down) (moved q.id (next_id t)) (λ o h. cond_both (waits_for q.id o) (again_under (next_id t) o) o (OpenFits all)
            (λ w. record { of = about port q.stream (present_generation v q.stream) (length (present_bytes v q.stream)); told = new.told; stream = same_stream down q o a h w })
            (λ w. record { of = h.of; told = asked_more down _ o.question _ h.told; stream = h.stream }))
            _ (each-filter (OpenFits down) (λ o. not (is_lost q.id o)) t.pended so.opens);
        boots = so.boots;
        justified = by_mode_good p t v Unsettled _;
        mode_kept = refl;
      }

  -- a question ends, and its stream's context fits
  ended_good : (q : Question) (c : Option ContextState) (answers : List Answer) (ms : List Letter) (note : Note) → FitsAway q.stream p v.streams (core_without q.id (core t)) down
      → ContextFits p v.streams q.stream c → Each (IsJustified t.mode p) answers → IsPlain ms → ((d : List Letter) → Each (DownFits p d) ms)
      → Good p t.mode down (record { table = ended t q c; volume = v; answers = answers; messages = ms; note = note })
  unfolding ended
  ended_good q c answers ms note away h just plain each = record {
    fits = tell p v.streams _ down ms (close q.stream c p v.streams (core_without q.id (core t)) down away h) plain (each (down ++ ms));
    keeps = so.keeps;
    opens = opens_grow down ms _ (each-filter (OpenFits down) (λ o. not (waits_for q.id o)) t.pended so.opens);
    boots = so.boots;
    justified = just;
    mode_kept = refl;
  }

-- the table's contents stay, and at most messages that tell nothing are sent
pub still_good : (p : Past) (mode : Mode) (down : List Letter) (r : Reaction) → FilterFits p r.volume.streams (core r.table) down → Keeps r.volume (map now p.streams) → Each (OpenFits down) r.table.pended → r.table.boot ≡ r.volume.boot → r.table.mode ≡ mode
    → IsPlain r.messages → Each (DownFits p (down ++ r.messages)) r.messages → Each (IsJustified mode p) r.answers → Good p mode down r
still_good p mode down r fits keeps opens same mode_kept plain each just = record {
  fits = tell p r.volume.streams (core r.table) down r.messages fits plain each;
  keeps = keeps;
  opens = opens_grow down r.messages r.table.pended opens;
  boots = same;
  justified = just;
  mode_kept = mode_kept;
}

-- what is known of a question that runs
pub record Runs (p : Past) (ss : Streams) (down : List Letter) (q : Question) : Type 0 where
  pub file : Stream
  pub here : stream_at q.stream ss ≡ Some file
  pub generation : q.generation ≡ file.generation
  pub present : q.generation ≡ generation_of p.streams q.stream
  pub held : content p.streams q.stream q.generation ≡ Some file.bytes
  pub told : asked down q.id ≡ Some (about q.port q.stream q.generation (length file.bytes))

pub runs : (p : Past) (ss : Streams) (k : Core) (down : List Letter) (test : Question → Bool) (q : Question) → FilterFits p ss k down → find test k.questions ≡ Some q → Runs p ss down q
runs p ss k down test q fits at =
    let h : QuestionFits ss down q = find_each (QuestionFits ss down) test k.questions q fits.questions at in
    let g : q.generation ≡ h.file.generation = h.present ∙ ap stream_generation h.here in
    let c = present_content p.streams ss q.stream h.file fits.present h.here in
    record {
      file = h.file;
      here = h.here;
      generation = g;
      present = g ∙ c.1;
      held = subst (λ n. content p.streams q.stream n ≡ Some h.file.bytes) (sym g) c.0;
      told = h.told ∙ ap (λ o. Some (about q.port q.stream q.generation (length (stream_bytes o)))) h.here;
    }

-- a context that is current tells the verdict under the floor
pub current_right : (p : Past) (ss : Streams) (s floor : ℕ) (f : Stream) (r : Verdict) (c : Option ContextState) → ContextFits p ss s c → stream_at s ss ≡ Some f → current c floor ≡ Some r → IsVerdictOf p s f.generation floor r
current_right p ss s floor f r None h here e = absurd cc
current_right p ss s floor f r (Some context.Modified) h here e = absurd cc
current_right p ss s floor f r (Some (context.Scanning id)) h here e = absurd cc
current_right p ss s floor f r (Some (context.Judged v x)) h here e =
    let go : (b : Bool) → (v == floor) ≡ b → (if b then Some x else None) ≡ Some r → (v ≡ floor) × (x ≡ r) = elim [
      | true ↦ λ k w. (eqb-true v floor k, cc (w))
      | false ↦ λ k w. absurd (cc (w))
    ] in
    let both = go (v == floor) refl e in
    let same : h.0 ≡ f = let w : Some h.0 ≡ Some f = sym h.1 ∙ here in cc (w) in
    subst (λ y. IsVerdictOf p s f.generation floor y) both.1 (subst (λ n. IsVerdictOf p s f.generation n x) both.0 (subst (λ (y : Stream). IsVerdictOf p s y.generation v x) same h.2))

-- an entry that was looked up tells the verdict under its key
pub look_right : (p : Past) (s g v : ℕ) (es : List Entry) (e : Entry) → Each (IsRightEntry p) es → look s g v es ≡ Some e → IsVerdictOf p s g v e.verdict
look_right p s g v es e all h =
    let right : IsRightEntry p e = find_each (IsRightEntry p) (has_key s g v) es e all h in
    let key = find_passes (has_key s g v) es e h in
    let a = and_parts (s == e.stream) ((g == e.generation) && (v == e.version)) key in
    let b = and_parts (g == e.generation) (v == e.version) a.1 in
    subst (λ n. IsVerdictOf p s g n e.verdict) (sym (eqb-true v e.version b.1))
    (subst (λ n. IsVerdictOf p s n e.version e.verdict) (sym (eqb-true g e.generation b.0)) (subst (λ n. IsVerdictOf p n e.generation e.version e.verdict) (sym (eqb-true s e.stream a.0)) right))

pub front_right : (p : Past) (x : Entry) (es : List Entry) → IsRightEntry p x → Each (IsRightEntry p) es → Each (IsRightEntry p) (in_front x es)
front_right p x es h all = (h, each-filter (IsRightEntry p) (λ e. not (same_key x e)) es all)

pub put_right : (p : Past) (capacity : ℕ) (x : Entry) (es : List Entry) → IsRightEntry p x → Each (IsRightEntry p) es → Each (IsRightEntry p) (put capacity x es)
put_right p capacity x es h all = each-take (IsRightEntry p) capacity (in_front x es) (front_right p x es h all)

-- a question that runs asked about its stream
pub asked_of : (p : Past) (ss : Streams) (down : List Letter) (q : Question) → Runs p ss down q → QuestionAsked down q
asked_of p ss down q r = record { of = about q.port q.stream q.generation (length r.file.bytes); told = r.told; stream = refl }

-- other entries are cached
cache_fits : (p : Past) (ss : Streams) (k : Core) (down : List Letter) → FilterFits p ss k down → (es : List Entry) → Each (IsRightEntry p) es → FilterFits p ss (record k { cache = es }) down
cache_fits p ss k down f es right = record {
  present = f.present;
  rises = f.rises;
  contexts = f.contexts;
  questions = f.questions;
  apart = f.apart;
  scanning = f.scanning;
  cache = right;
  fresh = f.fresh;
  sent = f.sent;
  once = f.once;
}

-- an open
module _ (p : Past) (t : Table) (v : Store) (down : List Letter) (fits : FilterFits p v.streams (core t) down) (so : Agrees p t v down) where
  one_answer : (a : Answer) → IsJustified t.mode p a → Good p t.mode down (answers_with t v a)
  one_answer a h = still_good p t.mode down _ fits so.keeps so.opens so.boots refl plain_nil tt (h, tt)

  by_verdict : (s least : ℕ) (f : Stream) (r : Verdict) → stream_at s v.streams ≡ Some f → IsVerdictOf p s f.generation t.floor r
      → IsJustified t.mode p (judged r f.generation t.floor (new_open v s least))
  by_verdict s least f r here h = justified-judged p t.mode r _ _ (new_open v s least) (present_content p.streams v.streams s f fits.present here).1 h

  -- one more waits for a question of its stream
  one_more : (s least : ℕ) (d : List Letter) (id : MessageId) (of : Asked) → Each (OpenFits d) t.pended → asked d id ≡ Some of → of.stream ≡ s
      → Each (OpenFits d) (t.pended ++ record { question = id; held = new_open v s least } ∷ [])
  one_more s least d id of all told same = each-append (OpenFits d) t.pended _ all (record { of = of; told = told; stream = same }, tt)

  -- a stream without a question is asked about
  module _ (s : ℕ) (f : Stream) (port : Port) (here : stream_at s v.streams ≡ Some f) (none : question_of s t.questions ≡ None) where
    abbrev told_more : List Letter
    told_more = down ++ scan_message t v port s ∷ []

    asked_fits : FilterFits p v.streams (core (asks t v port s)) told_more
    unfolding asks
    asked_fits = ask s port p v.streams (core t) down [] f (leave_none s p v.streams (core t) down none fits) here plain_nil (none_sent p)

    asked_new : QuestionFits v.streams told_more (next_question t v port s)
    unfolding asks
    asked_new = each_last (QuestionFits v.streams told_more) t.questions (next_question t v port s) asked_fits.questions

  open_good : {s least : ℕ} {r : Reaction} → OpenRow t v s least r → Good p t.mode down r
  unfolding asks
  open_good (Rows.no_stream at) = one_answer _ tt
  open_good {s} {least} (Rows.known f r at known) = one_answer _ (by_verdict s least f r at (current_right p v.streams s t.floor f r (context_of t.contexts s) (fits.contexts s) at known))
  open_good (Rows.hindered f c at why) = one_answer _ (justified-refused p t.mode _ c _)
  open_good {s} {least} (Rows.joins f q at found room) =
      let r : Runs p v.streams down q = runs p v.streams (core t) down (λ q. q.stream == s) q fits found in
      let same : q.stream ≡ s = eqb-true q.stream s (find_passes (λ (q : Question). q.stream == s) t.questions q found) in
      still_good p t.mode down _ fits so.keeps (one_more s least down q.id _ so.opens r.told same) so.boots refl plain_nil tt tt
  open_good {s} {least} (Rows.cached f e at none found) =
      let right : IsVerdictOf p s f.generation t.floor e.verdict = look_right p s f.generation t.floor t.cache e fits.cache found in
      let entry : IsRightEntry p e = find_each (IsRightEntry p) (has_key s f.generation t.floor) t.cache e fits.cache found in
      let c : Option ContextState = Some (context.Judged t.floor e.verdict) in
      let closed : FilterFits p v.streams (core_with s c (core t)) down = close s c p v.streams (core t) down (leave_none s p v.streams (core t) down none fits) (f, at, right) in
      still_good p t.mode down _ (cache_fits p v.streams _ down closed _ (front_right p e t.cache entry fits.cache)) so.keeps so.opens so.boots refl plain_nil tt
      (by_verdict s least f e.verdict at right, tt)
  open_good {s} {least} (Rows.asked f port at none room e) = record {
    fits = asked_fits s f port at none;
    keeps = so.keeps;
    opens = one_more s least (told_more s f port at none) (next_id t) _ (opens_grow down _ t.pended so.opens) (asked_new s f port at none).told refl;
    boots = so.boots;
    justified = tt;
    mode_kept = refl;
  }

-- what a part is, it is of its own length
front_again : (n : ℕ) (xs : List ℕ) → take (length (take n xs)) xs ≡ take n xs
front_again n xs = ap (λ k. take k xs) (length-take n xs) ∙ take_min n xs

-- the other events
module _ (p : Past) (t : Table) (v : Store) (down : List Letter) (fits : FilterFits p v.streams (core t) down) (so : Agrees p t v down) where
  quiet_good : (t' : Table) (n : Note) → FilterFits p v.streams (core t') down → Each (OpenFits down) t'.pended → t'.boot ≡ v.boot → t'.mode ≡ t.mode → Good p t.mode down (only t' v n)
  quiet_good t' n h o b m = still_good p t.mode down _ h so.keeps o b m plain_nil tt tt

  read_good : (port : Port) (id : MessageId) (offset count : ℕ) (q : Question) → question_on port id t.questions ≡ Some q
      → Good p t.mode down (sends t v (via port (Chunk id offset (chunk_of t (present_bytes v q.stream) offset count))))
  read_good port id offset count q at =
      let r : Runs p v.streams down q = runs p v.streams (core t) down (λ q. same_id q.id id && same_port q.port port) q fits at in
      let same : q.id ≡ id = same_id-true q.id id (and_parts (same_id q.id id) (same_port q.port port) (find_passes (λ (q : Question). same_id q.id id && same_port q.port port) t.questions q at)).0 in
      still_good p t.mode down _ fits so.keeps so.opens so.boots refl (plain_chunk port id offset _) (
        record {
          of = about q.port q.stream q.generation (length r.file.bytes);
          told = asked_more down _ id _ (subst (λ i. asked down i ≡ Some (about q.port q.stream q.generation (length r.file.bytes))) same r.told);
          bytes = r.file.bytes;
          held = r.held;
          part = subst (λ (bs : List ℕ). take (length (chunk_of t bs offset count)) (drop offset r.file.bytes) ≡ chunk_of t bs offset count) (sym (ap stream_bytes r.here)) (front_again (min count t.limits.chunk) (drop offset r.file.bytes));
        },
        tt,
      ) tt

  replied_good : (port : Port) (id : MessageId) (version : ℕ) (r : Verdict) (q : Question) → question_on port id t.questions ≡ Some q → OutcomeFits p down port id (Judged version r)
      → Good p t.mode down (record { table = settled t q version r; volume = v; answers = all_judged r q.generation version (opens_of q.id t.pended); messages = []; note = Quiet })
  unfolding ended
  replied_good port id version r q at h =
      let run : Runs p v.streams down q = runs p v.streams (core t) down (λ q. same_id q.id id && same_port q.port port) q fits at in
      let away : FitsAway q.stream p v.streams (core_without q.id (core t)) down = leave (λ q. same_id q.id id && same_port q.port port) q p v.streams (core t) down at fits in
      let same : q.id ≡ id = same_id-true q.id id (and_parts (same_id q.id id) (same_port q.port port) (find_passes (λ (q : Question). same_id q.id id && same_port q.port port) t.questions q at)).0 in
      let told : Some h.of ≡ Some (about q.port q.stream q.generation (length run.file.bytes)) = sym h.told ∙ subst (λ i. asked down i ≡ Some (about q.port q.stream q.generation (length run.file.bytes))) same run.told in
      let about_it : h.of ≡ about q.port q.stream q.generation (length run.file.bytes) = cc (told) in
      let right : IsVerdictOf p q.stream q.generation version r = subst (λ (a : Asked). IsVerdictOf p a.stream a.generation version r) about_it h.right in
      let c : Option ContextState = Some (context.Judged version r) in
      let closed : FilterFits p v.streams (core_with q.stream c (core_without q.id (core t))) down =
      close q.stream c p v.streams (core_without q.id (core t)) down away (run.file, run.here, subst (λ g. IsVerdictOf p q.stream g version r) run.generation right) in
      still_good p t.mode down _ (cache_fits p v.streams _ down closed _ (put_right p t.limits.cache _ t.cache right fits.cache))
      so.keeps (each-filter (OpenFits down) (λ o. not (waits_for q.id o)) t.pended so.opens) so.boots refl plain_nil tt
      (each-map (IsJustified t.mode p) (λ (o : Pended). q.stream ≡ o.held.stream) (λ (o : Pended). judged r q.generation version o.held)
      (λ o is. justified-judged p t.mode r _ _ o.held (subst (λ u. q.generation ≡ generation_of p.streams u) is run.present) (subst (λ u. IsVerdictOf p u q.generation version r) is right)) _
      (each-filter_passed (OpenFits down) (λ (o : Pended). q.stream ≡ o.held.stream) (waits_for q.id) (λ o w g. same_stream down q o (asked_of p v.streams down q run) g w) t.pended so.opens))

  loses_good : Good p t.mode down (loses_all t v)
  unfolding loses_all
  loses_good =
      still_good p t.mode down _
      (record {
        present = fits.present;
        rises = lost_rises t.questions t.contexts fits.rises;
        contexts = lost_fit p v.streams t.questions t.contexts fits.rises fits.contexts;
        questions = tt;
        apart = tt;
        scanning = tt;
        cache = fits.cache;
        fresh = fits.fresh;
        sent = fits.sent;
        once = fits.once;
      })
      so.keeps tt so.boots refl plain_nil tt (by_mode_good p t v PortDisconnected _)

  restarts_good : Good p t.mode down (restarts t v)
  unfolding restarts Rises
  restarts_good =
      still_good p t.mode down _
      (record {
        present = fits.present;
        rises = tt;
        contexts = λ s. tt;
        questions = tt;
        apart = tt;
        scanning = tt;
        cache = tt;
        fresh = λ id later. fits.fresh id (older id later);
        sent = fits.sent;
        once = fits.once;
      })
      (record { streams = so.keeps.streams; last = so.keeps.last }) tt refl refl plain_nil tt (by_mode_good p t v FilterRestart _)
    where
      older : (id : MessageId) → FitLemmas.IsLater (v.boot + 1) 0 id → FitLemmas.IsLater t.boot t.sequence id
      older id (inl lt) = inl (omega arith)
      older id (inr h) = inl (omega (arith, h.0))

-- two reactions, one after the other
both_good : (p : Past) (mode : Mode) (down : List Letter) (v : Store) (r rest : Reaction) → r.volume ≡ v → Good p mode down r → Good p mode (down ++ r.messages) rest
    → Good p mode down (record { table = rest.table; volume = rest.volume; answers = r.answers ++ rest.answers; messages = r.messages ++ rest.messages; note = Quiet })
both_good p mode down v r rest same g h = record {
  fits = subst (FilterFits p rest.volume.streams (core rest.table)) (append_assoc down r.messages rest.messages) h.fits;
  keeps = h.keeps;
  opens = subst (λ ms. Each (OpenFits ms) rest.table.pended) (append_assoc down r.messages rest.messages) h.opens;
  boots = h.boots;
  justified = each-append (IsJustified mode p) r.answers rest.answers g.justified h.justified;
  mode_kept = h.mode_kept;
}

-- each question of a lost port is asked again
each_volume : (t : Table) (v : Store) (qs : List Question) → (again_each t v qs).volume ≡ v
unfolding again_each
each_volume t v [] = refl
each_volume t v (q ∷ qs) = refl

each_good : (p : Past) (mode : Mode) (v : Store) (qs : List Question) (t : Table) (down : List Letter) → FilterFits p v.streams (core t) down → Agrees p t v down
    → t.mode ≡ mode → AreInOrder qs → Each (RunsIn t) qs
    → Good p mode down (again_each t v qs)
unfolding again_each
each_good p mode v [] t down fits so mode_is order found =
    subst (λ m. Good p m down (only t v Quiet)) mode_is (still_good p t.mode down _ fits so.keeps so.opens so.boots refl plain_nil tt tt)
each_good p mode v (q ∷ qs) t down fits so mode_is order found =
    let test : Question → Bool = λ (k : Question). same_id k.id q.id in
    let run : Runs p v.streams down q = runs p v.streams (core t) down test q fits found.0 in
    let away : FitsAway q.stream p v.streams (core_without q.id (core t)) down = leave test q p v.streams (core t) down found.0 fits in
    let r : Reaction = again t v q [] in
    let o : Option Port = least_port t.connected in
    let row : AgainRow o t v q [] r = again_row o t v q [] in
    let first : Good p t.mode down r = again_good p t v down so row run.file away run.here (asked_of p v.streams down q run) plain_nil (none_sent p) in
    let same : r.volume ≡ v = again_volume row in
    let fits' : FilterFits p v.streams (core r.table) (down ++ r.messages) = subst (λ (w : Store). FilterFits p w.streams (core r.table) (down ++ r.messages)) same first.fits in
    let so' : Agrees p r.table v (down ++ r.messages) = record { boots = first.boots ∙ ap (λ (w : Store). w.boot) same; opens = first.opens; keeps = so.keeps } in
    let rest : Reaction = again_each r.table v qs in
    let next : Good p mode (down ++ r.messages) rest = each_good p mode v qs r.table (down ++ r.messages) fits' so' (first.mode_kept ∙ mode_is) order.1 (all_run t v o q qs order.0 found.1) in
    let all = both_good p mode down v r rest same (subst (λ m. Good p m down r) mode_is first) next in
    record {
      fits = subst (λ (w : Store). FilterFits p w.streams (core rest.table) (down ++ (r.messages ++ rest.messages))) (each_volume r.table v qs) all.fits;
      keeps = so.keeps;
      opens = all.opens;
      boots = all.boots ∙ ap (λ (w : Store). w.boot) (each_volume r.table v qs);
      justified = all.justified;
      mode_kept = all.mode_kept;
    }

-- the order of answers does not matter to them
placed_just : (P : Answer → Type 0) (a : Answer) (bs : List Answer) → P a → Each P bs → Each P (placed a bs)
placed_just P a [] h all = (h, tt)
placed_just P a (b ∷ bs) h all = cond_both (nat_le (open_of a) (open_of b)) (a ∷ b ∷ bs) (b ∷ placed a bs) (Each P) (λ e. (h, all)) (λ e. (all.0, placed_just P a bs h all.1))

pub order_just : (P : Answer → Type 0) (xs : List Answer) → Each P xs → Each P (in_order xs)
order_just P [] all = tt
order_just P (a ∷ xs) all = placed_just P a (in_order xs) all.0 (order_just P xs all.1)

moved_good : (p : Past) (t : Table) (v : Store) (down : List Letter) → FilterFits p v.streams (core t) down → Agrees p t v down → AreInOrder t.questions → (port : Port)
    → Good p t.mode down (moves t v (on_port port t.questions))
unfolding moves
moved_good p t v down fits so order port =
    let qs : List Question = on_port port t.questions in
    let r = again_each t v qs in
    let run : Each (RunsIn t) qs = each-filter (RunsIn t) (λ q. same_port q.port port) t.questions (all_found t.questions order) in
    let g : Good p t.mode down r = each_good p t.mode v qs t down fits so refl (order-filter (λ q. same_port q.port port) t.questions order) run in
    record {
      fits = subst (λ (w : Store). FilterFits p w.streams (core r.table) (down ++ r.messages)) (each_volume t v qs) g.fits;
      keeps = so.keeps;
      opens = g.opens;
      boots = g.boots ∙ ap (λ (w : Store). w.boot) (each_volume t v qs);
      justified = order_just (IsJustified t.mode p) r.answers g.justified;
      mode_kept = g.mode_kept;
    }

-- a change of a stream
module _ (p : Past) (t : Table) (v : Store) (down : List Letter) (fits : FilterFits p v.streams (core t) down) (so : Agrees p t v down)
    (c : Change) (ok : change_of v c ≡ Ok (changed_volume v c)) where
  abbrev w : Store
  w = changed_volume v c

  changed_so : Agrees (changes p c) t w down
  changed_so = record { boots = so.boots ∙ sym (changed_same v c).boot; opens = so.opens; keeps = kept_change v w p.streams c so.keeps ok }

  -- the table's contents stay, but for what fits the volume now
  changed_good : (t' : Table) → FilterFits (changes p c) w.streams (core t') down → t'.pended ≡ t.pended → t'.boot ≡ t.boot → t'.mode ≡ t.mode → Good (changes p c) t.mode down (only t' w Quiet)
  changed_good t' h opens boots mode =
      still_good (changes p c) t.mode down _ h changed_so.keeps (subst (Each (OpenFits down)) (sym opens) so.opens) (boots ∙ changed_so.boots) mode plain_nil tt tt

  created_good : (name : List ℕ) → c ≡ Create name → Good (changes p c) t.mode down (only t w Quiet)
  created_good name is =
      let fits' = subst (λ x. change_of v x ≡ Ok w → FilterFits (changes p x) w.streams (core t) down) (sym is) (λ e. create name p v w (core t) down so.keeps e fits) ok in
      changed_good t fits' refl refl refl

  -- a context is set where no question is
  set_good : (s : ℕ) (x : Option ContextState) → IsOf c s → ContextFits (changes p c) w.streams s x → question_of s t.questions ≡ None
      → Good (changes p c) t.mode down (only (marked t s x) w Quiet)
  set_good s x of h none =
      let away : FitsAway s (changes p c) w.streams (core t) down = change_away c p v w (core t) down so.keeps ok s of (leave_none s p v.streams (core t) down none fits) in
      changed_good (marked t s x) (close s x (changes p c) w.streams (core t) down away h) refl refl refl

  -- a question of the stream is asked again, or ends
  module _ (s : ℕ) (q : Question) (at : question_of s t.questions ≡ Some q) where
    is_stream : q.stream ≡ s
    is_stream = eqb-true q.stream s (find_passes (λ (q : Question). q.stream == s) t.questions q at)

    away : IsOf c s → FitsAway q.stream (changes p c) w.streams (core_without q.id (core t)) down
    away of =
        let left = leave (λ q. q.stream == s) q p v.streams (core t) down at fits in
        change_away c p v w (core_without q.id (core t)) down so.keeps ok q.stream (subst (IsOf c) (sym is_stream) of) left

    outdated_good : Rewrites s c → Good (changes p c) t.mode down (again t w q (via q.port (Abort q.id) ∷ []))
    outdated_good is =
        let of = rewrites_of c q.stream (subst (λ u. Rewrites u c) (sym is_stream) is) in
        let r : Runs p v.streams down q = runs p v.streams (core t) down (λ q. q.stream == s) q fits at in
        let f = stream_written v w p.streams c so.keeps ok q.stream r.file of.0 of.1 r.here in
        again_good (changes p c) t w down changed_so (again_row (least_port t.connected) t w q _) f.0 (away (subst (IsOf c) is_stream of.0)) f.1 (asked_of p v.streams down q r)
        (plain_abort q.port q.id) (abort_sent (changes p c) q.port q.id)

    gone_good : IsOf c s → Good (changes p c) t.mode down (closes t w q None (map (λ o. denied StreamRemoved o.held) (opens_of q.id t.pended)) (via q.port (Abort q.id) ∷ []))
    gone_good of =
        ended_good (changes p c) t w down changed_so q None _ (via q.port (Abort q.id) ∷ []) Quiet (away of) tt
        (each_mapped (IsJustified t.mode (changes p c)) (λ (o : Pended). denied StreamRemoved o.held) (λ o. tt) _) (plain_abort q.port q.id) (abort_sent (changes p c) q.port q.id)

-- what is asked of an event that comes: a message tells the truth, and a change is not refused
abbrev pub Comes : Past → List Letter → Table → Store → FilterEvent → Type 0
Comes p down t v (Receives m) = UpFits p down m
Comes p down t v (Changes c) = filter_refusal t v (Changes c) ≡ None
Comes p down t v _ = Unit {0}

module _ (p : Past) (t : Table) (v : Store) (down : List Letter) (fits : FilterFits p v.streams (core t) down) (so : Agrees p t v down) (order : AreInOrder t.questions) where
  -- a question that ends, its opens refused
  closed_good : (c : Cause) (test : Question → Bool) (q : Question) (ms : List Letter) → find test t.questions ≡ Some q → IsPlain ms → ((d : List Letter) → Each (DownFits p d) ms)
      → Good p t.mode down (closes t v q (Some context.Modified) (by_mode t v c (opens_of q.id t.pended)) ms)
  closed_good c test q ms at plain each =
      ended_good p t v down so q (Some context.Modified) _ ms Quiet (leave test q p v.streams (core t) down at fits) tt (by_mode_good p t v c _) plain each

  row_good : {e : FilterEvent} {r : Reaction} → Row t v e r → Comes p down t v e → Good (past_filter p e) t.mode down r
  unfolding filter_refusal asks
  row_good (Rows.opens s least r row) h =
      open_good p (raised least t) (taken v) down fits (record { boots = so.boots; opens = so.opens; keeps = record { streams = so.keeps.streams; last = so.keeps.last } }) row
  row_good (Rows.created name) h = created_good p t v down fits so (Create name) (accepted v (Create name) h) name refl
  row_good (Rows.rewritten c s is at) h = set_good p t v down fits so c (accepted v c h) s (Some context.Modified) (rewrites_of c s is).0 tt at
  row_good (Rows.outdated c s q is at) h = outdated_good p t v down fits so c (accepted v c h) s q at is
  row_good (Rows.removed s at) h = set_good p t v down fits so (Remove s) (accepted v (Remove s) h) s None refl tt at
  row_good (Rows.gone s q at) h = gone_good p t v down fits so (Remove s) (accepted v (Remove s) h) s q at refl
  row_good (Rows.cleaned s f port at modified e) h =
      let none : question_of s t.questions ≡ None = no_question t.contexts t.questions fits.scanning s modified in
      record {
        fits = asked_fits p t v down fits so s f port at none;
        keeps = so.keeps;
        opens = opens_grow down _ t.pended so.opens;
        boots = so.boots;
        justified = tt;
        mode_kept = refl;
      }
  row_good (Rows.greeted port number version same free up) h = quiet_good p t v down fits so _ _ fits so.opens so.boots refl
  row_good (Rows.updated port version) h = quiet_good p t v down fits so _ _ fits so.opens so.boots refl
  row_good (Rows.not_read port id offset count c) h = still_good p t.mode down _ fits so.keeps so.opens so.boots refl (plain_no_chunk port id offset c) (tt, tt) tt
  row_good (Rows.read port id offset count q at more) h = read_good p t v down fits so port id offset count q at
  row_good (Rows.failed port id why q at) h = closed_good ScanFailed (λ q. same_id q.id id && same_port q.port port) q [] at plain_nil (none_sent p)
  row_good (Rows.stale port id version r q at old) h =
      let test : Question → Bool = λ q. same_id q.id id && same_port q.port port in
      let run : Runs p v.streams down q = runs p v.streams (core t) down test q fits at in
      let away = leave test q p v.streams (core t) down at fits in
      again_good p t v down so (again_row (least_port t.connected) t v q []) run.file away run.here (asked_of p v.streams down q run) plain_nil (none_sent p)
  row_good (Rows.replied port id version r q at up) h = replied_good p t v down fits so port id version r q at h
  row_good (Rows.timed_out seq q at) h =
      closed_good TimedOut (λ q. same_id q.id (record { boot = t.boot; seq = seq })) q (via q.port (Abort q.id) ∷ []) at (plain_abort q.port q.id) (abort_sent p q.port q.id)
  row_good (Rows.moved port other left) h = moved_good p (without t port) v down fits (record { boots = so.boots; opens = so.opens; keeps = so.keeps }) order port
  row_good (Rows.lost port none) h = loses_good p (without t port) v down fits (record { boots = so.boots; opens = so.opens; keeps = so.keeps })
  row_good Rows.restarted h = restarts_good p t v down fits so
  row_good _ h = quiet_good p t v down fits so t _ fits so.opens so.boots refl

pub filter_good : (p : Past) (t : Table) (v : Store) (down : List Letter) → FilterFits p v.streams (core t) down → t.boot ≡ v.boot → Each (OpenFits down) t.pended
    → Keeps v (map now p.streams) → AreInOrder t.questions
    → (e : FilterEvent) → Comes p down t v e → Good (past_filter p e) t.mode down (filter_step t v e)
filter_good p t v down fits boots opens keeps order e h = row_good p t v down fits (record { boots = boots; opens = opens; keeps = keeps }) order (row_of t v e) h

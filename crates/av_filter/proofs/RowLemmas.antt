-- What each event does is one of the conduct's rows.
use Rattle.std.proofs.Common.{◌≡◌, ℕ, ◌==◌, ◌&&◌, Bool, true, false, not, nat_le, nat_lt, List, length, Option, Some, None, refl}
use Rattle.std.proofs.lemmas.Bool.{cond_both, not-false, not-true}
use Rattle.std.specs.List.{list_any}
use Rattle.std.specs.Option.{is_some}
use Rattle.av_base.specs.declared.message_id.MessageId.{MessageId}
use Rattle.av_base.specs.declared.port.Port.{Port}
use Rattle.av_base.specs.declared.verdict.Verdict.{Verdict}
use Rattle.av_cache.specs.Cache.{look}
use Rattle.av_cache.specs.declared.entry.Entry.{Entry}
use Rattle.av_filter.specs.Again.{again_at, ends}
use Rattle.av_filter.specs.Changing.{changed_volume, changes, cleaned, cleaned_at, removed, rewritten}
use Rattle.av_filter.specs.Conduct.{FilterEvent, Opens, Changes, CleansUp, Receives, TimesOut, Disconnects, Restarts, disconnects, disconnects_to, filter_step, times_out}
use Rattle.av_filter.specs.Opening.{open_asked, open_cached, open_found, open_judged, open_new, opened, taken}
use Rattle.av_filter.specs.Receiving.{greeted, reads, receives_at, replies}
use Rattle.av_filter.specs.Reaction.{Reaction}
use Rattle.av_filter.specs.Rows
use Rattle.av_filter.specs.Rows.{AgainRow, OpenRow, Rewrites, Row, without}
use Rattle.av_filter_table.specs.Answering.{present_bytes}
use Rattle.av_filter_table.specs.Asking.{is_held}
use Rattle.av_filter_table.specs.Ports.{is_open, least_port, without_port}
use Rattle.av_filter_table.specs.Table.{Table, asking, context_of, current, has_room, is_modified, question_at, question_of, question_on, raised, sequence_left}
use Rattle.av_filter_table.specs.declared.question.Question.{Question}
use Rattle.av_frame.specs.Message.{Letter, via}
use Rattle.av_frame.specs.declared.cause.NoChunkCause.TheVariants.{NoQuestion, PastEnd}
use Rattle.av_frame.specs.declared.message.Body.{Body}
use Rattle.av_frame.specs.declared.message.Body.TheVariants.{Hello, Read, Reply, Updated}
use Rattle.av_frame.specs.declared.outcome.Outcome.{Outcome}
use Rattle.av_frame.specs.declared.outcome.Outcome.TheVariants.{Failed, Judged}
use Rattle.av_store.specs.Files.{Change, Create, Write, Cut, Remove}
use Rattle.av_store.specs.Rows.{stream_at}
use Rattle.av_store.specs.Store.{Store}
use Rattle.av_store.specs.declared.stream.Stream.{Stream}

-- a question that is asked again
pub again_row : (o : Option Port) (t : Table) (v : Store) (q : Question) (early : List Letter) → AgainRow o t v q early (again_at o t v q early)
unfolding again_at
again_row None t v q early = Rows.over (λ port e. absurd (cc (e)))
again_row (Some port) t v q early =
    cond_both (list_any (is_held q.id) t.pended && sequence_left t) _ _ (AgainRow (Some port) t v q early) (λ e. Rows.anew port refl e)
    (λ e. Rows.over (λ p at. e))

pub again_volume : {o : Option Port} {t : Table} {v : Store} {q : Question} {early : List Letter} {r : Reaction} → AgainRow o t v q early r → r.volume ≡ v
unfolding ends
again_volume (Rows.anew port at left) = refl
again_volume (Rows.over why) = refl

-- an open of a stream that is there
module _ (t : Table) (v : Store) (s least : ℕ) (x : Stream) (at : stream_at s v.streams ≡ Some x) where
  new_row : question_of s t.questions ≡ None → has_room t ≡ true → (o : Option Port) → least_port t.connected ≡ o → (p : Option Port) → asking t ≡ p
      → OpenRow t v s least (open_new t v s least x (is_some o) p)
  unfolding open_new
  new_row none room None off p e = Rows.hindered x _ at (Rows.not_connected off)
  new_row none room (Some to) on None e = Rows.hindered x _ at (Rows.not_asked to on e)
  new_row none room (Some to) on (Some port) e = Rows.asked x port at none room e

  cached_row : question_of s t.questions ≡ None → (o : Option Entry) → look s x.generation t.floor t.cache ≡ o → OpenRow t v s least (open_cached t v s least x o)
  unfolding open_cached
  cached_row none (Some e) found = Rows.cached x e at none found
  cached_row none None found =
      cond_both (not (has_room t)) _ _ (OpenRow t v s least) (λ e. Rows.hindered x _ at (Rows.full (not-true (has_room t) e)))
      (λ e. new_row none (not-false (has_room t) e) (least_port t.connected) refl (asking t) refl)

  asked_row : (o : Option Question) → question_of s t.questions ≡ o → OpenRow t v s least (open_asked t v s least x o)
  unfolding open_asked
  asked_row (Some q) found = cond_both (has_room t) _ _ (OpenRow t v s least) (λ e. Rows.joins x q at found e) (λ e. Rows.hindered x _ at (Rows.full e))
  asked_row None found = cached_row found _ refl

  judged_row : (o : Option Verdict) → current (context_of t.contexts s) t.floor ≡ o → OpenRow t v s least (open_judged t v s least x o)
  unfolding open_judged
  judged_row (Some r) known = Rows.known x r at known
  judged_row None known = asked_row _ refl

pub open_row : (t : Table) (v : Store) (s least : ℕ) (o : Option Stream) → stream_at s v.streams ≡ o → OpenRow t v s least (open_found t v s least o)
unfolding open_found
open_row t v s least None at = Rows.no_stream at
open_row t v s least (Some x) at = judged_row t v s least x at _ refl

module _ (t : Table) (v : Store) where
  rewritten_row : (c : Change) (s : ℕ) → Rewrites s c → (o : Option Question) → question_of s t.questions ≡ o → Row t v (Changes c) (rewritten t (changed_volume v c) s o)
  unfolding rewritten
  rewritten_row c s is None at = Rows.rewritten c s is at
  rewritten_row c s is (Some q) at = Rows.outdated c s q is at

  removed_row : (s : ℕ) (o : Option Question) → question_of s t.questions ≡ o → Row t v (Changes (Remove s)) (removed t (changed_volume v (Remove s)) s o)
  unfolding removed
  removed_row s None at = Rows.removed s at
  removed_row s (Some q) at = Rows.gone s q at

  change_row : (c : Change) → Row t v (Changes c) (changes t v c)
  unfolding changes
  change_row (Create name) = Rows.created name
  change_row (Write s o b) = rewritten_row (Write s o b) s refl _ refl
  change_row (Cut s n) = rewritten_row (Cut s n) s refl _ refl
  change_row (Remove s) = removed_row s _ refl

  cleaned_at_row : (s : ℕ) (x : Stream) → stream_at s v.streams ≡ Some x → (b : Bool) → is_modified (context_of t.contexts s) ≡ b → (o : Option Port) → asking t ≡ o
      → Row t v (CleansUp s) (cleaned_at t v s b o)
  unfolding cleaned_at
  cleaned_at_row s x at true is (Some port) e = Rows.cleaned s x port at is e
  cleaned_at_row s x at true is None e = Rows.clean s
  cleaned_at_row s x at false is (Some port) e = Rows.clean s
  cleaned_at_row s x at false is None e = Rows.clean s

  cleaned_row : (s : ℕ) (o : Option Stream) → stream_at s v.streams ≡ o → Row t v (CleansUp s) (cleaned t v s o)
  unfolding cleaned
  cleaned_row s None at = Rows.not_there s
  cleaned_row s (Some x) at = cleaned_at_row s x at _ refl _ refl

  reads_row : (port : Port) (id : MessageId) (offset count : ℕ) (o : Option Question) → question_on port id t.questions ≡ o
      → Row t v (Receives (via port (Read id offset count))) (reads t v port id offset count o)
  unfolding reads
  reads_row port id offset count None at = Rows.not_read port id offset count NoQuestion
  reads_row port id offset count (Some q) at =
      cond_both (nat_le (length (present_bytes v q.stream)) offset) _ _ (Row t v (Receives (via port (Read id offset count)))) (λ e. Rows.not_read port id offset count PastEnd)
      (λ e. Rows.read port id offset count q at e)

  replies_row : (port : Port) (id : MessageId) (k : Outcome) (o : Option Question) → question_on port id t.questions ≡ o → Row t v (Receives (via port (Reply id k))) (replies t v k o)
  unfolding replies
  replies_row port id k None at = Rows.no_waiter port id k
  replies_row port id (Failed why) (Some q) at = Rows.failed port id why q at
  replies_row port id (Judged version r) (Some q) at =
      cond_both (nat_lt version t.floor) _ _ (Row t v (Receives (via port (Reply id (Judged version r))))) (λ e. Rows.stale port id version r q at e)
      (λ e. Rows.replied port id version r q at e)

  receives_row : (port : Port) (m : Body) → Row t v (Receives (via port m)) (receives_at t v port m)
  unfolding receives_at greeted
  receives_row port (Hello number version) =
      let P = Row t v (Receives (via port (Hello number version))) in
      cond_both (not (number == v.number)) _ _ P (λ e. Rows.other_volume port number version)
      (λ same. cond_both (is_open port t.connected) _ _ P (λ e. Rows.taken_port port number version)
      (λ free. cond_both (nat_lt version t.floor) _ _ P (λ e. Rows.old_version port number version)
      (λ e. Rows.greeted port number version (not-false (number == v.number) same) free e)))
  receives_row port (Updated version) = Rows.updated port version
  receives_row port (Read id offset count) = reads_row port id offset count _ refl
  receives_row port (Reply id k) = replies_row port id k _ refl
  receives_row port m = Rows.ignored (via port m)

  timed_row : (seq : ℕ) (o : Option Question) → question_at (record { boot = t.boot; seq = seq }) t.questions ≡ o → Row t v (TimesOut seq) (times_out t v o)
  unfolding times_out
  timed_row seq None at = Rows.not_waited seq
  timed_row seq (Some q) at = Rows.timed_out seq q at

  lost_row : (port : Port) (o : Option Port) → least_port (without_port port t.connected) ≡ o → Row t v (Disconnects port) (disconnects_to o (without t port) v port)
  unfolding disconnects_to
  lost_row port None e = Rows.lost port e
  lost_row port (Some other) e = Rows.moved port other e

  pub row_of : (e : FilterEvent) → Row t v e (filter_step t v e)
  unfolding filter_step opened disconnects
  row_of (Opens s least) = Rows.opens s least _ (open_row (raised least t) (taken v) s least _ refl)
  row_of (Changes c) = change_row c
  row_of (CleansUp s) = cleaned_row s _ refl
  row_of (Receives m) = receives_row m.port m.body
  row_of (TimesOut seq) = timed_row seq _ refl
  row_of (Disconnects port) = lost_row port _ refl
  row_of Restarts = Rows.restarted

-- A content becomes a stream, or is taken away again.
use Rattle.std.proofs.Common.{◌≡◌, ℕ, ◌+◌, true, false, cond, List, [], ◌∷◌, ◌++◌, length, drop, Option, Some, None, Result, Ok, Err, refl, arith, ap, ◌∙◌, sym, subst}
use Rattle.std.proofs.lemmas.List.{append-nil}
use Rattle.std.proofs.lemmas.Bool.Decides.{nat_tests}
use Rattle.std.specs.Option.{option_map}
use Rattle.std.specs.Prelude.{is_some, not, ◌||◌, nat_le, if◌then◌else◌}
use Rattle.std.specs.Result.{result_err}
use Rattle.std.proofs.lemmas.Bool.{cond_both}
use Rattle.std.specs.Prelude.{◌==◌, nat_lt, IsOk}
use Rattle.std.proofs.Math.Seq.{drop-nil}
use Rattle.av_base.specs.declared.limits.LimitValues.{LimitValues}
use Rattle.av_base.specs.Answers.{Answers}
use Rattle.av_base.specs.declared.refusal.Refusal.{Refusal}
use Rattle.av_base.specs.declared.refusal.Refusal.TheVariants.{Fault, NoMemory}
use Rattle.av_context.specs.Contexts.{set_at}
use Rattle.av_context.specs.declared.context_state.ContextState.TheVariants.{Modified}
use Rattle.av_filter.proofs.EachLemmas.{find_each}
use Rattle.av_filter.proofs.FitLemmas.{accepted, creation_fits as created_fits}
use Rattle.av_filter.proofs.ReadyLemmas.{stream_of as stream_of_question}
use Rattle.av_filter.specs.Changing.{changed_volume, changes, rewritten}
use Rattle.av_filter.specs.Fit.{IsPresent}
use Rattle.av_filter_table.specs.Table.{question_of}
use Rattle.av_filter_table.specs.declared.question.Question.{Question}
use Rattle.av_store.specs.Content.{written}
use Rattle.av_store.specs.Files.{Change}
use Rattle.av_store.specs.Store.{on_stream, put_stream, write_of}
use Rattle.av_filter.specs.Conduct.{Changes, filter_refusal, filter_step}
use Rattle.av_filter.specs.Fit.{Fits}
use Rattle.av_filter.specs.Reaction.{Reaction, only}
use Rattle.av_filter.specs.Storing.{IsFaultOf, IsStored, IsUnkept, IsWhy, Same, Spent, stored, stream_with, written_then}
use Rattle.av_filter.specs.Call.{Meets}
use Rattle.av_filter.specs.declared.fault.FilterFault.{FilterFault}
use Rattle.av_filter.specs.declared.fault.FilterFault.TheVariants as filter_fault
use Rattle.av_filter.specs.declared.note.Note.TheVariants.{Quiet}
use Rattle.av_filter_table.specs.Table.{Table}
use Rattle.av_store.specs.Content.{new_stream}
use Rattle.av_store.specs.Files.{Create, Write}
use Rattle.av_store.specs.declared.fault.StoreFault.{StoreFault}
use Rattle.av_store.specs.declared.fault.StoreFault.TheVariants.{NoStream}
use Rattle.av_store.specs.Rows.{Streams, is_number, number_named, replaced, stream_at, without}
use Rattle.av_store.specs.Seen.{change_of, kept_or, volume_of}
use Rattle.av_store.specs.Store.{Store, create_of, greatest, is_name, remove_of, with_streams}
use Rattle.av_store.specs.declared.stream.Stream.{Stream}

is_own : (n : ℕ) → is_number n n ≡ true
is_own n = grind (arith, nat_tests)

-- the last of some streams, whose number no other has: replaced, and taken away
pub replaced_last : (ss : Streams) (id : ℕ) (x y : Stream) → stream_at id ss ≡ None → replaced id y (ss ++ (id, x) ∷ []) ≡ ss ++ (id, y) ∷ []
replaced_last [] id x y away = ap (λ b. cond b ((id, y) ∷ []) ((id, x) ∷ [])) (is_own id)
replaced_last (s ∷ ss) id x y away =
    (elim (is_number id s.0) as (λ b. cond b (Some s.1) (stream_at id ss) ≡ None → cond b ((s.0, y) ∷ (ss ++ (id, x) ∷ [])) (s ∷ replaced id y (ss ++ (id, x) ∷ [])) ≡ s ∷ (ss ++ (id, y) ∷ [])) [
      | true ↦ λ bad. absurd cc
      | false ↦ λ rest. ap (λ k. s ∷ k) (replaced_last ss id x y rest)
    ]) away

pub without_last : (ss : Streams) (id : ℕ) (x : Stream) → stream_at id ss ≡ None → without id (ss ++ (id, x) ∷ []) ≡ ss
without_last [] id x away = ap (λ b. cond b [] ((id, x) ∷ [])) (is_own id)
without_last (s ∷ ss) id x away =
    (elim (is_number id s.0) as (λ b. cond b (Some s.1) (stream_at id ss) ≡ None → cond b (ss ++ (id, x) ∷ []) (s ∷ without id (ss ++ (id, x) ∷ [])) ≡ s ∷ ss) [
      | true ↦ λ bad. absurd cc
      | false ↦ λ rest. ap (λ k. s ∷ k) (without_last ss id x rest)
    ]) away

pub at_last : (ss : Streams) (id : ℕ) (x : Stream) → stream_at id ss ≡ None → stream_at id (ss ++ (id, x) ∷ []) ≡ Some x
at_last [] id x away = ap (λ b. cond b (Some x) None) (is_own id)
at_last (s ∷ ss) id x away =
    (elim (is_number id s.0) as (λ b. cond b (Some s.1) (stream_at id ss) ≡ None → cond b (Some s.1) (stream_at id (ss ++ (id, x) ∷ [])) ≡ Some x) [
      | true ↦ λ bad. absurd cc
      | false ↦ λ rest. at_last ss id x rest
    ]) away

-- a stream that was created
pub record IsCreated (v w : Store) (name : List ℕ) (id : ℕ) : Type 0 where
  pub number : id ≡ v.last + 1
  pub whole : w ≡ record v { streams = v.streams ++ (v.last + 1, new_stream name) ∷ []; last = v.last + 1 }

pub created_as : (v w : Store) (name : List ℕ) (id : ℕ) → create_of v name ≡ Ok (id, w) → IsCreated v w name id
created_as v w name id =
    cond_both (not (is_name name)) _ _ (λ (r : Result (ℕ × Store) StoreFault). r ≡ Ok (id, w) → IsCreated v w name id) (λ e bad. absurd cc)
    (λ e. cond_both (is_some (number_named name v.streams)) _ _ (λ (r : Result (ℕ × Store) StoreFault). r ≡ Ok (id, w) → IsCreated v w name id) (λ e bad. absurd cc)
    (λ e. cond_both (nat_le v.limits.streams (length v.streams) || nat_le greatest v.last) _ _ (λ (r : Result (ℕ × Store) StoreFault). r ≡ Ok (id, w) → IsCreated v w name id) (λ e bad. absurd cc)
    (λ e ok. let pair : ◌≡◌ {A = ℕ × Store} (v.last + 1, record v { streams = v.streams ++ (v.last + 1, new_stream name) ∷ []; last = v.last + 1 }) (id, w) = cc in
    record { number = sym (ap (λ p. p.0) pair); whole = sym (ap (λ p. p.1) pair) })))

-- the filter knows nothing of a creation
pub created_is : (t : Table) (v w : Store) (name : List ℕ) (id : ℕ) → create_of v name ≡ Ok (id, w) → filter_step t v (Changes (Create name)) ≡ only t w Quiet
unfolding filter_step changes change_of
created_is t v w name id ok = ap (λ r. only t (kept_or v (volume_of r)) Quiet) ok

pub creation_taken : (t : Table) (v w : Store) (name : List ℕ) (id : ℕ) → create_of v name ≡ Ok (id, w) → filter_refusal t v (Changes (Create name)) ≡ None
unfolding filter_refusal change_of
creation_taken t v w name id ok = ap (λ r. option_map filter_fault.Store (result_err (volume_of r))) ok

pub creation_fits : (t : Table) (v w : Store) (name : List ℕ) (id : ℕ) → Fits t v → create_of v name ≡ Ok (id, w) → Fits t w
creation_fits t v w name id fits ok = subst (λ (r : Reaction). Fits r.table r.volume) (created_is t v w name id ok) (created_fits t v name fits (creation_taken t v w name id ok))

-- a stream was created beside it, or not
pub fits_created : (r : Result ℕ (Refusal StoreFault)) (t : Table) (v w : Store) (name : List ℕ) → Answers v w r (create_of v name) → Fits t v → Fits t w
fits_created (Ok id) t v w name is fits = creation_fits t v w name id fits is
fits_created (Err (Fault f)) t v w name is fits = subst (Fits t) (sym is.1) fits
fits_created (Err NoMemory) t v w name is fits = subst (Fits t) (sym is.1) fits

-- a creation that is refused changes nothing
pub not_created : (v w : Store) (name : List ℕ) (e : Refusal StoreFault) → Answers v w (Err e) (create_of v name) → w ≡ v
not_created v w name (Fault f) is = is.1
not_created v w name NoMemory is = is.1

-- a volume whose last number alone is another
pub spent_fits : (t : Table) (v : Store) (n : ℕ) → Fits t v → Fits t (record v { last = n })
spent_fits t v n f = record {
  boots = f.boots;
  there = f.there;
  present = f.present;
  taken = f.taken;
}

-- a stream that was created is taken away
pub undone : (v w : Store) (name : List ℕ) (id : ℕ) (u : Store) → stream_at (v.last + 1) v.streams ≡ None → create_of v name ≡ Ok (id, w) → remove_of w id ≡ Ok u → u ≡ record v { last = v.last + 1 }
undone v w name id u away ok gone =
    let made = created_as v w name id ok in
    let x = new_stream name in
    let made_w : Store = record v { streams = v.streams ++ (v.last + 1, x) ∷ []; last = v.last + 1 } in
    let there : is_some (stream_at (v.last + 1) made_w.streams) ≡ true = ap is_some (at_last v.streams (v.last + 1) x away) in
    let removed_so : remove_of made_w (v.last + 1) ≡ Ok (record v { streams = without (v.last + 1) made_w.streams; last = v.last + 1 }) =
    ap (λ b. with_streams made_w (if b then Ok (without (v.last + 1) made_w.streams) else Err NoStream)) there in
    let same : remove_of made_w (v.last + 1) ≡ Ok u = subst (λ n. remove_of made_w n ≡ Ok u) made.number (subst (λ s. remove_of s id ≡ Ok u) made.whole gone) in
    let is : u ≡ record v { streams = without (v.last + 1) made_w.streams; last = v.last + 1 } = cc in
    is ∙ ap (λ ss. record v { streams = ss; last = v.last + 1 }) (without_last v.streams (v.last + 1) x away)

pub removable : (v w : Store) (name : List ℕ) (id : ℕ) → stream_at (v.last + 1) v.streams ≡ None → create_of v name ≡ Ok (id, w) → IsOk (remove_of w id)
removable v w name id away ok =
    let made = created_as v w name id ok in
    let there : stream_at id w.streams ≡ Some (new_stream name) =
    ap (λ (s : Store). stream_at id s.streams) made.whole ∙ ap (λ n. stream_at n (v.streams ++ (v.last + 1, new_stream name) ∷ [])) made.number ∙ at_last v.streams (v.last + 1) (new_stream name) away in
    subst (λ b. IsOk (with_streams w (if b then Ok (without id w.streams) else Err NoStream))) (sym (ap is_some there)) refl

-- the step of a write to one stream
record Step (w u : Store) (id : ℕ) (c : List ℕ) (x : Stream) : Type 0 where
  after : Stream
  wrote : written w.limits 0 c x ≡ Ok after
  whole : u ≡ record w { streams = replaced id after w.streams }

step_of : (w u : Store) (id : ℕ) (c : List ℕ) (x : Stream) → stream_at id w.streams ≡ Some x → write_of w id 0 c ≡ Ok u → Step w u id c x
step_of w u id c x there ok = go (written w.limits 0 c x) refl (sym (ap (λ o. with_streams w (put_stream w.streams id (on_stream o (written w.limits 0 c)))) there) ∙ ok)
  where
    go : (r : Result Stream StoreFault) → written w.limits 0 c x ≡ r → with_streams w (put_stream w.streams id r) ≡ Ok u → Step w u id c x
    go (Ok y) e is = record { after = y; wrote = e; whole = let same : record w { streams = replaced id y w.streams } ≡ u = cc in sym same }
    go (Err f) e is = absurd cc

written_new : (limits : LimitValues) (name c : List ℕ) (y : Stream) → written limits 0 c (new_stream name) ≡ Ok y → y ≡ stream_with name c
written_new limits name c y =
    cond_both (nat_lt limits.length (0 + length c)) _ _ (λ (r : Result Stream StoreFault). r ≡ Ok y → y ≡ stream_with name c) (λ e bad. absurd cc)
    (λ e. cond_both (nat_le limits.generation 1) _ _ (λ (r : Result Stream StoreFault). r ≡ Ok y → y ≡ stream_with name c) (λ e bad. absurd cc)
    (λ e ok. let same : ◌≡◌ {A = Stream} (record { name = name; generation = 2; bytes = c ++ drop (0 + length c) [] }) y = cc in
    let bytes : c ++ drop (0 + length c) [] ≡ c = ap (λ xs. c ++ xs) (drop-nil (0 + length c)) ∙ append-nil c in
    sym same ∙ ap (λ bs. record { name = name; generation = 2; bytes = bs }) bytes))

-- no question is of a stream that is not there
pub no_question : (t : Table) (v : Store) (s : ℕ) → Fits t v → stream_at s v.streams ≡ None → question_of s t.questions ≡ None
no_question t v s fits away = go (question_of s t.questions) refl
  where
    go : (o : Option Question) → question_of s t.questions ≡ o → o ≡ None
    go None e = refl
    go (Some q) e =
        let present : IsPresent v.streams q = find_each (IsPresent v.streams) (λ (k : Question). k.stream == s) t.questions q fits.present e in
        let same : q.stream ≡ s = stream_of_question t.questions s q e in
        let there : stream_at s v.streams ≡ Some present.0 = sym (ap (λ n. stream_at n v.streams) same) ∙ present.1 in
        absurd cc

-- it is stored: a creation, and a write
pub stored_by : (t t' : Table) (v w w' : Store) (name c : List ℕ) (id : ℕ) → Fits t v → stream_at (v.last + 1) v.streams ≡ None → create_of v name ≡ Ok (id, w) → filter_refusal t w (Changes (Write id 0 c)) ≡ None → t' ≡ (filter_step t w (Changes (Write id 0 c))).table → w' ≡ (filter_step t w (Changes (Write id 0 c))).volume → IsStored t v name c t' w'
unfolding filter_step filter_refusal changes change_of rewritten
stored_by t t' v w w' name c id fits away ok taken table volume =
    let made = created_as v w name id ok in
    let s = v.last + 1 in
    let number : id ≡ s = made.number in
    let first : filter_step t v (Changes (Create name)) ≡ only t w Quiet = created_is t v w name id ok in
    let ch : Change = Write s 0 c in
    let second : filter_step t w (Changes (Write id 0 c)) ≡ stored t v name c =
    ap (λ n. filter_step t w (Changes (Write n 0 c))) number ∙ ap (λ (r : Reaction). filter_step r.table r.volume (Changes (Write s 0 c))) (sym first) in
    let third : filter_step t w (Changes ch) ≡ stored t v name c = sym (ap (λ n. filter_step t w (Changes (Write n 0 c))) number) ∙ second in
    let accepted_so : write_of w s 0 c ≡ Ok (changed_volume w ch) = accepted w ch (subst (λ n. filter_refusal t w (Changes (Write n 0 c)) ≡ None) number taken) in
    let there : stream_at s w.streams ≡ Some (new_stream name) = ap (λ (u : Store). stream_at s u.streams) made.whole ∙ at_last v.streams s (new_stream name) away in
    let step = step_of w (changed_volume w ch) s c (new_stream name) there accepted_so in
    let content : step.after ≡ stream_with name c = written_new w.limits name c step.after step.wrote in
    let unasked : question_of s t.questions ≡ None = no_question t v s fits away in
    let quiet : filter_step t w (Changes ch) ≡ only (record t { contexts = set_at t.contexts s (Some Modified) }) (changed_volume w ch) Quiet =
    ap (λ o. rewritten t (changed_volume w ch) s o) unasked in
    let all : stored t v name c ≡ only (record t { contexts = set_at t.contexts s (Some Modified) }) (changed_volume w ch) Quiet = sym third ∙ quiet in
    let table_is : t' ≡ (stored t v name c).table = table ∙ ap (λ (r : Reaction). r.table) second in
    let volume_is : w' ≡ (stored t v name c).volume = volume ∙ ap (λ (r : Reaction). r.volume) second in
    let volume_whole : w' ≡ record w { streams = replaced s step.after w.streams } = volume_is ∙ ap (λ (r : Reaction). r.volume) all ∙ step.whole in
    record {
      creates = creation_taken t v w name id ok;
      writes =
          subst (λ (r : Reaction). filter_refusal r.table r.volume (Changes ch) ≡ None) (sym first)
          (subst (λ n. filter_refusal t w (Changes (Write n 0 c)) ≡ None) number taken);
      table = table_is;
      volume = volume_is;
      streams =
          ap (λ (u : Store). u.streams) volume_whole
          ∙ ap (λ x. replaced s x w.streams) content
          ∙ ap (λ (u : Store). replaced s (stream_with name c) u.streams) made.whole
          ∙ replaced_last v.streams s (new_stream name) (stream_with name c) away;
      pended = ap (λ (u : Table). u.pended) (table_is ∙ ap (λ (r : Reaction). r.table) all);
      opens = ap (λ (u : Store). u.opens) volume_whole ∙ ap (λ (u : Store). u.opens) made.whole;
      answers = ap (λ (r : Reaction). r.answers) all;
      messages = ap (λ (r : Reaction). r.messages) all;
    }

-- it could not be written, and was taken away
pub unkept : (t t' : Table) (v w w' u : Store) (name : List ℕ) (id : ℕ) → stream_at (v.last + 1) v.streams ≡ None → create_of v name ≡ Ok (id, w) → t' ≡ t → w' ≡ w → remove_of w' id ≡ Ok u → IsUnkept t v t' u
unkept t t' v w w' u name id away ok table volume gone = Spent table (undone v w name id u away ok (subst (λ x. remove_of x id ≡ Ok u) volume gone))

pub unkept_fits : (t t' : Table) (v u : Store) → Fits t v → IsUnkept t v t' u → Fits t' u
unkept_fits t t' v u fits (Same table volume) = subst (λ x. Fits x u) (sym table) (subst (λ x. Fits t x) (sym volume) fits)
unkept_fits t t' v u fits (Spent table volume) = subst (λ x. Fits x u) (sym table) (subst (λ x. Fits t x) (sym volume) (spent_fits t v (v.last + 1) fits))

-- why it is refused: as it is created
pub creation_refused : (v w : Store) (name c : List ℕ) (e : Refusal StoreFault) → Answers v w (Err e) (create_of v name) → IsWhy v name c e
creation_refused v w name c (Fault f) is = ap (written_then c) is.0
creation_refused v w name c NoMemory is = is.0

-- as it is written
pub write_refused : (v w : Store) (name c : List ℕ) (id : ℕ) (e : Refusal StoreFault) → create_of v name ≡ Ok (id, w) → IsFaultOf e (write_of w id 0 c) → IsWhy v name c e
write_refused v w name c id (Fault f) ok is = ap (written_then c) ok ∙ is
write_refused v w name c id NoMemory ok is = subst IsOk (sym ok) refl

-- the fault of a write is the volume's
pub fault_of_write : (t : Table) (w : Store) (id : ℕ) (c : List ℕ) (f : StoreFault) → filter_refusal t w (Changes (Write id 0 c)) ≡ Some (filter_fault.Store f) → write_of w id 0 c ≡ Err f
unfolding filter_refusal change_of
fault_of_write t w id c f is = go (write_of w id 0 c) is
  where
    go : (r : Result Store StoreFault) → option_map filter_fault.Store (result_err r) ≡ Some (filter_fault.Store f) → r ≡ Err f
    go (Ok u) e = absurd (cc (e))
    go (Err g) e = let same : g ≡ f = cc in ap Err same

pub fault_met : (t t' : Table) (w w' : Store) (id : ℕ) (c : List ℕ) (f : StoreFault) (r : Reaction) (e : Refusal FilterFault) (g : FilterFault) → e ≡ Fault g → g ≡ filter_fault.Store f
    → Meets t w t' w' (Err e) (filter_refusal t w (Changes (Write id 0 c))) r → write_of w id 0 c ≡ Err f
fault_met t t' w w' id c f r (Fault h) g is of meets = let same : h ≡ g = cc in fault_of_write t w id c f (meets.0 ∙ ap Some (same ∙ of))
fault_met t t' w w' id c f r NoMemory g is of meets = absurd (cc (is))

-- Volumes that are made of files.
use Rattle.std.proofs.Common.{ℕ, ◌≡◌, ◌<◌, ◌≤◌, ◌+◌, ◌++◌, true, false, cond, List, [], ◌∷◌, length, take, drop, Option, None, Some, Result, Ok, Err, nat_lt, nat_le, not, ◌||◌, refl, sym, ap, ◌∙◌, subst, append-nil, length-append, arith}
use Rattle.std.proofs.Math.Seq.{drop-nil}
use Rattle.av_base.specs.declared.limits.LimitValues.{LimitValues}
use Rattle.std.specs.declared.cmp.Ordering.TheVariants.{Greater}
use Rattle.std.specs.Cmp.{nat_cmp_is, eq_by_cmp_equiv}
use Rattle.std.specs.Prelude.{is_some}
use Rattle.std.proofs.lemmas.Bool.{cond_both}
use Rattle.std.proofs.lemmas.Cmp.{nat_cmp_total}
use Rattle.av_store.specs.Content.{new_stream, written}
use Rattle.av_store.specs.Rows.{is_same, Streams, is_number, number_named, replaced, stream_at}
use Rattle.av_store.specs.Store.{Store, create_of, greatest, is_name, on_stream, put_stream, with_streams, write_of}
use Rattle.av_store.specs.declared.fault.StoreFault.{StoreFault}
use Rattle.av_store.specs.declared.stream.Stream.{Stream}
use Rattle.av_files.specs.Streams.{HasFile}
use Rattle.av_files.specs.Volume.{AddsFile, FileRead, content_named, stream_of_file, streams_from, volume_of_files}

number_self : (n : ℕ) → is_number n n ≡ true
number_self n = (eq_by_cmp_equiv nat_cmp_total).refl n

number_above : (n k : ℕ) → k < n → is_number n k ≡ false
number_above n k h = rw (sym (nat_cmp_is n k Greater h)) refl

-- ---- a stream behind others, of a number that none of them has

last_set : (ss : Streams) (n : ℕ) (s t : Stream) → stream_at n ss ≡ None → (stream_at n (ss ++ (n, s) ∷ []) ≡ Some s) × (replaced n t (ss ++ (n, s) ∷ []) ≡ ss ++ (n, t) ∷ [])
last_set [] n s t none = (rw (number_self n) refl, rw (number_self n) refl)
last_set (e ∷ ss) n s t none =
    (elim (is_number n e.0) as (λ b. cond b (Some e.1) (stream_at n ss) ≡ None → (cond b (Some e.1) (stream_at n (ss ++ (n, s) ∷ [])) ≡ Some s)
    × (cond b ((e.0, t) ∷ (ss ++ (n, s) ∷ [])) (e ∷ replaced n t (ss ++ (n, s) ∷ [])) ≡ e ∷ (ss ++ (n, t) ∷ []))) [
      | true ↦ λ some. absurd cc
      | false ↦ λ rest. let later = last_set ss n s t rest in (later.0, ap (λ l. e ∷ l) later.1)
    ]) none

-- the next number is that of none of some files
none_next : (files : List FileRead) (number next : ℕ) → next ≡ number + length files → stream_at next (streams_from number files) ≡ None
none_next [] number next is = refl
none_next (f ∷ fs) number next is =
    let below : number < next = omega arith in
    rw (number_above next number below) (none_next fs (number + 1) next (omega arith))

streams_more : (files : List FileRead) (number next : ℕ) (f : FileRead) → next ≡ number + length files
    → streams_from number (files ++ f ∷ []) ≡ streams_from number files ++ (next, stream_of_file f) ∷ []
streams_more [] number next f is = let same : number ≡ next = omega arith in ap (λ n. (n, stream_of_file f) ∷ []) same
streams_more (g ∷ gs) number next f is = ap (λ ss. (number, stream_of_file g) ∷ ss) (streams_more gs (number + 1) next f (omega arith))

-- ---- what one create and one write leave

-- a stream is created behind the others
create_leaves : (v w : Store) (name : List ℕ) (id : ℕ) → create_of v name ≡ Ok (id, w)
    → (id ≡ v.last + 1) × ◌≡◌ {A = Store} w (record v { streams = v.streams ++ (v.last + 1, new_stream name) ∷ []; last = v.last + 1 })
create_leaves v w name id =
    let after : Store = record v { streams = v.streams ++ (v.last + 1, new_stream name) ∷ []; last = v.last + 1 } in
    let Wanted : Result (ℕ × Store) StoreFault → Type 0 = λ r. r ≡ Ok (id, w) → (id ≡ v.last + 1) × ◌≡◌ {A = Store} w after in
    cond_both (not (is_name name)) _ _ Wanted (λ e bad. absurd cc)
    (λ e. cond_both (is_some (number_named name v.streams)) _ _ Wanted (λ e bad. absurd cc)
    (λ e. cond_both (nat_le v.limits.streams (length v.streams) || nat_le greatest v.last) _ _ Wanted (λ e bad. absurd cc)
    (λ e ok. let pair : ◌≡◌ {A = ℕ × Store} (v.last + 1, after) (id, w) = cc in (sym (ap (λ p. p.0) pair), sym (ap (λ p. p.1) pair)))))

-- the whole content is written over no bytes
overwritten_none : (content : List ℕ) → take 0 [] ++ content ++ drop (0 + length content) [] ≡ content
overwritten_none content = rw (drop-nil (0 + length content)) (append-nil content)

-- a new stream has the content
written_leaves : (limits : LimitValues) (name content : List ℕ) (t : Stream) → written limits 0 content (new_stream name) ≡ Ok t → ◌≡◌ {A = Stream} t (record { name = name; generation = 2; bytes = content })
written_leaves limits name content t =
    let Wanted : Result Stream StoreFault → Type 0 = λ r. r ≡ Ok t → ◌≡◌ {A = Stream} t (record { name = name; generation = 2; bytes = content }) in
    cond_both (nat_lt limits.length (0 + length content)) _ _ Wanted (λ e bad. absurd cc)
    (λ e. cond_both (nat_le limits.generation 1) _ _ Wanted (λ e bad. absurd cc)
    (λ e ok.
    let same : ◌≡◌ {A = Stream} (record { name = name; generation = 1 + 1; bytes = take 0 [] ++ content ++ drop (0 + length content) [] }) t = cc in
    sym same ∙ ap (λ (bytes : List ℕ). let s : Stream = record { name = name; generation = 2; bytes = bytes } in s) (overwritten_none content)))

-- a write leaves what its step makes of the stream
put_leaves : (v w : Store) (id : ℕ) (left : Result Stream StoreFault) → with_streams v (put_stream v.streams id left) ≡ Ok w
    → (t : Stream) × (left ≡ Ok t) × ◌≡◌ {A = Store} w (record v { streams = replaced id t v.streams })
put_leaves v w id (Ok t) ok = (t, refl, cc)
put_leaves v w id (Err fault) ok = absurd cc

-- one create and one write leave a stream of the content behind the others
pub file_added : (v created new : Store) (name content : List ℕ) (id : ℕ) → stream_at (v.last + 1) v.streams ≡ None → create_of v name ≡ Ok (id, created) → write_of created id 0 content ≡ Ok new
    → ◌≡◌ {A = Store} new (record v { streams = v.streams ++ (v.last + 1, stream_of_file (record { name = name; content = content })) ∷ []; last = v.last + 1 })
file_added v created new name content id none made wrote =
    let file : FileRead = record { name = name; content = content } in
    let next : ℕ = v.last + 1 in
    let amid : Store = record v { streams = v.streams ++ (next, new_stream name) ∷ []; last = next } in
    let leaves : (id ≡ next) × (created ≡ amid) = create_leaves v created name id made in
    let wrote_amid : write_of amid next 0 content ≡ Ok new = subst (λ (w : Store). write_of w next 0 content ≡ Ok new) leaves.1 (subst (λ (n : ℕ). write_of created n 0 content ≡ Ok new) leaves.0 wrote) in
    let step = subst (λ (s : Option Stream). with_streams amid (put_stream amid.streams next (on_stream s (written amid.limits 0 content))) ≡ Ok new) (last_set v.streams next (new_stream name) (stream_of_file file) none).0 wrote_amid in
    let put = put_leaves amid new next (written amid.limits 0 content (new_stream name)) step in
    let stream : put.0 ≡ stream_of_file file = written_leaves amid.limits name content put.0 put.1 in
    let streams : replaced next put.0 amid.streams ≡ v.streams ++ (next, stream_of_file file) ∷ [] =
    ap (λ t. replaced next t amid.streams) stream ∙ (last_set v.streams next (new_stream name) (stream_of_file file) none).1 in
    put.2 ∙ ap (λ ss. let w : Store = record v { streams = ss; last = next } in w) streams

-- some files, and one more
one_more : (files : List FileRead) (created new : Store) (name content : List ℕ) (id : ℕ) → create_of (volume_of_files files) name ≡ Ok (id, created) → write_of created id 0 content ≡ Ok new
    → new ≡ volume_of_files (files ++ record { name = name; content = content } ∷ [])
one_more files created new name content id made wrote =
    let file : FileRead = record { name = name; content = content } in
    let next : ℕ = length files + 1 in
    let place : next ≡ 1 + length files = omega arith in
    let with : ℕ → Streams → Store = λ last streams. record (volume_of_files files) { last = last; streams = streams } in
    let count : next ≡ length (files ++ file ∷ []) = sym (length-append files (file ∷ [])) in
    file_added (volume_of_files files) created new name content id (none_next files 1 next place) made wrote
    ∙ ap (with next) (sym (streams_more files 1 next file place)) ∙ ap (λ n. with n (streams_from 1 (files ++ file ∷ []))) count

-- one create and one write add a file
pub adds_file : (old new : Store) (name : List ℕ) (content : Option (List ℕ)) → HasFile old new name content → AddsFile old new name content
adds_file old new name None has = absurd has
adds_file old new name (Some content) (id, created, made, wrote) =
    λ files is. one_more files created new name content id (subst (λ (v : Store). create_of v name ≡ Ok (id, created)) is made) wrote

-- ---- what has a name in the volume of some files

-- a number from the first one on
named_from : (files : List FileRead) (name : List ℕ) (first number : ℕ) → number_named name (streams_from first files) ≡ Some number → first ≤ number
named_from [] name first number named = absurd (cc)
named_from (f ∷ fs) name first number named =
    (elim (is_same name f.name) as (λ b. cond b (Some first) (number_named name (streams_from (first + 1) fs)) ≡ Some number → first ≤ number) [
      | true ↦ λ here. let is : first ≡ number = cc in omega arith
      | false ↦ λ later. let after : first + 1 ≤ number = named_from fs name (first + 1) number later in omega arith
    ]) named

named_content : (files : List FileRead) (name : List ℕ) (first number : ℕ) (s : Stream) → number_named name (streams_from first files) ≡ Some number → stream_at number (streams_from first files) ≡ Some s
    → (content_named name files ≡ Some s.bytes) × (s.generation ≡ 2)
named_content [] name first number s named there = absurd (cc)
named_content (f ∷ fs) name first number s named there =
    (elim (is_same name f.name) as (λ b. cond b (Some first) (number_named name (streams_from (first + 1) fs)) ≡ Some number → (cond b (Some f.content) (content_named name fs) ≡ Some s.bytes) × (s.generation ≡ 2)) [
      | true ↦ λ same.
          let is : first ≡ number = cc in
          let here : stream_at first (streams_from first (f ∷ fs)) ≡ Some s = subst (λ (n : ℕ). stream_at n (streams_from first (f ∷ fs)) ≡ Some s) (sym is) there in
          let found : ◌≡◌ {A = Option Stream} (Some (stream_of_file f)) (Some s) = rw (number_self first) at here in
          let stream : ◌≡◌ {A = Stream} (stream_of_file f) s = cc in
          (ap (λ (t : Stream). Some t.bytes) stream, sym (ap (λ (t : Stream). t.generation) stream))
      | false ↦ λ later.
          let after : first + 1 ≤ number = named_from fs name (first + 1) number later in
          let past : first < number = omega arith in
          let rest : stream_at number (streams_from (first + 1) fs) ≡ Some s = rw (number_above number first past) at there in
          named_content fs name (first + 1) number s later rest
    ]) named

-- the stream of a name has the content of the file of that name
pub content_read : (files : List FileRead) (name : List ℕ) (number : ℕ) (s : Stream) → number_named name (streams_from 1 files) ≡ Some number → stream_at number (streams_from 1 files) ≡ Some s
    → (content_named name files ≡ Some s.bytes) × (s.generation ≡ 2)
content_read files name number s named there = named_content files name 1 number s named there

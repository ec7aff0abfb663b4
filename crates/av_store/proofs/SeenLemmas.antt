use Rattle.std.proofs.Common.{ℕ, ◌≡◌, ◌<◌, ◌+◌, zero, suc, List, [], ◌∷◌, ◌++◌, length, take, Bool, true, false, cond, not, ◌&&◌, ◌||◌, nat_lt, nat_le, nat_eq, Some, None, Ok, Err, refl, sym, ◌∙◌, ap, subst, arith, count_by, Result, ◌≤◌, map}
use Rattle.std.specs.Prelude.{is_some}
use Rattle.std.specs.List.{list_any}
use Rattle.std.specs.Option.{option_map, unwrap_or}
use Rattle.std.specs.declared.cmp.Ordering.TheVariants.{Less, Greater}
use Rattle.std.specs.Cmp.{nat_cmp_is, both_ways, eq_by_cmp_equiv}
use Rattle.std.proofs.lemmas.Bool.{eqb-true}
use Rattle.std.proofs.lemmas.Cmp.{nat_cmp_total, nat_eq_equiv}
use Rattle.std.proofs.lemmas.List.{length_push}
use Rattle.std.proofs.lemmas.List.Sums.{sum_by-cons}
use Rattle.av_store.proofs.HistoryLemmas.{remembers}
use Rattle.av_store.specs.History.{StreamHistory, histories_after, now}
use Rattle.av_store.specs.declared.stream.Stream.{Stream}
use Rattle.av_store.specs.declared.fault.StoreFault.TheVariants.{BadName, Exists, Full, NoStream, Hole, TooLarge, GenerationSpent}
use Rattle.av_store.specs.Content.{new_stream, cut_to}
use Rattle.av_store.specs.Content as content
use Rattle.av_store.specs.Files.{Change, File, Create, Write, Cut, Remove, same_bytes, numbered, changed, set_bytes, gone, files_after, if_here, file_of, has_name, number_from, write_refusal, cut_refusal, remove_refusal, change_refusal, written}
use Rattle.av_store.specs.Rows.{Streams, is_number, is_same, stream_at, number_named, replaced, without}
use Rattle.av_store.specs.Sound.{IsOfFiles}
use Rattle.av_store.specs.Seen.{stream_of, seen_from, seen, Keeps, volume_of, change_of, kept_or, run_of, files_or, files_run, Follows, NumbersRise}
use Rattle.av_base.specs.Refused.{unless}
use Rattle.av_store.specs.declared.fault.StoreFault.{StoreFault}
use Rattle.av_base.specs.declared.limits.LimitValues.{LimitValues}
use Rattle.av_store.specs.Store.{Store, empty_store, create_of, greatest, is_name, on_stream, put_stream, with_streams}
use Rattle.av_store.proofs.IndexLemmas.{same_path, same_self}

-- ---- names

same_bytes_self : (a : List ℕ) → same_bytes a a ≡ true
unfolding same_bytes
same_bytes_self [] = refl
same_bytes_self (x ∷ xs) = let h = same_bytes_self xs in rw (nat_eq_equiv.refl x) h

same_bytes_path : (a b : List ℕ) → same_bytes a b ≡ true → a ≡ b
unfolding same_bytes
same_bytes_path [] [] h = refl
same_bytes_path [] (y ∷ ys) h = absurd cc
same_bytes_path (x ∷ xs) [] h = absurd cc
same_bytes_path (x ∷ xs) (y ∷ ys) h =
    (elim (nat_eq x y) as (λ b. nat_eq x y ≡ b → b && same_bytes xs ys ≡ true → (x ∷ xs) ≡ (y ∷ ys)) [
      | true ↦ λ is g. let rest = same_bytes_path xs ys g in (λ i. eqb-true x y is i ∷ rest i)
      | false ↦ λ is g. absurd cc
    ]) refl h

one_test : (a b : List ℕ) → is_same a b ≡ same_bytes b a
one_test a b = both_ways (is_same a b) (same_bytes b a)
    (λ h. ap (λ x. same_bytes b x) (same_path a b h) ∙ same_bytes_self b)
    (λ h. ap (is_same a) (same_bytes_path b a h) ∙ same_self a)

-- ---- numbers

number_self : (n : ℕ) → is_number n n ≡ true
number_self n = (eq_by_cmp_equiv nat_cmp_total).refl n

number_below : (n k : ℕ) → n < k → is_number n k ≡ false
number_below n k h = rw (sym (nat_cmp_is n k Less h)) refl

number_above : (n k : ℕ) → k < n → is_number n k ≡ false
number_above n k h = rw (sym (nat_cmp_is n k Greater h)) refl

-- no number below the first
none_below : (fs : List File) (k s : ℕ) → s < k → stream_at s (seen_from k fs) ≡ None
unfolding seen_from
none_below [] k s h = refl
none_below (f ∷ fs) k s h =
    (elim f.here as (λ b. stream_at s (cond b ((k, stream_of f) ∷ seen_from (suc k) fs) (seen_from (suc k) fs)) ≡ None) [
      | true ↦ rw (number_below s k h) (none_below fs (suc k) s (omega arith))
      | false ↦ none_below fs (suc k) s (omega arith)
    ])

-- the stream of the i-th file
at_from : (fs : List File) (k i : ℕ) → stream_at (k + i) (seen_from k fs) ≡ option_map stream_of (if_here (numbered fs (suc i)))
unfolding seen_from numbered
at_from [] k i = refl
at_from (f ∷ fs) k zero =
    let same : k + 0 ≡ k = omega arith in
    rw same
    (elim f.here as (λ b. stream_at k (cond b ((k, stream_of f) ∷ seen_from (suc k) fs) (seen_from (suc k) fs)) ≡ option_map stream_of (cond b (Some f) None)) [
      | true ↦ rw (number_self k) refl
      | false ↦ none_below fs (suc k) k (omega arith)
    ])
at_from (f ∷ fs) k (suc i) =
    let same : k + suc i ≡ suc k + i = omega arith in
    rw same
    (elim f.here as (λ b. stream_at (suc k + i) (cond b ((k, stream_of f) ∷ seen_from (suc k) fs) (seen_from (suc k) fs)) ≡ option_map stream_of (if_here (numbered fs (suc i)))) [
      | true ↦ rw (number_above (suc k + i) k (omega arith)) (at_from fs (suc k) i)
      | false ↦ at_from fs (suc k) i
    ])

pub stream_seen : (fs : List File) (s : ℕ) → stream_at s (seen fs) ≡ option_map stream_of (file_of fs s)
unfolding numbered
stream_seen [] zero = none_below [] 1 0 (omega arith)
stream_seen (f ∷ fs) zero = none_below (f ∷ fs) 1 0 (omega arith)
stream_seen fs (suc i) = let same : 1 + i ≡ suc i = omega arith in subst (λ n. stream_at n (seen fs) ≡ option_map stream_of (file_of fs (suc i))) same (at_from fs 1 i)

-- the names
named_from : (fs : List File) (k : ℕ) (name : List ℕ) → unwrap_or (number_named name (seen_from k fs)) 0 ≡ number_from k name fs
unfolding seen_from number_from
named_from [] k name = refl
named_from (f ∷ fs) k name =
    (elim f.here as (λ b. unwrap_or (number_named name (cond b ((k, stream_of f) ∷ seen_from (suc k) fs) (seen_from (suc k) fs))) 0 ≡ cond (b && same_bytes f.name name) k (number_from (suc k) name fs)) [
      | true ↦ rw (one_test name f.name)
          (elim (same_bytes f.name name) as (λ t. unwrap_or (cond t (Some k) (number_named name (seen_from (suc k) fs))) 0 ≡ cond t k (number_from (suc k) name fs)) [
            | true ↦ refl
            | false ↦ named_from fs (suc k) name
          ])
      | false ↦ named_from fs (suc k) name
    ])

exists_from : (fs : List File) (k : ℕ) (name : List ℕ) → is_some (number_named name (seen_from k fs)) ≡ list_any (has_name name) fs
unfolding seen_from
exists_from [] k name = refl
exists_from (f ∷ fs) k name =
    (elim f.here as (λ b. is_some (number_named name (cond b ((k, stream_of f) ∷ seen_from (suc k) fs) (seen_from (suc k) fs))) ≡ ((b && same_bytes f.name name) || list_any (has_name name) fs)) [
      | true ↦ rw (one_test name f.name)
          (elim (same_bytes f.name name) as (λ t. is_some (cond t (Some k) (number_named name (seen_from (suc k) fs))) ≡ (t || list_any (has_name name) fs)) [
            | true ↦ refl
            | false ↦ exists_from fs (suc k) name
          ])
      | false ↦ exists_from fs (suc k) name
    ])

-- how many are there
count_from : (fs : List File) (k : ℕ) → length (seen_from k fs) ≡ count_by (λ f. f.here) fs
unfolding seen_from
count_from [] k = refl
count_from (f ∷ fs) k =
    (elim f.here as (λ b. length (cond b ((k, stream_of f) ∷ seen_from (suc k) fs) (seen_from (suc k) fs)) ≡ cond b 1 0 + count_by (λ x. x.here) fs) [
      | true ↦ let rest = count_from fs (suc k) in omega arith
      | false ↦ let rest = count_from fs (suc k) in omega arith
    ]) ∙ sym (sum_by-cons (λ (x : File). cond x.here 1 0) f fs)

-- a new file
seen_last : (fs : List File) (k : ℕ) (f : File) → f.here ≡ true → seen_from k (fs ++ f ∷ []) ≡ seen_from k fs ++ (k + length fs, stream_of f) ∷ []
unfolding seen_from
seen_last [] k f h = let same : k + 0 ≡ k = omega arith in rw (h, same) refl
seen_last (g ∷ fs) k f h =
    let rest = seen_last fs (suc k) f h in
    let same : k + suc (length fs) ≡ suc k + length fs = omega arith in
    rw same
    (elim g.here as (λ b. cond b ((k, stream_of g) ∷ seen_from (suc k) (fs ++ f ∷ [])) (seen_from (suc k) (fs ++ f ∷ [])) ≡ cond b ((k, stream_of g) ∷ seen_from (suc k) fs) (seen_from (suc k) fs) ++ (suc k + length fs, stream_of f) ∷ []) [
      | true ↦ ap (λ x. (k, stream_of g) ∷ x) rest
      | false ↦ rest
    ])

-- a file changed that stays there
replaced_from : (fs : List File) (k i : ℕ) (f : File) (g : File → File) → ((x : File) → (g x).here ≡ x.here) → if_here (numbered fs (suc i)) ≡ Some f
    → replaced (k + i) (stream_of (g f)) (seen_from k fs) ≡ seen_from k (changed g (suc i) fs)
unfolding seen_from numbered changed
replaced_from [] k i f g keeps h = absurd cc
replaced_from (x ∷ fs) k zero f g keeps h =
    let same : k + 0 ≡ k = omega arith in
    rw (same, keeps x)
    ((elim x.here as (λ b. cond b (Some x) None ≡ Some f
    → replaced k (stream_of (g f)) (cond b ((k, stream_of x) ∷ seen_from (suc k) fs) (seen_from (suc k) fs)) ≡ cond b ((k, stream_of (g x)) ∷ seen_from (suc k) fs) (seen_from (suc k) fs)) [
      | true ↦ λ e. let is : x ≡ f = cc in rw (number_self k) (ap (λ y. (k, stream_of (g y)) ∷ seen_from (suc k) fs) (sym is))
      | false ↦ λ e. absurd cc
    ]) h)
replaced_from (x ∷ fs) k (suc i) f g keeps h =
    let same : k + suc i ≡ suc k + i = omega arith in
    let rest = replaced_from fs (suc k) i f g keeps h in
    rw same
    (elim x.here as (λ b. replaced (suc k + i) (stream_of (g f)) (cond b ((k, stream_of x) ∷ seen_from (suc k) fs) (seen_from (suc k) fs))
    ≡ cond b ((k, stream_of x) ∷ seen_from (suc k) (changed g (suc i) fs)) (seen_from (suc k) (changed g (suc i) fs))) [
      | true ↦ rw (number_above (suc k + i) k (omega arith)) (ap (λ y. (k, stream_of x) ∷ y) rest)
      | false ↦ rest
    ])

-- a file taken away
without_from : (fs : List File) (k i : ℕ) (f : File) → if_here (numbered fs (suc i)) ≡ Some f → without (k + i) (seen_from k fs) ≡ seen_from k (changed gone (suc i) fs)
unfolding seen_from numbered changed
without_from [] k i f h = absurd cc
without_from (x ∷ fs) k zero f h =
    let same : k + 0 ≡ k = omega arith in
    rw same
    ((elim x.here as (λ b. cond b (Some x) None ≡ Some f → without k (cond b ((k, stream_of x) ∷ seen_from (suc k) fs) (seen_from (suc k) fs)) ≡ seen_from (suc k) fs) [
      | true ↦ λ e. rw (number_self k) refl
      | false ↦ λ e. absurd cc
    ]) h)
without_from (x ∷ fs) k (suc i) f h =
    let same : k + suc i ≡ suc k + i = omega arith in
    let rest = without_from fs (suc k) i f h in
    rw same
    (elim x.here as (λ b. without (suc k + i) (cond b ((k, stream_of x) ∷ seen_from (suc k) fs) (seen_from (suc k) fs))
    ≡ cond b ((k, stream_of x) ∷ seen_from (suc k) (changed gone (suc i) fs)) (seen_from (suc k) (changed gone (suc i) fs))) [
      | true ↦ rw (number_above (suc k + i) k (omega arith)) (ap (λ y. (k, stream_of x) ∷ y) rest)
      | false ↦ rest
    ])

none_at_zero : (fs : List File) (f : File) → if_here (numbered fs 0) ≡ Some f → ⊥
unfolding numbered
none_at_zero [] f h = absurd cc
none_at_zero (x ∷ fs) f h = absurd cc

replaced_seen : (fs : List File) (s : ℕ) (f : File) (g : File → File) → ((x : File) → (g x).here ≡ x.here) → file_of fs s ≡ Some f
    → replaced s (stream_of (g f)) (seen fs) ≡ seen (changed g s fs)
replaced_seen fs zero f g keeps h = absurd (none_at_zero fs f h)
replaced_seen fs (suc i) f g keeps h = let same : 1 + i ≡ suc i = omega arith in subst (λ n. replaced n (stream_of (g f)) (seen fs) ≡ seen (changed g (suc i) fs)) same (replaced_from fs 1 i f g keeps h)

without_seen : (fs : List File) (s : ℕ) (f : File) → file_of fs s ≡ Some f → without s (seen fs) ≡ seen (changed gone s fs)
without_seen fs zero f h = absurd (none_at_zero fs f h)
without_seen fs (suc i) f h = let same : 1 + i ≡ suc i = omega arith in subst (λ n. without n (seen fs) ≡ seen (changed gone (suc i) fs)) same (without_from fs 1 i f h)

length-changed : (g : File → File) (s : ℕ) (fs : List File) → length (changed g s fs) ≡ length fs
unfolding changed
length-changed g s [] = refl
length-changed g zero (x ∷ fs) = refl
length-changed g (suc zero) (x ∷ fs) = refl
length-changed g (suc (suc n)) (x ∷ fs) = ap suc (length-changed g (suc n) fs)

-- ---- the changes

abbrev as_of : Store → Streams → ℕ → Store
as_of v ss n = record v { streams = ss; last = n }

found : (v : Store) (fs : List File) (s : ℕ) → Keeps v fs → stream_at s v.streams ≡ option_map stream_of (file_of fs s)
found v fs s k = ap (stream_at s) k.streams ∙ stream_seen fs s

pub made : (v : Store) (fs : List File) (name : List ℕ) → Keeps v fs
    → as_of v (v.streams ++ (v.last + 1, new_stream name) ∷ []) (v.last + 1) ≡ as_of v (seen (files_after fs (Create name))) (length (files_after fs (Create name)))
unfolding files_after
made v fs name k =
    let f : File = record { name = name; here = true; generation = 1; bytes = [] } in
    let number : v.last + 1 ≡ 1 + length fs = ap (λ n. n + 1) k.last ∙ (omega arith) in
    let count : v.last + 1 ≡ length (fs ++ f ∷ []) = ap (λ n. n + 1) k.last ∙ sym (length_push fs f) in
    let streams : v.streams ++ (v.last + 1, new_stream name) ∷ [] ≡ seen (fs ++ f ∷ []) = (λ i. k.streams i ++ (number i, new_stream name) ∷ []) ∙ sym (seen_last fs 1 f refl) in
    λ i. as_of v (streams i) (count i)

three : (a b b' c c' : Bool) → b ≡ b' → c ≡ c' → (x : ℕ × Store) (w : Store) → x.1 ≡ w
    → volume_of (cond a (Err BadName) (cond b (Err Exists) (cond c (Err Full) (Ok x)))) ≡ unless (cond a (Some BadName) (cond b' (Some Exists) (cond c' (Some Full) None))) w
three a b b' c c' p q x w h = ap (λ t. volume_of (cond a (Err BadName) (cond t (Err Exists) (cond c (Err Full) (Ok x))))) p
    ∙ ap (λ t. volume_of (cond a (Err BadName) (cond b' (Err Exists) (cond t (Err Full) (Ok x))))) q ∙ base a b' c'
  where
    base : (a b c : Bool) → volume_of (cond a (Err BadName) (cond b (Err Exists) (cond c (Err Full) (Ok x)))) ≡ unless (cond a (Some BadName) (cond b (Some Exists) (cond c (Some Full) None))) w
    base true b c = refl
    base false true c = refl
    base false false true = refl
    base false false false = ap Ok h

created : (v : Store) (fs : List File) (name : List ℕ) → Keeps v fs
    → change_of v (Create name) ≡ unless (change_refusal v.limits fs (Create name)) (as_of v (seen (files_after fs (Create name))) (length (files_after fs (Create name))))
unfolding change_of change_refusal
created v fs name k =
    three (not (is_name name)) (is_some (number_named name v.streams)) (list_any (has_name name) fs)
    (nat_le v.limits.streams (length v.streams) || nat_le greatest v.last) (nat_le v.limits.streams (count_by (λ f. f.here) fs) || nat_le greatest (length fs))
    (ap (λ ss. is_some (number_named name ss)) k.streams ∙ exists_from fs 1 name)
    (λ i. nat_le v.limits.streams ((ap length k.streams ∙ count_from fs 1) i) || nat_le greatest (k.last i))
    _ _ (made v fs name k)

-- a stream with new bytes, its generation one more
abbrev more : File → List ℕ → ℕ → Stream
more f c n = record { name = f.name; generation = n; bytes = c }

-- a write or a cut that is let through
put : (v : Store) (fs : List File) (s : ℕ) (f : File) (g : File → File) → ((x : File) → (g x).here ≡ x.here) → Keeps v fs → file_of fs s ≡ Some f
    → (let w : Store = record v { streams = replaced s (stream_of (g f)) v.streams } in w) ≡ as_of v (seen (changed g s fs)) (length (changed g s fs))
put v fs s f g keeps k is =
    let streams : replaced s (stream_of (g f)) v.streams ≡ seen (changed g s fs) = ap (replaced s (stream_of (g f))) k.streams ∙ replaced_seen fs s f g keeps is in
    let count : v.last ≡ length (changed g s fs) = k.last ∙ sym (length-changed g s fs) in
    λ i. as_of v (streams i) (count i)

put_more : (v : Store) (fs : List File) (s : ℕ) (f : File) (c : List ℕ → List ℕ) → Keeps v fs → file_of fs s ≡ Some f
    → (let w : Store = record v { streams = replaced s (more f (c f.bytes) (f.generation + 1)) v.streams } in w) ≡ as_of v (seen (changed (λ x. set_bytes (c x.bytes) x) s fs)) (length (changed (λ x. set_bytes (c x.bytes) x) s fs))
put_more v fs s f c k is =
    let next : f.generation + 1 ≡ suc f.generation = omega arith in
    ap (λ n. let w : Store = record v { streams = replaced s (more f (c f.bytes) n) v.streams } in w) next ∙ put v fs s f (λ x. set_bytes (c x.bytes) x) (λ x. refl) k is

after_three : (v : Store) (ss : Streams) (s : ℕ) (t : Stream) (w : Store) → (let x : Store = record v { streams = replaced s t ss } in x) ≡ w → (a b c : Bool)
    → with_streams v (put_stream ss s (cond a (Err Hole) (cond b (Err TooLarge) (cond c (Err GenerationSpent) (Ok t))))) ≡ unless (cond a (Some Hole) (cond b (Some TooLarge) (cond c (Some GenerationSpent) None))) w
after_three v ss s t w h true b c = refl
after_three v ss s t w h false true c = refl
after_three v ss s t w h false false true = refl
after_three v ss s t w h false false false = ap Ok h

after_two : (v : Store) (ss : Streams) (s : ℕ) (t : Stream) (w : Store) → (let x : Store = record v { streams = replaced s t ss } in x) ≡ w → (a c : Bool)
    → with_streams v (put_stream ss s (cond a (Err Hole) (cond c (Err GenerationSpent) (Ok t)))) ≡ unless (cond a (Some Hole) (cond c (Some GenerationSpent) None)) w
after_two v ss s t w h true c = refl
after_two v ss s t w h false true = refl
after_two v ss s t w h false false = ap Ok h

wrote : (v : Store) (fs : List File) (s o : ℕ) (b : List ℕ) → Keeps v fs
    → change_of v (Write s o b) ≡ unless (change_refusal v.limits fs (Write s o b)) (as_of v (seen (files_after fs (Write s o b))) (length (files_after fs (Write s o b))))
unfolding change_of change_refusal files_after
wrote v fs s o b k =
    let g : File → File = λ f. set_bytes (written o b f.bytes) f in
    let w : Store = as_of v (seen (changed g s fs)) (length (changed g s fs)) in
    let step = content.written v.limits o b in
    ap (λ x. with_streams v (put_stream v.streams s (on_stream x step))) (found v fs s k)
    ∙ (elim (file_of fs s) as (λ x. file_of fs s ≡ x → with_streams v (put_stream v.streams s (on_stream (option_map stream_of x) step)) ≡ unless (write_refusal v.limits o b x) w) [
      | None ↦ λ is. refl
      | Some f ↦ λ is. after_three v v.streams s (more f (written o b f.bytes) (f.generation + 1)) w (put_more v fs s f (written o b) k is)
          (nat_lt (length f.bytes) o) (nat_lt v.limits.length (o + length b)) (nat_le v.limits.generation f.generation)
    ]) refl

shortened : (v : Store) (fs : List File) (s n : ℕ) → Keeps v fs
    → change_of v (Cut s n) ≡ unless (change_refusal v.limits fs (Cut s n)) (as_of v (seen (files_after fs (Cut s n))) (length (files_after fs (Cut s n))))
unfolding change_of change_refusal files_after
shortened v fs s n k =
    let g : File → File = λ f. set_bytes (take n f.bytes) f in
    let w : Store = as_of v (seen (changed g s fs)) (length (changed g s fs)) in
    let step = cut_to v.limits n in
    ap (λ x. with_streams v (put_stream v.streams s (on_stream x step))) (found v fs s k)
    ∙ (elim (file_of fs s) as (λ x. file_of fs s ≡ x → with_streams v (put_stream v.streams s (on_stream (option_map stream_of x) step)) ≡ unless (cut_refusal v.limits n x) w) [
      | None ↦ λ is. refl
      | Some f ↦ λ is. after_two v v.streams s (more f (take n f.bytes) (f.generation + 1)) w (put_more v fs s f (take n) k is)
          (nat_lt (length f.bytes) n) (nat_le v.limits.generation f.generation)
    ]) refl

took : (v : Store) (fs : List File) (s : ℕ) → Keeps v fs
    → change_of v (Remove s) ≡ unless (change_refusal v.limits fs (Remove s)) (as_of v (seen (files_after fs (Remove s))) (length (files_after fs (Remove s))))
unfolding change_of change_refusal files_after
took v fs s k =
    let w : Store = as_of v (seen (changed gone s fs)) (length (changed gone s fs)) in
    ap (λ x. with_streams v (cond (is_some x) (Ok (without s v.streams)) (Err NoStream))) (found v fs s k)
    ∙ (elim (file_of fs s) as (λ x. file_of fs s ≡ x → with_streams v (cond (is_some (option_map stream_of x)) (Ok (without s v.streams)) (Err NoStream)) ≡ unless (remove_refusal x) w) [
      | None ↦ λ is. refl
      | Some f ↦ λ is.
          let streams : without s v.streams ≡ seen (changed gone s fs) = ap (without s) k.streams ∙ without_seen fs s f is in
          let count : v.last ≡ length (changed gone s fs) = k.last ∙ sym (length-changed gone s fs) in
          λ i. Ok (as_of v (streams i) (count i))
    ]) refl

pub changes : (v : Store) (fs : List File) (c : Change) → Keeps v fs
    → change_of v c ≡ unless (change_refusal v.limits fs c) (as_of v (seen (files_after fs c)) (length (files_after fs c)))
changes v fs (Create name) k = created v fs name k
changes v fs (Write s o b) k = wrote v fs s o b k
changes v fs (Cut s n) k = shortened v fs s n k
changes v fs (Remove s) k = took v fs s k

-- ---- whole runs

one_step : (v : Store) (fs : List File) (c : Change) → Keeps v fs → Keeps (kept_or v (change_of v c)) (files_or fs (change_refusal v.limits fs c) (files_after fs c))
one_step v fs c k =
    subst (λ r. Keeps (kept_or v r) (files_or fs (change_refusal v.limits fs c) (files_after fs c))) (sym (changes v fs c k))
    (elim (change_refusal v.limits fs c) as (λ o. Keeps (kept_or v (unless o (as_of v (seen (files_after fs c)) (length (files_after fs c))))) (files_or fs o (files_after fs c))) [
      | None ↦ record { streams = refl; last = refl }
      | Some e ↦ k
    ])

limits_stay : (v : Store) (fs : List File) (c : Change) → Keeps v fs → (kept_or v (change_of v c)).limits ≡ v.limits
limits_stay v fs c k =
    ap (λ r. (kept_or v r).limits) (changes v fs c k)
    ∙ (elim (change_refusal v.limits fs c) as (λ o. (kept_or v (unless o (as_of v (seen (files_after fs c)) (length (files_after fs c))))).limits ≡ v.limits) [
      | None ↦ refl
      | Some e ↦ refl
    ])

runs : (v : Store) (fs : List File) (cs : List Change) → Keeps v fs → Keeps (run_of v cs) (files_run v.limits fs cs)
unfolding run_of files_run
runs v fs [] k = k
runs v fs (c ∷ cs) k =
    let next = kept_or v (change_of v c) in
    let files = files_or fs (change_refusal v.limits fs c) (files_after fs c) in
    subst (λ l. Keeps (run_of next cs) (files_run l files cs)) (limits_stay v fs c k) (runs next files cs (one_step v fs c k))

starts : (number : ℕ) (limits : LimitValues) → Keeps (empty_store number limits) []
unfolding seen_from
starts number limits = record { streams = refl; last = refl }

-- ---- numbers

guard : {A : Type 0} (b : Bool) (e : StoreFault) (r : Result A StoreFault) (x : A) → cond b (Err e) r ≡ Ok x → r ≡ Ok x
guard true e r x h = absurd cc
guard false e r x h = h

fresh : (v w : Store) (name : List ℕ) (id : ℕ) → create_of v name ≡ Ok (id, w) → (id ≡ v.last + 1) × (w.last ≡ id)
fresh v w name id h =
    let full = nat_le v.limits.streams (length v.streams) || nat_le greatest v.last in
    let exists = is_some (number_named name v.streams) in
    let bad = not (is_name name) in
    let x : ℕ × Store = (v.last + 1, as_of v (v.streams ++ (v.last + 1, new_stream name) ∷ []) (v.last + 1)) in
    let third = cond full (Err Full) (Ok x) in
    let second = cond exists (Err Exists) third in
    let last = guard full Full (Ok x) (id, w) (guard exists Exists third (id, w) (guard bad BadName second (id, w) h)) in
    let same : x ≡ (id, w) = cc in
    let number : v.last + 1 ≡ id = ap (λ (p : ℕ × Store). p.0) same in
    let end : v.last + 1 ≡ w.last = ap (λ (p : ℕ × Store). p.1.last) same in
    (sym number, sym end ∙ number)

last_stays : (v w : Store) (r : Result Streams StoreFault) → with_streams v r ≡ Ok w → v.last ≤ w.last
last_stays v w (Err e) h = absurd cc
last_stays v w (Ok ss) h =
    let x : Store = record v { streams = ss } in
    let same : x ≡ w = cc in
    let last : v.last ≡ w.last = ap (λ (y : Store). y.last) same in
    omega arith

rises : (v w : Store) (c : Change) → change_of v c ≡ Ok w → v.last ≤ w.last
unfolding change_of
rises v w (Create name) h =
    (elim (create_of v name) as (λ r. create_of v name ≡ r → volume_of r ≡ Ok w → v.last ≤ w.last) [
      | Err e ↦ λ is g. absurd cc
      | Ok p ↦ λ is g.
          let same : p.1 ≡ w = cc in
          let end = fresh v p.1 name p.0 is in
          let last : w.last ≡ v.last + 1 = ap (λ (y : Store). y.last) (sym same) ∙ end.1 ∙ end.0 in
          omega arith
    ]) refl h
rises v w (Write s o b) h = last_stays v w _ h
rises v w (Cut s n) h = last_stays v w _ h
rises v w (Remove s) h = last_stays v w _ h

pub numbers_rise : NumbersRise
numbers_rise = record { fresh = fresh; rises = rises }

pub follows : Follows
follows = record {
  changes = changes;
  reads = found;
  names = λ v fs name k. ap (λ ss. unwrap_or (number_named name ss) 0) k.streams ∙ named_from fs 1 name;
  starts = starts;
  runs = runs;
}

-- no number past the last file is one's
none_past : {A : Type 0} (xs : List A) (n : ℕ) → length xs < n → numbered xs n ≡ None
unfolding numbered
none_past [] n far = refl
none_past (x ∷ xs) zero far = refl
none_past (x ∷ xs) (suc zero) far = absurd (omega (arith, far))
none_past (x ∷ xs) (suc (suc n)) far = none_past xs (suc n) (omega (arith, far))

-- the next number is no stream's
pub next_free : (v : Store) → IsOfFiles v → stream_at (v.last + 1) v.streams ≡ None
next_free v (fs, keeps) =
    let past : numbered fs (v.last + 1) ≡ None = none_past fs (v.last + 1) (omega (arith, keeps.last)) in
    ap (λ ss. stream_at (v.last + 1) ss) keeps.streams ∙ stream_seen fs (v.last + 1) ∙ ap (λ o. option_map stream_of (if_here o)) past

-- a change of the volume is the change of what its streams have held
pub kept_change : (v w : Store) (hs : List StreamHistory) (c : Change) → Keeps v (map now hs) → change_of v c ≡ Ok w → Keeps w (map now (histories_after hs c))
kept_change v w hs c k h =
    let fs = files_after (map now hs) c in
    let next : Store = record v { streams = seen fs; last = length fs } in
    subst (Keeps w) (sym (remembers.present hs c))
    ((elim (change_refusal v.limits (map now hs) c) as (λ o. unless o next ≡ Ok w → Keeps w fs) [
      | None ↦ λ g. let same : next ≡ w = cc in subst (λ x. Keeps x fs) same (record { streams = refl; last = refl })
      | Some f ↦ λ g. absurd cc
    ]) (sym (follows.changes v (map now hs) c k) ∙ h))

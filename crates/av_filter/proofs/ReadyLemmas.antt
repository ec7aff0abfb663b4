-- What events rest on, at one stream and at one question.
use Rattle.std.proofs.Common.{◌≡◌, ℕ, Result, Ok, Err, OnOk, ◌≤◌, ◌<◌, ◌^◌, ◌==◌, Bool, true, false, cond, find, List, [], ◌∷◌, Option, Some, None, IfSome, OnSome, length, refl, sym, ap, ◌∙◌, subst, arith}
use Rattle.std.proofs.lemmas.Bool.{eqb-true}
use Rattle.std.proofs.lemmas.Bool.Decides.{nat_tests}
use Rattle.std.specs.List.{AllByRecursion as Each}
use Rattle.std.specs.Option.{option_map}
use Rattle.std.specs.Ordering.{nat_cmp, is_eq}
use Rattle.std.specs.declared.cmp.Ordering.{Ordering}
use Rattle.std.specs.declared.cmp.Ordering.TheVariants.{Less, Equal, Greater}
use Rattle.av_base.proofs.LimitLemmas.{length_in}
use Rattle.av_base.specs.declared.message_id.MessageId.{MessageId}
use Rattle.av_context.specs.declared.context_state.ContextState.{ContextState}
use Rattle.av_context.specs.declared.context_state.ContextState.TheVariants.{Scanning}
use Rattle.av_filter.proofs.EachLemmas.{find_each, find_passes}
use Rattle.av_filter.proofs.ClosingLemmas.{own_id}
use Rattle.av_filter.proofs.VolumeLemmas.{there_after}
use Rattle.av_filter.proofs.QuestionLemmas.{found_own}
use Rattle.av_filter.specs.Fit.{Fits, IsPresent, IsThere}
use Rattle.av_filter_table.specs.Orderly.{AreInOrder, IsGiven, IsOrderly, IsScanned}
use Rattle.av_filter.specs.Ready.{IsRunning}
use Rattle.av_filter_table.specs.FilterTable.{id_of}
use Rattle.av_filter_table.specs.Rewriting.{change_by}
use Rattle.av_filter_table.specs.declared.rewriting.Rewriting.{Rewriting}
use Rattle.av_filter_table.specs.declared.rewriting.Rewriting.TheVariants as rewriting
use Rattle.av_store.specs.Bounds.{AreInBounds, IsInBounds}
use Rattle.av_store.specs.Files.{Write, Cut}
use Rattle.av_store.specs.Seen.{change_of}
use Rattle.av_filter_table.specs.Table.{Table, context_of, is_modified, question_at, question_of}
use Rattle.av_filter_table.specs.declared.question.Question.{Question}
use Rattle.av_store.specs.Rows.{Streams, is_number, stream_at}
use Rattle.av_store.specs.Store.{Store}
use Rattle.av_store.specs.declared.stream.Stream.{Stream}

same_number : (s k : ℕ) → is_number s k ≡ true → k ≡ s
same_number s k h = go (nat_cmp s k) refl h
  where
    go : (o : Ordering) → nat_cmp s k ≡ o → is_eq o ≡ true → k ≡ s
    go Less e is = absurd (cc (is))
    go Equal e is = grind (arith, nat_tests, e)
    go Greater e is = absurd (cc (is))

-- what holds of each row holds of the one that is found, under its number
found_row : (P : ℕ × Stream → Type 0) (ss : Streams) (s : ℕ) (x : Stream) → Each P ss → stream_at s ss ≡ Some x → P (s, x)
found_row P [] s x all h = absurd (cc (h))
found_row P (r ∷ ss) s x all h =
    (elim (is_number s r.0) as (λ b. is_number s r.0 ≡ b → cond b (Some r.1) (stream_at s ss) ≡ Some x → P (s, x)) [
      | true ↦ λ is g. let same : r.1 ≡ x = cc (g) in subst P (λ i. (same_number s r.0 is i, same i)) all.0
      | false ↦ λ is g. found_row P ss s x all.1 g
    ]) refl h

-- the ranges of a stream that is there
pub stream_in : (v : Store) (s : ℕ) (x : Stream) → AreInBounds v → stream_at s v.streams ≡ Some x → IsInBounds v.limits (s, x)
stream_in v s x bounds there = found_row (IsInBounds v.limits) v.streams s x bounds.streams there

-- a question that is found by a test runs
pub running : (t : Table) (test : Question → Bool) (o : Option Question) → IsOrderly t → (1 ≤ t.boot) → (t.boot < 2 ^ 64) → (t.sequence < 2 ^ 64) → o ≡ find test t.questions → IfSome o (λ q. IsRunning t q)
running t test None orderly boot small last by = tt
running t test (Some q) orderly boot small last by =
    let given = find_each (IsGiven t.boot t.sequence) test t.questions q orderly.given (sym by) in
    let boot_is : q.id.boot ≡ t.boot = given.boot_is in
    let low : 1 ≤ q.id.seq = given.low in
    let high : q.id.seq ≤ t.sequence = given.high in
    record { found = found_own test q t.questions orderly.order (sym by); boot = boot_is; id = ((omega arith, omega arith), (omega arith, omega arith)) }

pub stream_of : (qs : List Question) (s : ℕ) (q : Question) → question_of s qs ≡ Some q → q.stream ≡ s
stream_of qs s q found = eqb-true q.stream s (find_passes (λ k. k.stream == s) qs q found)

pub of_stream : (qs : List Question) (s : ℕ) (o : Option Question) → o ≡ question_of s qs → IfSome o (λ q. q.stream ≡ s)
of_stream qs s None by = tt
of_stream qs s (Some q) by = stream_of qs s q (sym by)

-- the stream of a question is there
pub stream_there : (t : Table) (v : Store) (q : Question) → Fits t v → IsRunning t q → IsThere v.streams q.stream
stream_there t v q fits runs =
    let present = find_each (IsPresent v.streams) _ t.questions q fits.present runs.found in (present.0, present.1)

-- no question runs of a stream whose context is Modified
pub unasked : (t : Table) (s : ℕ) → IsOrderly t → is_modified (context_of t.contexts s) ≡ true → question_of s t.questions ≡ None
unasked t s orderly modified = go (question_of s t.questions) refl
  where
    not_scanned : (o : Option ContextState) (id : MessageId) → o ≡ Some (Scanning id) → is_modified o ≡ true → ⊥
    not_scanned o id is h = let off : is_modified o ≡ false = ap is_modified is in absurd (cc (off, h))

    go : (o : Option Question) → question_of s t.questions ≡ o → question_of s t.questions ≡ None
    go None is = is
    go (Some q) is =
        let scanned = find_each (IsScanned t.contexts) _ t.questions q orderly.scanned is in
        absurd (not_scanned (context_of t.contexts s) q.id (ap (context_of t.contexts) (sym (stream_of t.questions s q is)) ∙ scanned) modified)

-- the content of a stream that is there is no longer than a message can say
pub content_small : (v : Store) (s : ℕ) (bytes : List ℕ) → AreInBounds v → Some bytes ≡ option_map (λ (x : Stream). x.bytes) (stream_at s v.streams) → length bytes ≤ 1048576
content_small v s bytes bounds is = go (stream_at s v.streams) refl is
  where
    go : (o : Option Stream) → stream_at s v.streams ≡ o → Some bytes ≡ option_map (λ (x : Stream). x.bytes) o → length bytes ≤ 1048576
    go None there e = absurd (cc (e))
    go (Some x) there e =
        let same : bytes ≡ x.bytes = cc (e) in
        let size : length x.bytes ≤ v.limits.length = (stream_in v s x bounds there).size in
        let most = (length_in v.limits bounds.limits).1 in
        let equal : length bytes ≡ length x.bytes = ap length same in
        omega arith

-- what holds of the question that runs under its own number
pub its_own : (t : Table) (q : Question) (P : Question → Type 0) → IsRunning t q → IfSome (question_at (id_of t.boot q.id.seq) t.questions) P → P q
its_own t q P runs some = subst (λ o. IfSome o P) (ap (λ i. question_at i t.questions) (own_id t q runs) ∙ runs.found) some

-- a stream that was written or cut is there
pub there_by : (v w : Store) (s : ℕ) (r : Rewriting) → change_of v (change_by s r) ≡ Ok w → IsThere w.streams s
there_by v w s (rewriting.Write offset bytes) h = there_after v w (Write s offset bytes.now) s refl (λ e. absurd (cc (e))) h
there_by v w s (rewriting.Cut n) h = there_after v w (Cut s n) s refl (λ e. absurd (cc (e))) h

-- what holds where a call was accepted
pub on_ok : {A E : Type 0} (r : Result A E) (P Q : Type 0) → (P → Q) → OnOk r P → OnOk r Q
on_ok (Ok a) P Q f p = f p
on_ok (Err e) P Q f p = tt

-- what holds anyhow, holds where there is something
pub on_some : {A : Type 0} (o : Option A) (P : Type 0) → P → OnSome o P
on_some None P p = tt
on_some (Some a) P p = p

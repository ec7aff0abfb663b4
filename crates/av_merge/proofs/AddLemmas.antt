use Rattle.std.proofs.Common.{ℕ, suc, ◌≡◌, ◌≤◌, ◌<◌, ◌+◌, ◌++◌, max, Bool, true, false, cond, List, [], ◌∷◌, length, drop, get_or, slice_get, unwrap_or, position, nat_lt, Option, None, Some, Ok, refl, ap, sym, ◌∙◌, arith, drop-cons, length-append}
use Rattle.std.proofs.Math.ListN.{replicate}
use Rattle.std.proofs.lemmas.Bool.{ltb-false}
use Rattle.std.proofs.lemmas.List.{map-append, length-map}
use Rattle.std.proofs.lemmas.List.Sums.{sum_by-append, sum_by-cons}
use Rattle.std.specs.List.{AllByRecursion, filter}
use Rattle.av_sigset.specs.Set.{AreInRange, HasRightLength, IsSpan, NumberedSet, byte_count, patterns_of}
use Rattle.av_sigset.specs.declared.signature.Pattern.{Pattern}
use Rattle.av_sigset.specs.declared.signature.Signature.{Signature}
use Rattle.av_merge.specs.declared.fault.MergeFault.{MergeFault}
use Rattle.av_merge.specs.declared.fault.MergeFault.TheVariants.{Clash, ManyBytes, ManySignatures}
use Rattle.av_merge.specs.Merge.{Merged, added_by, clash_from, clashes, fault_of, is_new, limit_with, merged_with, or_fault}

-- the next of these is added, or not
pub added_next : (before given : List Signature) (i : ℕ) (d : Signature) → i < length given
    → added_by before (drop i given) ≡ cond (is_new before (get_or given i d)) (get_or given i d ∷ added_by before (drop (suc i) given)) (added_by before (drop (suc i) given))
added_next before given i d lt = ap (added_by before) (drop-cons given i d lt)

-- one that is new has its bytes among those that are added
pub bytes_next : (before given : List Signature) (i : ℕ) (d : Signature) → i < length given → d ≡ get_or given i d → is_new before d ≡ true
    → length d.pattern.bytes ≤ byte_count (patterns_of (added_by before (drop i given)))
bytes_next before given i d lt is new =
    let next : added_by before (drop i given) ≡ d ∷ added_by before (drop (suc i) given) =
    added_next before given i d lt ∙ ap (λ s. cond (is_new before s) (s ∷ added_by before (drop (suc i) given)) (added_by before (drop (suc i) given))) (sym is) ∙ rw new refl in
    let all = ap (λ xs. byte_count (patterns_of xs)) next in
    let more = sum_by-cons (λ (q : Pattern). length q.bytes) d.pattern (patterns_of (added_by before (drop (suc i) given))) in
    omega (arith, all, more)

bytes_filter : (p : Signature → Bool) (xs : List Signature) → byte_count (patterns_of (filter p xs)) ≤ byte_count (patterns_of xs)
bytes_filter p [] = omega arith
bytes_filter p (x ∷ xs) =
    let all = sum_by-cons (λ (q : Pattern). length q.bytes) x.pattern (patterns_of xs) in
    let some = sum_by-cons (λ (q : Pattern). length q.bytes) x.pattern (patterns_of (filter p xs)) in
    elim (p x) as (λ v. byte_count (patterns_of (cond v (x ∷ filter p xs) (filter p xs))) ≤ byte_count (patterns_of (x ∷ xs))) [ true ↦ omega (arith, bytes_filter p xs, all, some) | false ↦ omega (arith, bytes_filter p xs, all) ]

-- not more bytes are added than are given
pub short_added : (before given : List Signature) → byte_count (patterns_of (added_by before given)) ≤ byte_count (patterns_of given)
short_added before given = bytes_filter (is_new before) given

-- ---- clashes

pub clash_here : (m : Merged) (given : List Signature) (i place : ℕ) (d : Signature) → i < length given → Some place ≡ position (clashes (get_or given i d)) m.signatures
    → clash_from m i (drop i given) ≡ Some (Clash i (unwrap_or (slice_get m.origins place) 0))
unfolding clash_from
clash_here m given i place d lt at = ap (clash_from m i) (drop-cons given i d lt) ∙ rw (← at) refl

-- ---- a set is added

no_fault : (a b : Option MergeFault) → or_fault a b ≡ None → (a ≡ None) × (b ≡ None)
no_fault None b none = (refl, none)
no_fault (Some f) b none = absurd (cc none)

pub no_clash : (m : Merged) (given : List Signature) → fault_of m given ≡ None → clash_from m 0 given ≡ None
no_clash m given none = (no_fault (clash_from m 0 given) (limit_with m.signatures (added_by m.signatures given)) none).0

pub no_limit : (m : Merged) (given : List Signature) → fault_of m given ≡ None → limit_with m.signatures (added_by m.signatures given) ≡ None
no_limit m given none = (no_fault (clash_from m 0 given) (limit_with m.signatures (added_by m.signatures given)) none).1

pub added_set : (m : Merged) (number : ℕ) (s : NumberedSet) (xs : List Signature) (os : List ℕ) (v : ℕ) → fault_of m s.signatures ≡ None
    → xs ≡ m.signatures ++ added_by m.signatures s.signatures → os ≡ m.origins ++ replicate (length (added_by m.signatures s.signatures)) number → v ≡ max m.version s.version
    → merged_with m number s ≡ Ok (record { signatures = xs; origins = os; version = v })
added_set m number s xs os v none all numbers version = rw (none, all, numbers, version) refl

limits : (a b : ℕ) → cond (nat_lt 1024 a) (Some ManySignatures) (cond (nat_lt 16384 b) (Some ManyBytes) None) ≡ None → (a ≤ 1024) × (b ≤ 16384)
limits a b =
    (elim (nat_lt 1024 a) as (λ v. nat_lt 1024 a ≡ v → cond v (Some ManySignatures) (cond (nat_lt 16384 b) (Some ManyBytes) None) ≡ None → (a ≤ 1024) × (b ≤ 16384)) [
      | true ↦ λ e none. absurd (cc none)
      | false ↦ λ e.
          (elim (nat_lt 16384 b) as (λ v. nat_lt 16384 b ≡ v → cond v (Some ManyBytes) None ≡ None → (a ≤ 1024) × (b ≤ 16384)) [
            | true ↦ λ f none. absurd (cc none)
            | false ↦ λ f none. (ltb-false _ _ e, ltb-false _ _ f)
          ]) refl
    ]) refl

each_both : (P : Pattern → Type 0) (p : Signature → Bool) (before given : List Signature) → AllByRecursion P (patterns_of before) → AllByRecursion P (patterns_of given)
    → AllByRecursion P (patterns_of (before ++ filter p given))
each_both P p [] [] all more = tt
each_both P p [] (s ∷ given) all more =
    elim (p s) as (λ v. AllByRecursion P (patterns_of (cond v (s ∷ filter p given) (filter p given)))) [ true ↦ (more.0, each_both P p [] given tt more.1) | false ↦ each_both P p [] given tt more.1 ]
each_both P p (t ∷ before) given all more = (all.0, each_both P p before given all.1 more)

-- what is merged is in the ranges of a set
pub added_ranges : (before given : List Signature) → AreInRange (patterns_of before) → AreInRange (patterns_of given) → limit_with before (added_by before given) ≡ None
    → AreInRange (patterns_of (before ++ added_by before given))
added_ranges before given old new none =
    let room = limits (length before + length (added_by before given)) (byte_count (patterns_of before) + byte_count (patterns_of (added_by before given))) none in
    let looked = map-append (λ (s : Signature). s.pattern) before (added_by before given) in
    let all : length (patterns_of (before ++ added_by before given)) ≡ length (before ++ added_by before given) = length-map (before ++ added_by before given) (λ (s : Signature). s.pattern) in
    let long = length-append before (added_by before given) in
    let sum = ap byte_count looked ∙ sum_by-append (λ (q : Pattern). length q.bytes) (patterns_of before) (patterns_of (added_by before given)) in
    record {
      count = omega (arith, all, long, room.0);
      lengths = each_both HasRightLength (is_new before) before given old.lengths new.lengths;
      spans = each_both (λ (q : Pattern). IsSpan q.span) (is_new before) before given old.spans new.spans;
      bytes = omega (arith, sum, room.1);
    }

-- and has so many bytes
pub added_bytes : (before given : List Signature) → byte_count (patterns_of (before ++ added_by before given)) ≡ byte_count (patterns_of before) + byte_count (patterns_of (added_by before given))
added_bytes before given =
    ap byte_count (map-append (λ (s : Signature). s.pattern) before (added_by before given)) ∙ sum_by-append (λ (q : Pattern). length q.bytes) (patterns_of before) (patterns_of (added_by before given))

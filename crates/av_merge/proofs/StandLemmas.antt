-- What is merged may stand in one file.
use Rattle.std.proofs.Common.{ℕ, ◌≡◌, ◌+◌, ◌||◌, ◌++◌, Bool, true, false, cond, not, List, [], ◌∷◌, None, Ok, IsTrue, refl, ap, sym, subst, ◌∙◌, inl, inr}
use Rattle.std.proofs.lemmas.Bool.{or_right, true≢false}
use Rattle.std.proofs.lemmas.List.{map-append}
use Rattle.std.proofs.lemmas.Slice.Eq.{bytes_eq-Decides}
use Rattle.std.specs.List.{AllByRecursion, filter, list_any}
use Rattle.std.specs.Str.{bytes_eq}
use Rattle.av_base.specs.Among.{Among}
use Rattle.av_sigset.proofs.FileLemmas.{none_stands}
use Rattle.av_sigset.specs.File.{AreDistinct, MayStand, names_of}
use Rattle.av_sigset.specs.Judge.{is_name}
use Rattle.av_sigset.specs.Set.{NumberedSet}
use Rattle.av_sigset.specs.declared.signature.Signature.{Signature}
use Rattle.av_merge.proofs.AddLemmas.{added_ranges, no_limit}
use Rattle.av_merge.proofs.LookLemmas.{merged_parts, onward, the_end}
use Rattle.av_merge.specs.Laws.{MayStandTogether}
use Rattle.av_merge.specs.Merge.{Merged, added_by, fault_of, is_new, merged_from, no_sets}

each_both : {A : Type 0} (P : A → Type 0) (xs ys : List A) → AllByRecursion P xs → AllByRecursion P ys → AllByRecursion P (xs ++ ys)
each_both P [] ys all more = more
each_both P (x ∷ xs) ys all more = (all.0, each_both P xs ys all.1 more)

each_filter : (P : List ℕ → Type 0) (p : Signature → Bool) (xs : List Signature) → AllByRecursion P (names_of xs) → AllByRecursion P (names_of (filter p xs))
each_filter P p [] all = tt
each_filter P p (x ∷ xs) all =
    elim (p x) as (λ v. AllByRecursion P (names_of (cond v (x ∷ filter p xs) (filter p xs)))) [ true ↦ (all.0, each_filter P p xs all.1) | false ↦ each_filter P p xs all.1 ]

distinct_filter : (p : Signature → Bool) (xs : List Signature) → AreDistinct (names_of xs) → AreDistinct (names_of (filter p xs))
distinct_filter p [] distinct = tt
distinct_filter p (x ∷ xs) distinct =
    elim (p x) as (λ v. AreDistinct (names_of (cond v (x ∷ filter p xs) (filter p xs)))) [
      | true ↦ (each_filter (λ m. x.name ≡ m → ⊥) p xs distinct.0, distinct_filter p xs distinct.1)
      | false ↦ distinct_filter p xs distinct.1
    ]

any_among : (p : Signature → Bool) (xs : List Signature) (x : Signature) → p x ≡ true → Among x xs → list_any p xs ≡ true
any_among p [] x passes a = absurd a
any_among p (y ∷ ys) x passes (inl same) = rw (← same, passes) refl
any_among p (y ∷ ys) x passes (inr more) = ap (λ b. p y || b) (any_among p ys x passes more) ∙ or_right (p y) true refl

-- a name of these is not that of one that is new behind them
not_named : (t : Signature) (before : List Signature) (s : Signature) → Among t before → is_new before s ≡ true → t.name ≡ s.name → ⊥
not_named t before s a new same = true≢false (sym (any_among (λ u. bytes_eq u.name s.name) before t here a) ∙ none)
  where
    none : list_any (λ u. bytes_eq u.name s.name) before ≡ false
    none = (elim (list_any (λ u. bytes_eq u.name s.name) before) as (λ v. not v ≡ true → v ≡ false) [ true ↦ λ e. absurd (true≢false (sym e)) | false ↦ λ e. refl ]) new

    here : bytes_eq t.name s.name ≡ true
    here = (bytes_eq-Decides t.name s.name).1 same

apart : (t : Signature) (before given : List Signature) → Among t before → AllByRecursion (λ m. t.name ≡ m → ⊥) (names_of (filter (is_new before) given))
apart t before [] a = tt
apart t before (s ∷ given) a =
    (elim (is_new before s) as (λ v. is_new before s ≡ v → AllByRecursion (λ m. t.name ≡ m → ⊥) (names_of (cond v (s ∷ filter (is_new before) given) (filter (is_new before) given)))) [
      | true ↦ λ e. (not_named t before s a e, apart t before given a)
      | false ↦ λ e. apart t before given a
    ]) refl

distinct_both : (xs : List Signature) (ns : List (List ℕ)) → ((t : Signature) → Among t xs → AllByRecursion (λ m. t.name ≡ m → ⊥) ns) → AreDistinct (names_of xs) → AreDistinct ns → AreDistinct (names_of xs ++ ns)
distinct_both [] ns far distinct more = more
distinct_both (x ∷ xs) ns far distinct more = (each_both (λ m. x.name ≡ m → ⊥) (names_of xs) ns distinct.0 (far x (inl refl)), distinct_both xs ns (λ t a. far t (inr a)) distinct.1 more)

stand_more : (m : Merged) (given : List Signature) → fault_of m given ≡ None → MayStand m.signatures → MayStand given → MayStand (m.signatures ++ added_by m.signatures given)
stand_more m given none old new =
    let before = m.signatures in
    let named = map-append (λ (s : Signature). s.name) before (added_by before given) in
    record {
      names = subst (AllByRecursion (λ n. IsTrue (is_name n))) (sym named) (each_both (λ n. IsTrue (is_name n)) (names_of before) (names_of (added_by before given)) old.names (each_filter (λ n. IsTrue (is_name n)) (is_new before) given new.names));
      distinct = subst AreDistinct (sym named) (distinct_both before (names_of (added_by before given)) (λ t a. apart t before given a) old.distinct (distinct_filter (is_new before) given new.distinct));
      ranges = added_ranges before given old.ranges new.ranges (no_limit m given none);
    }

stand_from : (sets : List NumberedSet) (m n : Merged) (i : ℕ) → merged_from m i sets ≡ Ok n → MayStand m.signatures → AllByRecursion (λ s. MayStand s.signatures) sets → MayStand n.signatures
stand_from [] m n i is may all = subst (λ (k : Merged). MayStand k.signatures) (the_end m n i is) may
stand_from (s ∷ sets) m n i is may all =
    let on = onward m n i s sets is in
    let parts = merged_parts m on.0 i s on.1 in
    stand_from sets on.0 n (i + 1) on.2 (subst (λ (k : Merged). MayStand k.signatures) (sym parts.1) (stand_more m s.signatures parts.0 may all.0)) all.1

pub stand_together : MayStandTogether
stand_together = λ sets m is all. stand_from sets no_sets m 0 is none_stands all

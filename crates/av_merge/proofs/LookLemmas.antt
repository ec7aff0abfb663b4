-- What a merge looks for.
use Rattle.std.proofs.Common.{ℕ, zero, suc, ◌≡◌, ◌+◌, ◌&&◌, ◌||◌, ◌==◌, Bool, true, false, cond, not, List, [], ◌∷◌, ◌++◌, map, slice_get, position, None, Some, Ok, Err, refl, ap, ap₂, sym, subst, ◌∙◌, inl, inr, ◌⊎◌}
use Rattle.std.proofs.lemmas.Bool.{and_parts, eqb-true, true≢false}
use Rattle.std.proofs.lemmas.Iterator.Adapters.{position_from-zero}
use Rattle.std.proofs.lemmas.List.{map-append}
use Rattle.std.proofs.lemmas.Slice.Eq.{bytes_eq-Decides}
use Rattle.std.specs.List.{AllByRecursion, filter, list_any, position_from}
use Rattle.std.specs.Str.{bytes_eq}
use Rattle.av_base.proofs.AmongLemmas.{among_each, among_left, among_right}
use Rattle.av_base.specs.Among.{Among}
use Rattle.av_base.specs.Refused.{unless}
use Rattle.av_base.specs.declared.verdict.Verdict.TheVariants.{Clean, Infected}
use Rattle.av_match.proofs.Verdicts.{verdict_is}
use Rattle.av_match.specs.Match.{IsVerdict, Occurs, verdict}
use Rattle.av_sigset.specs.Set.{NumberedSet, patterns_of}
use Rattle.av_sigset.specs.declared.signature.Pattern.{Pattern}
use Rattle.av_sigset.specs.declared.signature.Signature.{Signature}
use Rattle.av_sigset.specs.declared.signature.Span.{Span}
use Rattle.av_merge.proofs.AddLemmas.{no_clash}
use Rattle.av_merge.specs.Laws.{CleanUnderEach, IsLookedFor, LooksForTheSame, OccursUnderOne}
use Rattle.av_merge.specs.Merge.{Merged, added_by, and_then, clash_from, clash_or, clashes, fault_of, is_new, is_same, merged_from, merged_with, no_sets, with_more}

-- ---- members

none_from : {A : Type 0} (p : A → Bool) (i : ℕ) (xs : List A) (x : A) → position_from p i xs ≡ None → Among x xs → p x ≡ false
none_from p i [] x none a = absurd a
none_from p i (y ∷ ys) x none a =
    (elim (p y) as (λ v. p y ≡ v → cond v (Some i) (position_from p (i + 1) ys) ≡ None → p x ≡ false) [
      | true ↦ λ e n. absurd (cc n)
      | false ↦ λ e n. elim a [ inl same ↦ ap p same ∙ e | inr more ↦ none_from p (i + 1) ys x n more ]
    ]) refl none

none_passes : {A : Type 0} (p : A → Bool) (xs : List A) (x : A) → position p xs ≡ None → Among x xs → p x ≡ false
none_passes p xs x none a = none_from p 0 xs x (sym (position_from-zero p xs) ∙ none) a

any_passes : {A : Type 0} (p : A → Bool) (xs : List A) → list_any p xs ≡ true → (x : A) × Among x xs × (p x ≡ true)
any_passes p [] any = absurd (true≢false (sym any))
any_passes {A = A} p (y ∷ ys) any =
    (elim (p y) as (λ v. p y ≡ v → (x : A) × Among x (y ∷ ys) × (p x ≡ true)) [
      | true ↦ λ e. (y, inl refl, e)
      | false ↦ λ e. let more = any_passes p ys (ap (λ b. b || list_any p ys) (sym e) ∙ any) in (more.0, inr more.1, more.2)
    ]) refl

among_map : {A B : Type 0} (f : A → B) (xs : List A) (x : A) → Among x xs → Among (f x) (map f xs)
among_map f [] x a = absurd a
among_map f (y ∷ ys) x (inl same) = inl (ap f same)
among_map f (y ∷ ys) x (inr more) = inr (among_map f ys x more)

map_among : {A B : Type 0} (f : A → B) (xs : List A) (z : B) → Among z (map f xs) → (x : A) × Among x xs × (z ≡ f x)
map_among f [] z a = absurd a
map_among f (y ∷ ys) z (inl same) = (y, inl refl, same)
map_among f (y ∷ ys) z (inr more) = let from = map_among f ys z more in (from.0, inr from.1, from.2)

among_filter : {A : Type 0} (p : A → Bool) (xs : List A) (x : A) → p x ≡ true → Among x xs → Among x (filter p xs)
among_filter p [] x passes a = absurd a
among_filter {A = A} p (y ∷ ys) x passes a =
    (elim (p y) as (λ v. p y ≡ v → Among x (cond v (y ∷ filter p ys) (filter p ys))) [
      | true ↦ λ e. elim a [ inl same ↦ inl same | inr more ↦ inr (among_filter p ys x passes more) ]
      | false ↦ λ e. elim a [ inl same ↦ absurd (true≢false (sym passes ∙ ap p same ∙ e)) | inr more ↦ among_filter p ys x passes more ]
    ]) refl

pub filter_among : {A : Type 0} (p : A → Bool) (xs : List A) (x : A) → Among x (filter p xs) → Among x xs × (p x ≡ true)
filter_among p [] x a = absurd a
filter_among {A = A} p (y ∷ ys) x a =
    (elim (p y) as (λ v. p y ≡ v → Among x (cond v (y ∷ filter p ys) (filter p ys)) → Among x (y ∷ ys) × (p x ≡ true)) [
      | true ↦ λ e b. elim b [ inl same ↦ (inl same, ap p same ∙ e) | inr more ↦ (let rest = filter_among p ys x more in (inr rest.0, rest.1)) ]
      | false ↦ λ e b. let rest = filter_among p ys x b in (inr rest.0, rest.1)
    ]) refl a

among_either : {A : Type 0} (x : A) (xs ys : List A) → Among x (xs ++ ys) → Among x xs ⊎ Among x ys
among_either x [] ys a = inr a
among_either x (z ∷ zs) ys (inl same) = inl (inl same)
among_either x (z ∷ zs) ys (inr more) = elim (among_either x zs ys more) [ inl a ↦ inl (inr a) | inr a ↦ inr a ]

-- ---- clashes, and patterns that are the same

no_clash_in : (m : Merged) (i : ℕ) (given : List Signature) (s : Signature) → clash_from m i given ≡ None → Among s given → position (clashes s) m.signatures ≡ None
unfolding clash_from
no_clash_in m i [] s none a = absurd a
no_clash_in m i (t ∷ given) s none a =
    (elim (position (clashes t) m.signatures) as (λ o. position (clashes t) m.signatures ≡ o → clash_or m i o (clash_from m (i + 1) given) ≡ None → position (clashes s) m.signatures ≡ None) [
      | None ↦ λ e n. elim a [ inl same ↦ ap (λ u. position (clashes u) m.signatures) same ∙ e | inr more ↦ no_clash_in m (i + 1) given s n more ]
      | Some place ↦ λ e n. absurd (cc n)
    ]) refl none

same_pattern : (p q : Pattern) → is_same p q ≡ true → p ≡ q
same_pattern p q is =
    let parts = and_parts (bytes_eq p.bytes q.bytes && p.span.low == q.span.low) (p.span.high == q.span.high) is in
    let front = and_parts (bytes_eq p.bytes q.bytes) (p.span.low == q.span.low) parts.0 in
    let bytes : p.bytes ≡ q.bytes = (bytes_eq-Decides p.bytes q.bytes).0 front.0 in
    let low : p.span.low ≡ q.span.low = eqb-true _ _ front.1 in
    let high : p.span.high ≡ q.span.high = eqb-true _ _ parts.1 in
    let span : p.span ≡ q.span = ap₂ spanning low high in
    ap₂ made_of bytes span
  where
    spanning : ℕ → ℕ → Span
    spanning low high = record { low = low; high = high }

    made_of : List ℕ → Span → Pattern
    made_of bytes span = record { bytes = bytes; span = span }

not_clashing : (s t : Signature) → clashes s t ≡ false → bytes_eq t.name s.name ≡ true → t.pattern ≡ s.pattern
not_clashing s t none named =
    same_pattern t.pattern s.pattern
    ((elim (is_same t.pattern s.pattern) as (λ v. (bytes_eq t.name s.name && not v) ≡ false → v ≡ true) [ true ↦ λ e. refl | false ↦ λ e. absurd (true≢false (sym (rw named refl) ∙ e)) ]) none)

-- ---- one set

new_or_named : (before : List Signature) (s : Signature) → (is_new before s ≡ true) ⊎ ((t : Signature) × Among t before × (bytes_eq t.name s.name ≡ true))
new_or_named before s =
    (elim (list_any (λ t. bytes_eq t.name s.name) before) as (λ v. list_any (λ t. bytes_eq t.name s.name) before ≡ v
    → (is_new before s ≡ true) ⊎ ((t : Signature) × Among t before × (bytes_eq t.name s.name ≡ true))) [ true ↦ λ e. inr (any_passes (λ t. bytes_eq t.name s.name) before e) | false ↦ λ e. inl (ap not e) ]) refl

looks_either : (p : Pattern) (before more : List Signature) → Among p (patterns_of (before ++ more)) → Among p (patterns_of before) ⊎ Among p (patterns_of more)
looks_either p before more a = among_either p (patterns_of before) (patterns_of more) (subst (Among p) (map-append (λ (s : Signature). s.pattern) before more) a)

looks_first : (p : Pattern) (before more : List Signature) → Among p (patterns_of before) → Among p (patterns_of (before ++ more))
looks_first p before more a = subst (Among p) (sym (map-append (λ (s : Signature). s.pattern) before more)) (among_left p (patterns_of before) (patterns_of more) a)

looks_second : (p : Pattern) (before more : List Signature) → Among p (patterns_of more) → Among p (patterns_of (before ++ more))
looks_second p before more a = subst (Among p) (sym (map-append (λ (s : Signature). s.pattern) before more)) (among_right p (patterns_of before) (patterns_of more) a)

looks_added : (p : Pattern) (before given : List Signature) → Among p (patterns_of (added_by before given)) → Among p (patterns_of given)
looks_added p before given a =
    let from = map_among (λ (s : Signature). s.pattern) (added_by before given) p a in
    let part = filter_among (is_new before) given from.0 from.1 in
    subst (λ q. Among q (patterns_of given)) (sym from.2) (among_map (λ (s : Signature). s.pattern) given from.0 part.0)

looks_given : (m : Merged) (given : List Signature) (p : Pattern) → clash_from m 0 given ≡ None → Among p (patterns_of given) → Among p (patterns_of (m.signatures ++ added_by m.signatures given))
looks_given m given p none a =
    let from = map_among (λ (s : Signature). s.pattern) given p a in
    let s = from.0 in
    elim (new_or_named m.signatures s) [
      | inl new ↦
          looks_second p m.signatures (added_by m.signatures given)
          (subst (λ q. Among q (patterns_of (added_by m.signatures given))) (sym from.2)
          (among_map (λ (t : Signature). t.pattern) (added_by m.signatures given) s (among_filter (is_new m.signatures) given s new from.1)))
      | inr named ↦
          let apart : clashes s named.0 ≡ false = none_passes (clashes s) m.signatures named.0 (no_clash_in m 0 given s none from.1) named.1 in
          let same : p ≡ named.0.pattern = from.2 ∙ sym (not_clashing s named.0 apart named.2) in
          looks_first p m.signatures (added_by m.signatures given) (subst (λ q. Among q (patterns_of m.signatures)) (sym same) (among_map (λ (t : Signature). t.pattern) m.signatures named.0 named.1))
    ]

-- a set was merged: there was no fault, and this is what came of it
pub merged_parts : (m n : Merged) (i : ℕ) (s : NumberedSet) → merged_with m i s ≡ Ok n → (fault_of m s.signatures ≡ None) × (n ≡ with_more m i s.version (added_by m.signatures s.signatures))
merged_parts m n i s is =
    (elim (fault_of m s.signatures) as (λ o. fault_of m s.signatures ≡ o → unless o (with_more m i s.version (added_by m.signatures s.signatures)) ≡ Ok n
    → (fault_of m s.signatures ≡ None) × (n ≡ with_more m i s.version (added_by m.signatures s.signatures))) [ None ↦ λ e h. (e, sym (cc h)) | Some f ↦ λ e h. absurd (cc h) ]) refl is

-- ---- all sets

-- the merge goes on from a set
abbrev pub Onward : Merged → Merged → ℕ → NumberedSet → List NumberedSet → Type 0
Onward m n i s sets = (u : Merged) × (merged_with m i s ≡ Ok u) × (merged_from u (i + 1) sets ≡ Ok n)

pub onward : (m n : Merged) (i : ℕ) (s : NumberedSet) (sets : List NumberedSet) → merged_from m i (s ∷ sets) ≡ Ok n → Onward m n i s sets
unfolding merged_from
onward m n i s sets is =
    (elim (merged_with m i s) as (λ r. merged_with m i s ≡ r → and_then r (λ u. merged_from u (i + 1) sets) ≡ Ok n → Onward m n i s sets) [ Ok u ↦ λ e h. (u, e, h) | Err f ↦ λ e h. absurd (cc h) ]) refl is

pub the_end : (m n : Merged) (i : ℕ) → merged_from m i [] ≡ Ok n → m ≡ n
unfolding merged_from
the_end m n i is = cc is

looks_from : (sets : List NumberedSet) (m n : Merged) (i : ℕ) (p : Pattern) → merged_from m i sets ≡ Ok n → Among p (patterns_of n.signatures) → Among p (patterns_of m.signatures) ⊎ IsLookedFor sets p
looks_from [] m n i p is a = inl (subst (λ (k : Merged). Among p (patterns_of k.signatures)) (sym (the_end m n i is)) a)
looks_from (s ∷ sets) m n i p is a =
    let on = onward m n i s sets is in
    let parts = merged_parts m on.0 i s on.1 in
    elim (looks_from sets on.0 n (i + 1) p on.2 a) [
      | inl here ↦
          elim (looks_either p m.signatures (added_by m.signatures s.signatures) (subst (λ (k : Merged). Among p (patterns_of k.signatures)) parts.1 here)) [
            | inl old ↦ inl old
            | inr new ↦ inr (s, inl refl, looks_added p m.signatures s.signatures new)
          ]
      | inr there ↦ inr (there.0, inr there.1, there.2)
    ]

looks_kept : (sets : List NumberedSet) (m n : Merged) (i : ℕ) (p : Pattern) → merged_from m i sets ≡ Ok n → Among p (patterns_of m.signatures) → Among p (patterns_of n.signatures)
looks_kept [] m n i p is a = subst (λ (k : Merged). Among p (patterns_of k.signatures)) (the_end m n i is) a
looks_kept (s ∷ sets) m n i p is a =
    let on = onward m n i s sets is in
    let parts = merged_parts m on.0 i s on.1 in
    looks_kept sets on.0 n (i + 1) p on.2 (subst (λ (k : Merged). Among p (patterns_of k.signatures)) (sym parts.1) (looks_first p m.signatures (added_by m.signatures s.signatures) a))

looks_to : (sets : List NumberedSet) (m n : Merged) (i : ℕ) (p : Pattern) (t : NumberedSet) → merged_from m i sets ≡ Ok n → Among t sets → Among p (patterns_of t.signatures) → Among p (patterns_of n.signatures)
looks_to [] m n i p t is a b = absurd a
looks_to (s ∷ sets) m n i p t is a b =
    let on = onward m n i s sets is in
    let parts = merged_parts m on.0 i s on.1 in
    elim a [
      | inl same ↦
          looks_kept sets on.0 n (i + 1) p on.2
          (subst (λ (k : Merged). Among p (patterns_of k.signatures)) (sym parts.1)
          (looks_given m s.signatures p (no_clash m s.signatures parts.0) (subst (λ (k : NumberedSet). Among p (patterns_of k.signatures)) same b)))
      | inr more ↦ looks_to sets on.0 n (i + 1) p t on.2 more b
    ]

pub same_looks : LooksForTheSame
same_looks = λ sets m p is. (
  λ a. elim (looks_from sets no_sets m 0 p is a) [ inl none ↦ absurd none | inr of ↦ of ],
  λ of. looks_to sets no_sets m 0 p of.0 is of.1 of.2,
)

pub occurs_one : OccursUnderOne
occurs_one = λ sets m c e is. (
  λ a. let from = (same_looks sets m a.0 is).0 a.1 in (from.0, from.1, (a.0, from.2, a.2)),
  λ a. let p = a.2.0 in (p, (same_looks sets m p is).1 (a.0, a.1, a.2.1), a.2.2),
)

-- ---- clean contents

among_place : {A : Type 0} (xs : List A) (x : A) → Among x xs → (i : ℕ) × (slice_get xs i ≡ Some x)
among_place [] x a = absurd a
among_place (y ∷ ys) x (inl same) = (0, ap (λ z. Some z) (sym same))
among_place (y ∷ ys) x (inr more) = let at = among_place ys x more in (suc at.0, at.1)

place_among : {A : Type 0} (xs : List A) (i : ℕ) (x : A) → slice_get xs i ≡ Some x → Among x xs
place_among [] i x at = absurd (cc at)
place_among (y ∷ ys) zero x at = inl (sym (cc at))
place_among (y ∷ ys) (suc i) x at = inr (place_among ys i x at)

-- no pattern of these occurs
abbrev IsFreeOf : List Pattern → List ℕ → Type 0
IsFreeOf ps c = (p : Pattern) (e : ℕ) → Among p ps → Occurs p c e → ⊥

clean_free : (ps : List Pattern) (c : List ℕ) → verdict ps c ≡ Clean → IsFreeOf ps c
clean_free ps c clean = λ p e a o.
    let at = among_place ps p a in
    let none : IsVerdict ps c Clean = subst (IsVerdict ps c) clean (verdict_is ps c) in
    none e at.0 (p, at.1, o)

free_clean : (ps : List Pattern) (c : List ℕ) → IsFreeOf ps c → verdict ps c ≡ Clean
free_clean ps c free =
    (elim (verdict ps c) as (λ v. IsVerdict ps c v → v ≡ Clean) [
      | Clean ↦ λ is. refl
      | Infected i e ↦ λ is. let o = is.occurs in absurd (free o.0 e (place_among ps i o.0 o.1) o.2)
    ]) (verdict_is ps c)

each_from : {A : Type 0} (P : A → Type 0) (xs : List A) → ((x : A) → Among x xs → P x) → AllByRecursion P xs
each_from P [] all = tt
each_from P (x ∷ xs) all = (all x (inl refl), each_from P xs (λ y a. all y (inr a)))

pub clean_each : CleanUnderEach
clean_each = λ sets m c is. (
  λ clean. each_from (λ (s : NumberedSet). verdict (patterns_of s.signatures) c ≡ Clean) sets
      (λ s a. free_clean (patterns_of s.signatures) c (λ p e b o. clean_free (patterns_of m.signatures) c clean p e ((same_looks sets m p is).1 (s, a, b)) o)),
  λ all. free_clean (patterns_of m.signatures) c
      (λ p e b o.
      let from = (same_looks sets m p is).0 b in
      clean_free (patterns_of from.0.signatures) c (among_each (λ (s : NumberedSet). verdict (patterns_of s.signatures) c ≡ Clean) sets from.0 all from.1) p e from.2 o),
)

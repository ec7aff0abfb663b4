-- Answers in the order of their opens: those that a sort puts there.
use Rattle.std.proofs.Common.{◌≡◌, ◌≢◌, ℕ, ◌+◌, ◌<◌, ◌≤◌, Bool, true, false, if◌then◌else◌, ◌==◌, nat_le, List, [], ◌∷◌, map, length, ◌⊎◌, inl, inr, refl, sym, ap, ◌∙◌, subst, arith, suc}
use Rattle.std.proofs.lemmas.Bool.{cases_eq, cond_both, eq-eqb, eqb-false, eqb-true, leb-false, leb-true, ne_eqb}
use Rattle.std.proofs.lemmas.List.Elements.{All-from_recursion, recursion_from_All}
use Rattle.std.proofs.lemmas.List.Sorted.{All-permutation, IsPermutation-sym, sum_by-IsPermutation}
use Rattle.std.proofs.lemmas.List.Sums.{sum_by-cons}
use Rattle.std.specs.List.{AllByRecursion as Each, slice_index_or, sum_by}
use Rattle.std.specs.List.Sorted.{IsNonDecreasingBy, IsPermutation}
use Rattle.av_filter.proofs.EachLemmas.{each_weaker, each_both}
use Rattle.av_filter.proofs.CountLemmas.{each_balanced, order_times}
use Rattle.av_filter.specs.Conduct.{again_each, in_order, placed}
use Rattle.av_filter.specs.Once.{times}
use Rattle.av_filter_table.specs.FilterTable.{IsRising, open_numbers}
use Rattle.av_filter_table.specs.Table.{Table}
use Rattle.av_filter_table.specs.declared.question.Question.{Question}
use Rattle.av_pend.specs.Pend.{open_of}
use Rattle.av_pend.specs.declared.answer.Answer.{Answer}
use Rattle.av_store.specs.Store.{Store}

below : (m n : ℕ) → m ≤ n → m ≢ n → m < n
below m n low apart = elim (cases_eq m n) [ inl same ↦ absurd (apart same) | inr differs ↦ omega (arith, low, differs) ]

-- one where it holds
abbrev counted : Bool → ℕ
counted b = if b then 1 else 0

-- each answer is to an earlier open than those behind it
abbrev Rising : List Answer → Type 0
Rising [] = Unit {0}
Rising (a ∷ xs) = Each (λ b. open_of a < open_of b) xs × Rising xs

-- what holds of all of these holds of all of those
abbrev Holds : List Answer → List Answer → Type 1
Holds xs ys = (P : Answer → Type 0) → Each P xs → Each P ys

-- two lists that rise, of the same answers, are one
same_list : (xs ys : List Answer) → Rising xs → Rising ys → Holds xs ys → Holds ys xs → xs ≡ ys
same_list [] [] up up' to from = refl
same_list [] (y ∷ ys) up up' to from = absurd ((to (λ b. ⊥) tt).0)
same_list (x ∷ xs) [] up up' to from = absurd ((from (λ b. ⊥) tt).0)
same_list (x ∷ xs) (y ∷ ys) up up' to from =
    let low : open_of x ≤ open_of y = (to (λ b. open_of x ≤ open_of b) (omega arith, each_weaker _ _ (λ b less. let l : open_of x < open_of b = less in omega arith) xs up.0)).0 in
    let high : open_of y ≤ open_of x = (from (λ b. open_of y ≤ open_of b) (omega arith, each_weaker _ _ (λ b less. let l : open_of y < open_of b = less in omega arith) ys up'.0)).0 in
    let heads : x ≡ y = elim ((to (λ b. (b ≡ x) ⊎ (open_of x < open_of b)) (inl refl, each_weaker _ _ (λ b less. inr less) xs up.0)).0) [ inl same ↦ sym same | inr less ↦ absurd (omega arith) ] in
    let to_rest : Holds xs ys = λ P all. each_both (λ b. (b ≡ x) ⊎ P b) (λ b. open_of y < open_of b) P (λ b either less. elim either [ inl same ↦ absurd (let l : open_of y < open_of b = less in let e : open_of b ≡ open_of x = ap open_of same in omega arith) | inr p ↦ p ]) ys (to (λ b. (b ≡ x) ⊎ P b) (inl refl, each_weaker _ _ (λ b p. inr p) xs all)).1 up'.0 in
    let from_rest : Holds ys xs = λ P all. each_both (λ b. (b ≡ y) ⊎ P b) (λ b. open_of x < open_of b) P (λ b either less. elim either [ inl same ↦ absurd (let l : open_of x < open_of b = less in let e : open_of b ≡ open_of y = ap open_of same in omega arith) | inr p ↦ p ]) xs (from (λ b. (b ≡ y) ⊎ P b) (inl refl, each_weaker _ _ (λ b p. inr p) ys all)).1 up.0 in
    λ i. heads i ∷ same_list xs ys up.1 up'.1 to_rest from_rest i

-- one after another, and none twice
none_here : (m n k : ℕ) → (if m == n then 1 else 0) + k ≡ 0 → (m ≢ n) × (k ≡ 0)
none_here m n k none = go (m == n) refl none
  where
    go : (b : Bool) → (m == n) ≡ b → (if b then 1 else 0) + k ≡ 0 → (m ≢ n) × (k ≡ 0)
    go true e zero = absurd (omega arith)
    go false e zero = (eqb-false m n e, omega arith)

each_placed : (P : Answer → Type 0) (a : Answer) (xs : List Answer) → P a → Each P xs → Each P (placed a xs)
each_placed P a [] p all = (p, tt)
each_placed P a (b ∷ xs) p all = cond_both (nat_le (open_of a) (open_of b)) _ _ (Each P) (λ e. (p, all)) (λ e. (all.0, each_placed P a xs p all.1))

each_unplaced : (P : Answer → Type 0) (a : Answer) (xs : List Answer) → Each P (placed a xs) → P a × Each P xs
each_unplaced P a [] all = all
each_unplaced P a (b ∷ xs) all =
    cond_both (nat_le (open_of a) (open_of b)) _ _ (λ (ys : List Answer). Each P ys → P a × Each P (b ∷ xs)) (λ e all. all)
    (λ e all. let rest = each_unplaced P a xs all.1 in (rest.0, (all.0, rest.1))) all

to_order : (xs : List Answer) → Holds xs (in_order xs)
to_order [] P all = all
to_order (a ∷ xs) P all = each_placed P a (in_order xs) all.0 (to_order xs P all.1)

from_order : (xs : List Answer) → Holds (in_order xs) xs
from_order [] P all = all
from_order (a ∷ xs) P all = let parts = each_unplaced P a (in_order xs) all in (parts.0, from_order xs P parts.1)

rising_placed : (a : Answer) (xs : List Answer) → times (open_of a) (map open_of xs) ≡ 0 → Rising xs → Rising (placed a xs)
rising_placed a [] none up = (tt, tt)
rising_placed a (b ∷ xs) none up =
    let apart = none_here (open_of b) (open_of a) (times (open_of a) (map open_of xs)) none in
    cond_both (nat_le (open_of a) (open_of b)) _ _ Rising
    (λ e.
    let low : open_of a ≤ open_of b = leb-true (open_of a) (open_of b) e in
    let less : open_of a < open_of b = below (open_of a) (open_of b) low (λ same. apart.0 (sym same)) in
    ((less, each_weaker _ _ (λ k l. let past : open_of b < open_of k = l in omega arith) xs up.0), up))
    (λ e.
    let past : open_of b < open_of a = leb-false (open_of a) (open_of b) e in
    (each_placed (λ k. open_of b < open_of k) a xs past up.0, rising_placed a xs apart.1 up.1))

rising_order : (xs : List Answer) → ((n : ℕ) → times n (map open_of xs) ≤ 1) → Rising (in_order xs)
rising_order [] once = tt
rising_order (a ∷ xs) once =
    let here : times (open_of a) (map open_of (a ∷ xs)) ≤ 1 = once (open_of a) in
    let one : counted (open_of a == open_of a) ≡ 1 = ap counted (eq-eqb (open_of a) (open_of a) refl) in
    let same = order_times (open_of a) xs in
    let none : times (open_of a) (map open_of (in_order xs)) ≡ 0 = omega (arith, here, one, same) in
    rising_placed a (in_order xs) none (rising_order xs (λ n. let all : times n (map open_of (a ∷ xs)) ≤ 1 = once n in omega (arith, all)))

-- a sorted list of which no number stands twice
above : (y : Answer) (ys : List Answer) → ((j : ℕ) (d : Answer) → j < length ys → open_of y ≤ open_of (slice_index_or ys j d)) → times (open_of y) (map open_of ys) ≡ 0 → Each (λ k. open_of y < open_of k) ys
above y [] sorted none = tt
above y (k ∷ ys) sorted none =
    let apart = none_here (open_of k) (open_of y) (times (open_of y) (map open_of ys)) none in
    (below (open_of y) (open_of k) (sorted 0 y (omega arith)) (λ same. apart.0 (sym same)), above y ys (λ j d less. sorted (suc j) d (omega arith)) apart.1)

rising_sorted : (ys : List Answer) → IsNonDecreasingBy open_of ys → ((n : ℕ) → times n (map open_of ys) ≤ 1) → Rising ys
rising_sorted [] sorted once = tt
rising_sorted (y ∷ ys) sorted once =
    let here : times (open_of y) (map open_of (y ∷ ys)) ≤ 1 = once (open_of y) in
    let one : counted (open_of y == open_of y) ≡ 1 = ap counted (eq-eqb (open_of y) (open_of y) refl) in
    let none : times (open_of y) (map open_of ys) ≡ 0 = omega (arith, here, one) in (
      above y ys (λ j d less. sorted 0 (suc j) d (omega arith) (omega arith)) none,
      rising_sorted ys (λ i j d low less. sorted (suc i) (suc j) d (omega arith) (omega arith)) (λ n. let all : times n (map open_of (y ∷ ys)) ≤ 1 = once n in omega (arith, all)),
    )

times_sum : (n : ℕ) (xs : List Answer) → times n (map open_of xs) ≡ sum_by (λ a. if open_of a == n then 1 else 0) xs
times_sum n [] = refl
times_sum n (a ∷ xs) = ap (λ k. (if open_of a == n then 1 else 0) + k) (times_sum n xs) ∙ sym (sum_by-cons (λ a. if open_of a == n then 1 else 0) a xs)

times_permutation : (n : ℕ) (xs ys : List Answer) → IsPermutation xs ys → times n (map open_of ys) ≡ times n (map open_of xs)
times_permutation n xs ys moves = times_sum n ys ∙ sum_by-IsPermutation (λ a. if open_of a == n then 1 else 0) xs ys moves ∙ sym (times_sum n xs)

holds_permuted : (xs ys : List Answer) → IsPermutation xs ys → Holds xs ys
holds_permuted xs ys moves P all = recursion_from_All P ys (All-permutation P xs ys moves (All-from_recursion P xs all))

pub sorted_is : (xs ys : List Answer) → ((n : ℕ) → times n (map open_of xs) ≤ 1) → IsPermutation xs ys → IsNonDecreasingBy open_of ys → ys ≡ in_order xs
sorted_is xs ys once moves sorted =
    same_list ys (in_order xs) (rising_sorted ys sorted (λ n. subst (λ k. k ≤ 1) (sym (times_permutation n xs ys moves)) (once n))) (rising_order xs once)
    (λ P all. to_order xs P (holds_permuted ys xs (IsPermutation-sym xs ys moves) P all)) (λ P all. holds_permuted xs ys moves P (from_order xs P all))

-- numbers that rise stand once
none_below : (n : ℕ) (ns : List ℕ) → Each (λ k. n < k) ns → times n ns ≡ 0
none_below n [] up = refl
none_below n (k ∷ ns) up =
    let less : n < k = up.0 in
    let other : counted (k == n) ≡ 0 = ap counted (ne_eqb k n (λ e. omega arith)) in
    let rest = none_below n ns up.1 in
    omega (arith, other, rest)

pub once_each : (ns : List ℕ) → IsRising ns → (n : ℕ) → times n ns ≤ 1
once_each [] up n = omega arith
once_each (m ∷ ns) up n = go (m == n) refl (once_each ns up.1 n)
  where
    go : (b : Bool) → (m == n) ≡ b → times n ns ≤ 1 → (if m == n then 1 else 0) + times n ns ≤ 1
    go true e rest =
        let one : counted (m == n) ≡ 1 = ap counted e in
        let none : times n ns ≡ 0 = subst (λ k. times k ns ≡ 0) (eqb-true m n e) (none_below m ns up.0) in
        omega (arith, one, none)
    go false e rest = let zero : counted (m == n) ≡ 0 = ap counted e in omega (arith, zero, rest)

-- the answers that are given where a port is lost are in the order of their opens, once they are sorted by them
pub sorted_answers : (t : Table) (v : Store) (qs : List Question) (ys : List Answer) → IsRising (open_numbers t.pended) → IsPermutation (again_each t v qs).answers ys → IsNonDecreasingBy open_of ys → ys ≡ in_order (again_each t v qs).answers
sorted_answers t v qs ys up moves sorted =
    let b = each_balanced v qs t in
    sorted_is (again_each t v qs).answers ys (λ n. let kept = b.kept n in let once : times n (open_numbers t.pended) ≤ 1 = once_each (open_numbers t.pended) up n in omega (arith, kept, once)) moves sorted

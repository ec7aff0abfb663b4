-- A name is always free: so many numbered names differ, and fewer stand before.
use Rattle.std.proofs.Common.{ℕ, zero, suc, ◌≡◌, ◌≤◌, ◌<◌, ◌+◌, ◌-◌, ◌^◌, true, false, cond, List, [], ◌∷◌, ◌++◌, length, take, decimal, nat_eq, refl, sym, ap, subst, arith, ◌∙◌, rules, eqb-true, inl, inr}
use Rattle.std.proofs.lemmas.Bool.{true≢false}
use Rattle.std.proofs.lemmas.Bool.Decides.{nat_tests, eqb_tells}
use Rattle.std.proofs.lemmas.Fmt.{decimal_injective, digits_decimal}
use Rattle.std.proofs.lemmas.Map.Steps.{length-le_from_distinct_below}
use Rattle.std.proofs.lemmas.Slice.Eq.{bytes_eq-Decides}
use Rattle.std.proofs.lemmas.Str.Parse.{IsNumeralModel, numerals_by_fold}
use Rattle.std.specs.List.{AllByRecursion, IsDistinct, list_all, list_any}
use Rattle.std.specs.Str.{bytes_eq}
use Rattle.av_base.specs.Decimal.{is_digit, value_from}
use Rattle.av_sigset.proofs.PieceLemmas.{IsFree, free_from as free_of}
use Rattle.av_sigset.specs.declared.signature.Signature.{Signature}
use Rattle.av_import.specs.Name.{free_from, is_taken, numbered}

-- ---- numbered names differ

own : IsNumeralModel (λ ds. list_all is_digit ds ≡ true) (value_from 0)
own = numerals_by_fold _ (search rules) value_from (search rules)

pub decimal_digits : (n : ℕ) → n < 2 ^ 64 → list_all is_digit (decimal n) ≡ true
decimal_digits n small = digits_decimal own n small

free_middle : (s : ℕ) (b y : List ℕ) → IsFree s (b ++ s ∷ y) → ⊥
free_middle s [] y free = free.0 refl
free_middle s (c ∷ b) y free = free_middle s b y free.1

tails : (a b : ℕ) (x y : List ℕ) → a ∷ x ≡ b ∷ y → x ≡ y
tails a b x y h = cc

last_dot : (s : ℕ) (a b x y : List ℕ) → a ++ s ∷ x ≡ b ++ s ∷ y → IsFree s x → IsFree s y → x ≡ y
last_dot s [] [] x y h first second = tails s s x y h
last_dot s [] (c ∷ b) x y h first second = absurd (free_middle s b y (subst (IsFree s) (tails s c x (b ++ s ∷ y) h) first))
last_dot s (c ∷ a) [] x y h first second = absurd (free_middle s a x (subst (IsFree s) (tails s c y (a ++ s ∷ x) (sym h)) second))
last_dot s (c ∷ a) (d ∷ b) x y h first second = last_dot s a b x y (tails c d (a ++ s ∷ x) (b ++ s ∷ y) h) first second

numbered_is : (name : List ℕ) (n : ℕ) → 1 < n → numbered name n ≡ take (32 - (length (decimal n) + 1)) name ++ 46 ∷ decimal n
unfolding numbered
numbered_is name n high = let other : nat_eq n 1 ≡ false = grind (arith, nat_tests) in rw other refl

differ : (name : List ℕ) (i j : ℕ) → 1 < i → 1 < j → i < 2 ^ 64 → j < 2 ^ 64 → numbered name i ≡ numbered name j → i ≡ j
differ name i j first second small smaller same =
    decimal_injective i j small smaller
    (last_dot 46 (take (32 - (length (decimal i) + 1)) name) (take (32 - (length (decimal j) + 1)) name) (decimal i) (decimal j)
    (sym (numbered_is name i first) ∙ same ∙ numbered_is name j second)
    (free_of is_digit 46 (decimal i) refl (decimal_digits i small)) (free_of is_digit 46 (decimal j) refl (decimal_digits j smaller)))

-- ---- where a name stands

abbrev place_of : List Signature → List ℕ → ℕ
place_of [] name = 0
place_of (s ∷ before) name = cond (bytes_eq s.name name) 0 (suc (place_of before name))

equal_names : (m n : List ℕ) → bytes_eq m n ≡ true → m ≡ n
equal_names m n h = let d = bytes_eq-Decides m n in d.0 h

place_inside : (before : List Signature) (name : List ℕ) → is_taken before name ≡ true → place_of before name < length before
place_inside [] name taken = absurd (true≢false (sym taken))
place_inside (s ∷ before) name taken =
    (elim (bytes_eq s.name name) as (λ v. bytes_eq s.name name ≡ v → cond v 0 (suc (place_of before name)) < suc (length before)) [
      | true ↦ λ e. omega arith
      | false ↦ λ e. (let rest : is_taken before name ≡ true = rw e at taken in omega (arith, place_inside before name rest))
    ]) refl

place_same : (before : List Signature) (m n : List ℕ) → is_taken before m ≡ true → is_taken before n ≡ true → place_of before m ≡ place_of before n → m ≡ n
place_same [] m n first second same = absurd (true≢false (sym first))
place_same (s ∷ before) m n first second same =
    (elim (bytes_eq s.name m) as (λ v. bytes_eq s.name m ≡ v → m ≡ n) [
      | true ↦ λ e.
          (elim (bytes_eq s.name n) as (λ w. bytes_eq s.name n ≡ w → m ≡ n) [
            | true ↦ λ f. (sym (equal_names s.name m e) ∙ equal_names s.name n f)
            | false ↦ λ f. (let h = rw (e, f) at same in absurd (omega (arith, h)))
          ]) refl
      | false ↦ λ e.
          (elim (bytes_eq s.name n) as (λ w. bytes_eq s.name n ≡ w → m ≡ n) [
            | true ↦ λ f. (let h = rw (e, f) at same in absurd (omega (arith, h)))
            | false ↦ λ f. (
                let h : suc (place_of before m) ≡ suc (place_of before n) = rw (e, f) at same in
                let p : is_taken before m ≡ true = rw e at first in
                let q : is_taken before n ≡ true = rw f at second in
                place_same before m n p q (omega (arith, h)))
          ]) refl
    ]) refl

-- ---- the places of the names from number 2 on

abbrev places : ℕ → List ℕ → List Signature → List ℕ
places zero name before = []
places (suc k) name before = place_of before (numbered name (k + 2)) ∷ places k name before

abbrev AllTaken : ℕ → List ℕ → List Signature → Type 0
AllTaken k name before = (i : ℕ) → 1 < i → i < k + 2 → is_taken before (numbered name i) ≡ true

length-places : (k : ℕ) (name : List ℕ) (before : List Signature) → length (places k name before) ≡ k
length-places zero name before = refl
length-places (suc k) name before = ap suc (length-places k name before)

none_equal : (k m : ℕ) (name : List ℕ) (before : List Signature) → k ≤ m → m + 2 < 2 ^ 64 → AllTaken (suc m) name before
    → AllByRecursion (λ y. nat_eq (place_of before (numbered name (m + 2))) y ≡ false) (places k name before)
none_equal zero m name before low small taken = tt
none_equal (suc k) m name before low small taken =
    let other : nat_eq (place_of before (numbered name (m + 2))) (place_of before (numbered name (k + 2))) ≡ false =
    elim (eqb_tells (place_of before (numbered name (m + 2))) (place_of before (numbered name (k + 2)))) [
      | inl p ↦ absurd (
          let one : 1 < m + 2 = omega arith in
          let two : 1 < k + 2 = omega arith in
          let same = differ name (m + 2) (k + 2) one two small (omega arith) (place_same before _ _ (taken (m + 2) one (omega arith)) (taken (k + 2) two (omega arith)) p.1) in
          omega (arith, same))
      | inr p ↦ p.0
    ] in
    (other, none_equal k m name before (omega arith) small taken)

distinct : (k : ℕ) (name : List ℕ) (before : List Signature) → k + 2 < 2 ^ 64 → AllTaken k name before → IsDistinct nat_eq (places k name before)
unfolding IsDistinct
distinct zero name before small taken = tt
distinct (suc k) name before small taken =
    (none_equal k k name before (omega arith) (omega arith) taken, distinct k name before (omega arith) (λ i low high. taken i low (omega arith)))

below : (k : ℕ) (name : List ℕ) (before : List Signature) → AllTaken k name before → (q : ℕ) → list_any (nat_eq q) (places k name before) ≡ true → q < length before
below zero name before taken q h = absurd (true≢false (sym h))
below (suc k) name before taken q h =
    (elim (nat_eq q (place_of before (numbered name (k + 2)))) as (λ v. nat_eq q (place_of before (numbered name (k + 2))) ≡ v → q < length before) [
      | true ↦ λ e. (let same = eqb-true _ _ e in let inside = place_inside before (numbered name (k + 2)) (taken (k + 2) (omega arith) (omega arith)) in omega (arith, same, inside))
      | false ↦ λ e. (let rest : list_any (nat_eq q) (places k name before) ≡ true = rw e at h in below k name before (λ i low high. taken i low (omega arith)) q rest)
    ]) refl

few_taken : (k : ℕ) (name : List ℕ) (before : List Signature) → k + 2 < 2 ^ 64 → AllTaken k name before → k ≤ length before
few_taken k name before small taken =
    let short = length-le_from_distinct_below (places k name before) (length before) (distinct k name before small taken) (below k name before taken) in
    omega (arith, short, length-places k name before)

-- ---- the first free name is free

taken_to : (more number : ℕ) (name : List ℕ) (before : List Signature) → is_taken before (free_from more number name before) ≡ true
    → (i : ℕ) → number ≤ i → i ≤ number + more → is_taken before (numbered name i) ≡ true
unfolding free_from
taken_to zero number name before taken i low high = let same : number ≡ i = omega arith in ap (λ j. is_taken before (numbered name j)) (sym same) ∙ taken
taken_to (suc more) number name before taken i low high =
    (elim (is_taken before (numbered name number)) as (λ v. is_taken before (numbered name number) ≡ v → is_taken before (numbered name i) ≡ true) [
      | false ↦ λ e. (let here : is_taken before (numbered name number) ≡ true = rw e at taken in absurd (true≢false (sym here ∙ e)))
      | true ↦ λ e.
          (let next : is_taken before (free_from more (number + 1) name before) ≡ true = rw e at taken in
          elim (eqb_tells number i) [
            | inl p ↦ ap (λ j. is_taken before (numbered name j)) (sym p.1) ∙ e
            | inr p ↦ taken_to more (number + 1) name before next i (omega (arith, p.1)) (omega arith)
          ])
    ]) refl

pub one_free : (name : List ℕ) (before : List Signature) → length before < 1024 → is_taken before (free_from 1026 1 name before) ≡ false
one_free name before few =
    (elim (is_taken before (free_from 1026 1 name before)) as (λ v. is_taken before (free_from 1026 1 name before) ≡ v → v ≡ false) [
      | false ↦ λ e. refl
      | true ↦ λ e. absurd (omega (arith, few_taken 1025 name before (omega arith) (λ i low high. taken_to 1026 1 name before e i (omega arith) (omega arith))))
    ]) refl

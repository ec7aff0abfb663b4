-- Rows by number under an index that is a list in order: where a number stands, and what stands at a place.
use Rattle.std.proofs.Common.{◌≡◌, ◌≢◌, ℕ, zero, suc, ◌<◌, ◌≤◌, List, [], ◌∷◌, ◌++◌, length, get_or, slice_get, Option, Some, None, IsSome, IsSomeAnd, IfSome, IfNone, Result, Ok, Err, refl, sym, ap, subst, ◌∙◌, inl, inr, arith}
use Rattle.std.specs.List.{remove}
use Rattle.std.specs.List.Sorted.{IsSearchInRange, IsBinarySearchResult, IsNonDecreasingBy}
use Rattle.std.specs.Map.{keys_of}
use Rattle.std.specs.Option.{option_and_then, option_map}
use Rattle.std.specs.Ordering.{nat_cmp, ordering_index}
use Rattle.std.specs.Result.{result_ok}
use Rattle.std.specs.declared.cmp.Ordering.TheVariants.{Equal}
use Rattle.std.proofs.lemmas.Bool.{cases_eq, cases_lt}
use Rattle.std.proofs.lemmas.Bool.Decides.{nat_tests}
use Rattle.std.proofs.lemmas.Cmp.{ranked}
use Rattle.std.proofs.lemmas.List.{get_or-map}
use Rattle.std.proofs.lemmas.List.Sorted.{IsNonDecreasingBy-from_default}
use Rattle.std.proofs.lemmas.Map.Entries.{length-keys_of}
use Rattle.std.proofs.lemmas.Map.Keys.{below_from_sorted}
use Rattle.av_context.specs.Contexts.{at, without, PutsAt}
use Rattle.av_numbered.specs.Numbered.{IsAscending, placed, joined}
use Rattle.av_numbered.proofs.MapLemmas.{none_some, some_same, at-same, at-apart, at-none, head-above, tail-ascends, without-here, without-apart}

-- a list ends with its last
last-split : {A : Type 0} (m : List A) (i : ℕ) (x : A) → suc i ≡ length m → slice_get m i ≡ Some x → m ≡ remove m i ++ x ∷ []
last-split [] i x last is = none_some is
last-split (y ∷ []) zero x last is = ap (λ z. z ∷ []) (some_same y x is)
last-split (y ∷ z ∷ m) zero x last is = absurd (omega arith)
last-split (y ∷ m) (suc i) x last is = ap (λ l. y ∷ l) (last-split m i x (omega arith) is)

-- a place below the length has something
pub place-there : {A : Type 0} (m : List A) (i : ℕ) → i < length m → (x : A) × (slice_get m i ≡ Some x)
place-there [] i low = absurd (omega arith)
place-there (x ∷ m) zero low = (x, refl)
place-there (x ∷ m) (suc i) low = place-there m i (omega arith)

pub place-read : {A : Type 0} (m : List A) (i : ℕ) (x d : A) → slice_get m i ≡ Some x → get_or m i d ≡ x
place-read [] i x d is = none_some is
place-read (y ∷ m) zero x d is = some_same y x is
place-read (y ∷ m) (suc i) x d is = place-read m i x d is

-- what an index reads
pub place-is : {A : Type 0} (m : List A) (i : ℕ) (x : A) → i < length m → x ≡ get_or m i x → slice_get m i ≡ Some x
place-is [] i x low is = absurd (omega arith)
place-is (y ∷ m) zero x low is = ap Some (sym is)
place-is (y ∷ m) (suc i) x low is = place-is m i x (omega arith) is

pub place-past : {A : Type 0} (m : List A) (i : ℕ) → length m ≤ i → slice_get m i ≡ None
place-past [] i past = refl
place-past (x ∷ m) zero past = absurd (omega arith)
place-past (x ∷ m) (suc i) past = place-past m i (omega arith)

pub place-low : {A : Type 0} (P : A → Type 0) (m : List A) (i : ℕ) → IsSomeAnd (slice_get m i) P → i < length m
place-low P [] i holds = absurd holds
place-low P (x ∷ m) zero holds = omega arith
place-low P (x ∷ m) (suc i) holds = let low = place-low P m i holds in omega arith

-- a pair of which the type is plain
abbrev pub pair : {A B : Type 0} → A → B → A × B
pair a b = (a, b)

module _ {X : Type 0} where
  -- what stands at a place stands at its number
  pub at-place : (m : List (ℕ × X)) (i n : ℕ) (x : X) → IsAscending m → slice_get m i ≡ Some (n, x) → at m n ≡ Some x
  at-place [] i n x up is = none_some is
  at-place (p ∷ m) zero n x up is =
      let here : p ≡ (n, x) = some_same p (n, x) is in
      ap (λ q. at (q ∷ m) n) here ∙ at-same m n x
  at-place (p ∷ m) (suc i) n x up is =
      let rest = at-place m i n x (tail-ascends p m up) is in
      at-apart m p.0 n p.1 (λ e. none_some (sym (at-none m p.0 (head-above p m up)) ∙ (ap (at m) (sym e) ∙ rest))) ∙ rest

  -- what stands last stands at its number
  pub at-end : (m : List (ℕ × X)) (n : ℕ) (x : X) → IsAscending (m ++ (n, x) ∷ []) → at (m ++ (n, x) ∷ []) n ≡ Some x
  at-end [] n x up = at-same [] n x
  at-end (p ∷ m) n x up =
      let rest = at-end m n x (tail-ascends p (m ++ (n, x) ∷ []) up) in
      at-apart (m ++ (n, x) ∷ []) p.0 n p.1 (λ e. none_some (sym (at-none (m ++ (n, x) ∷ []) p.0 (head-above p (m ++ (n, x) ∷ []) up)) ∙ (ap (at (m ++ (n, x) ∷ [])) (sym e) ∙ rest))) ∙ rest

  -- without what stands at a place, as without its number
  pub removed-at : (m : List (ℕ × X)) (i n : ℕ) (x : X) → IsAscending m → slice_get m i ≡ Some (n, x) → remove m i ≡ without m n
  removed-at [] i n x up is = none_some is
  removed-at (p ∷ m) zero n x up is = sym (without-here m p.0 n p.1 (ap (λ q. q.0) (sym (some_same p (n, x) is))))
  removed-at (p ∷ m) (suc i) n x up is =
      let rest = at-place m i n x (tail-ascends p m up) is in
      ap (λ l. p ∷ l) (removed-at m i n x (tail-ascends p m up) is)
      ∙ sym (without-apart m p.0 n p.1 (λ e. none_some (sym (at-none m p.0 (head-above p m up)) ∙ (ap (at m) (sym e) ∙ rest))))

  -- the last goes out
  pub last-out : (m m' : List (ℕ × X)) (i n : ℕ) (x : X) → IsAscending m → suc i ≡ length m → slice_get m i ≡ Some (n, x) → PutsAt m m' n None → m ≡ m' ++ (n, x) ∷ []
  last-out m m' i n x up last is puts =
      last-split m i (n, x) last is ∙ ap (λ l. l ++ (n, x) ∷ []) (removed-at m i n x up is ∙ sym puts.whole)

  -- a number that stands nowhere is not there
  nowhere : (m : List (ℕ × X)) (n : ℕ) (d : ℕ × X) → ((j : ℕ) → j < length m → (get_or m j d).0 ≢ n) → at m n ≡ None
  nowhere [] n d none = refl
  nowhere (p ∷ m) n d none =
      at-apart m p.0 n p.1 (λ e. none 0 (omega arith) (sym e))
      ∙ nowhere m n d (λ j low. none (suc j) (omega arith))

-- the row that stands at the place of a number
pub row-at : {R V : Type 0} (m : List (ℕ × (R × V))) (i n k : ℕ) (r : R) → IsAscending m → IsSomeAnd (slice_get m i) (λ p. p.0 ≡ n) → Some (k, r) ≡ option_map (λ p. pair p.0 p.1.0) (slice_get m i) → Some r ≡ option_map (λ p. p.0) (at m n)
row-at {R} {V} m i n k r up stands is = by_case (slice_get m i) refl stands is
  where
    by_case : (o : Option (ℕ × (R × V))) → slice_get m i ≡ o → IsSomeAnd o (λ p. p.0 ≡ n) → Some (k, r) ≡ option_map (λ p. pair p.0 p.1.0) o → Some r ≡ option_map (λ p. p.0) (at m n)
    by_case None none stands is = absurd stands
    by_case (Some p) found stands is =
        ap (option_map (λ q. q.1)) is
        ∙ sym (ap (option_map (λ q. q.0)) (ap (at m) (sym stands) ∙ at-place m i p.0 p.1 up found))

-- the joined map has a pair for each place of its index
abbrev pub AreFound : {X : Type 0} → List (ℕ × ℕ) → (ℕ → Option X) → Type 0
AreFound index find_at = (n k : ℕ) → at index n ≡ Some k → IsSome (find_at k)

module _ {X : Type 0} (find_at : ℕ → Option X) where
  -- and so it is behind the first
  pub found-tail : (p : ℕ × ℕ) (index : List (ℕ × ℕ)) → IsAscending (p ∷ index) → AreFound (p ∷ index) find_at → AreFound index find_at
  found-tail p index up there n k found = elim (cases_eq n p.0) [
    | inl same ↦ none_some (sym (at-none index p.0 (head-above p index up)) ∙ (ap (at index) (sym same) ∙ found))
    | inr apart ↦ there n k (at-apart index p.0 n p.1 apart ∙ found)
  ]

  keys-placed : (n : ℕ) (m : List (ℕ × X)) (o : Option X) → IsSome o → keys_of (placed n o m) ≡ n ∷ keys_of m
  keys-placed n m None some = absurd (cc)
  keys-placed n m (Some x) some = refl

  pub keys-joined : (index : List (ℕ × ℕ)) → IsAscending index → AreFound index find_at → keys_of (joined index find_at) ≡ keys_of index
  keys-joined [] up there = refl
  keys-joined (p ∷ index) up there =
      keys-placed p.0 (joined index find_at) (find_at p.1) (there p.0 p.1 (at-same index p.0 p.1))
      ∙ ap (λ ks. p.0 ∷ ks) (keys-joined index (tail-ascends p index up) (found-tail p index up there))

  pub length-joined : (index : List (ℕ × ℕ)) → IsAscending index → AreFound index find_at → length (joined index find_at) ≡ length index
  length-joined index up there = sym (length-keys_of (joined index find_at)) ∙ (ap length (keys-joined index up there) ∙ length-keys_of index)

  first-placed : (n : ℕ) (m : List (ℕ × X)) (o : Option X) → IsSome o → slice_get (placed n o m) 0 ≡ option_map (λ x. (n, x)) o
  first-placed n m None some = absurd (cc)
  first-placed n m (Some x) some = refl

  later-placed : (n i : ℕ) (m : List (ℕ × X)) (o : Option X) → IsSome o → slice_get (placed n o m) (suc i) ≡ slice_get m i
  later-placed n i m None some = absurd (cc)
  later-placed n i m (Some x) some = refl

  pub place-joined : (index : List (ℕ × ℕ)) (i : ℕ) → IsAscending index → AreFound index find_at
      → slice_get (joined index find_at) i ≡ option_and_then (λ p. option_map (λ x. (p.0, x)) (find_at p.1)) (slice_get index i)
  place-joined [] i up there = refl
  place-joined (p ∷ index) zero up there = first-placed p.0 (joined index find_at) (find_at p.1) (there p.0 p.1 (at-same index p.0 p.1))
  place-joined (p ∷ index) (suc i) up there =
      later-placed p.0 i (joined index find_at) (find_at p.1) (there p.0 p.1 (at-same index p.0 p.1))
      ∙ place-joined index i (tail-ascends p index up) (found-tail p index up there)

-- a search by number among pairs that ascend
module _ (index : List (ℕ × ℕ)) (up : IsAscending index) (n : ℕ) where
  number-at : (i : ℕ) → i < length index → get_or (keys_of index) i 0 ≡ (get_or index i (0, 0)).0
  number-at i low = get_or-map (λ p. p.0) index i (0, 0) 0 low

  numbers_rise : (i j : ℕ) → i ≤ j → j < length index → (get_or index i (0, 0)).0 ≤ (get_or index j (0, 0)).0
  numbers_rise i j le low = elim (cases_eq i j) [
    | inl same ↦ let e : (get_or index i (0, 0)).0 ≡ (get_or index j (0, 0)).0 = ap (λ k. (get_or index k (0, 0)).0) same in omega arith
    | inr apart ↦
        let less : get_or (keys_of index) i 0 < get_or (keys_of index) j 0 = below_from_sorted (keys_of index) i j 0 up (omega arith) (subst (λ l. j < l) (sym (length-keys_of index)) low) in
        let here : get_or (keys_of index) i 0 ≡ (get_or index i (0, 0)).0 = number-at i (omega arith) in
        let there : get_or (keys_of index) j 0 ≡ (get_or index j (0, 0)).0 = number-at j low in
        omega arith
  ]

  comparisons_rise : IsNonDecreasingBy (λ p. ordering_index (nat_cmp p.0 n)) index
  comparisons_rise = IsNonDecreasingBy-from_default (λ p. ordering_index (nat_cmp p.0 n)) index (0, 0) (λ i j le low.
      let rise = numbers_rise i j le low in
      grind (arith, nat_tests))

  -- it ends at the number, or the number is not there
  pub searched : (r : Result ℕ ℕ) → IsSearchInRange r (length index) → IsBinarySearchResult (λ p. nat_cmp p.0 n) index r
      → record { some : IfSome (result_ok r) (λ i. IsSomeAnd (slice_get index i) (λ p. p.0 ≡ n)); none : IfNone (result_ok r) (at index n ≡ None) }
  searched (Ok i) low equal =
      let found = place-there index i low in
      record {
        some = subst (λ o. IsSomeAnd o (λ p. p.0 ≡ n)) (sym found.1) (ranked found.0.0 n _ (sym (subst (λ p. nat_cmp p.0 n ≡ Equal) (place-read index i found.0 (0, 0) found.1) (equal (0, 0)))));
        none = tt;
      }
  searched (Err i) low parted = record {
    some = tt;
    none = nowhere index n (0, 0) (λ j inside same. elim (cases_lt j i) [
      | inl before ↦ let less : (get_or index j (0, 0)).0 < n = ranked _ n _ (sym ((parted comparisons_rise).0 j (0, 0) (omega arith) before)) in absurd (omega arith)
      | inr behind ↦ let more : n < (get_or index j (0, 0)).0 = ranked _ n _ (sym ((parted comparisons_rise).1 j (0, 0) behind inside)) in absurd (omega arith)
    ]);
  }

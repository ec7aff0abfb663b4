-- Finite maps as lists of pairs by rising number: two maps that answer alike are the same list.
use Rattle.std.proofs.Common.{◌≡◌, ◌≢◌, ◌⊎◌, ℕ, ◌<◌, List, [], ◌∷◌, ◌++◌, Option, Some, None, is_some, IsSome, IfSome, unwrap_or, cond, refl, sym, ap, subst, ◌∙◌, inl, inr, arith}
use Rattle.std.specs.Option.{option_and_then, option_map}
use Rattle.std.specs.Ordering.{nat_cmp, match_ordering, is_eq}
use Rattle.std.specs.List.{AllByRecursion}
use Rattle.std.specs.List.Sorted.{IsStrictlySortedBy}
use Rattle.std.specs.Map.{keys_of}
use Rattle.std.specs.declared.cmp.Ordering.TheVariants.{Less, Equal}
use Rattle.std.proofs.lemmas.Bool.{cases_eq, cases_lt}
use Rattle.std.proofs.lemmas.Bool.Decides.{nat_tests}
use Rattle.av_context.proofs.RowsLemmas.{cmp-same, cmp-below, cmp-above}
use Rattle.av_context.specs.Contexts.{at, with, without, PutsAt}
use Rattle.av_numbered.specs.Numbered.{IsAscending, placed, joined}

pub below-cmp : (k n : ℕ) → nat_cmp k n ≡ Less → k < n
below-cmp k n less = grind (arith, nat_tests)

-- two numbers are below, equal or above
pub three : (k n : ℕ) → (k < n) ⊎ ((k ≡ n) ⊎ (n < k))
three k n = elim (cases_eq k n) [
  | inl same ↦ inr (inl same)
  | inr apart ↦ elim (cases_lt k n) [ inl below ↦ inl below | inr above ↦ inr (inr (omega arith)) ]
]

pub none_some : {X : Type 0} {x : X} {P : Type 0} → None ≡ Some x → P
none_some e = absurd (cc)

pub not_there : {X P : Type 0} (o : Option X) → o ≡ None → IsSome o → P
not_there None none some = absurd (cc)
not_there (Some x) none some = absurd (cc)

pub if_some : {X : Type 0} (P : X → Type 0) (o : Option X) → ((x : X) → o ≡ Some x → P x) → IfSome o P
if_some P None f = tt
if_some P (Some x) f = f x refl

pub if_some_at : {X : Type 0} (P : X → Type 0) (o : Option X) (x : X) → IfSome o P → o ≡ Some x → P x
if_some_at P o x holds is = subst (λ p. IfSome p P) is holds

pub is_there : {X : Type 0} (o : Option X) (x : X) → o ≡ Some x → IsSome o
is_there o x is = ap is_some is

pub some_same : {X : Type 0} (x y : X) → Some x ≡ Some y → x ≡ y
some_same x y e = ap (λ o. unwrap_or o x) e

pub none-ascends : (X : Type 0) → IsAscending {X = X} []
unfolding IsStrictlySortedBy
none-ascends X = tt

module _ {X : Type 0} where
  -- how one pair stands to a key
  pub at-same : (m : List (ℕ × X)) (k : ℕ) (x : X) → at ((k, x) ∷ m) k ≡ Some x
  at-same m k x = ap (λ o. cond (is_eq o) (Some x) (at m k)) (cmp-same k)

  pub at-apart : (m : List (ℕ × X)) (n k : ℕ) (x : X) → k ≢ n → at ((n, x) ∷ m) k ≡ at m k
  at-apart m n k x apart = elim (three k n) [
    | inl below ↦ ap (λ o. cond (is_eq o) (Some x) (at m k)) (cmp-below k n below)
    | inr rest ↦ elim rest [
      | inl same ↦ absurd (apart same)
      | inr above ↦ ap (λ o. cond (is_eq o) (Some x) (at m k)) (cmp-above k n above)
    ]
  ]

  -- every number of a map is above this one
  abbrev pub AreAbove : ℕ → List (ℕ × X) → Type 0
  AreAbove k m = AllByRecursion (λ y. nat_cmp k y ≡ Less) (keys_of m)

  pub above-less : (j k : ℕ) (m : List (ℕ × X)) → j < k → AreAbove k m → AreAbove j m
  above-less j k [] less above = tt
  above-less j k (p ∷ m) less above = (cmp-below j p.0 (let b = below-cmp k p.0 above.0 in omega arith), above-less j k m less above.1)

  pub at-none : (m : List (ℕ × X)) (k : ℕ) → AreAbove k m → at m k ≡ None
  at-none [] k above = refl
  at-none (p ∷ m) k above = ap (λ o. cond (is_eq o) (Some p.1) (at m k)) above.0 ∙ at-none m k above.1

  pub head-above : (p : ℕ × X) (m : List (ℕ × X)) → IsAscending (p ∷ m) → AreAbove p.0 m
  unfolding IsStrictlySortedBy
  head-above p m ascends = ascends.0

  pub tail-ascends : (p : ℕ × X) (m : List (ℕ × X)) → IsAscending (p ∷ m) → IsAscending m
  unfolding IsStrictlySortedBy
  tail-ascends p m ascends = ascends.1

  pub cons-ascends : (p : ℕ × X) (m : List (ℕ × X)) → AreAbove p.0 m → IsAscending m → IsAscending (p ∷ m)
  unfolding IsStrictlySortedBy
  cons-ascends p m above ascends = (above, ascends)

  -- two maps that answer alike are the same list
  pub same_map : (a b : List (ℕ × X)) → IsAscending a → IsAscending b → ((k : ℕ) → at a k ≡ at b k) → a ≡ b
  same_map [] [] up up' same = refl
  same_map [] (q ∷ b) up up' same = none_some (same q.0 ∙ at-same b q.0 q.1)
  same_map (p ∷ a) [] up up' same = none_some (sym (same p.0) ∙ at-same a p.0 p.1)
  same_map (p ∷ a) (q ∷ b) up up' same =
      let heads : p.0 ≡ q.0 = elim (three p.0 q.0) [
        | inl below ↦ none_some (sym (at-none (q ∷ b) p.0 (cmp-below p.0 q.0 below, above-less p.0 q.0 b below (head-above q b up'))) ∙ (sym (same p.0) ∙ at-same a p.0 p.1))
        | inr rest ↦ elim rest [
          | inl equal ↦ equal
          | inr above ↦ none_some (sym (at-none (p ∷ a) q.0 (cmp-below q.0 p.0 above, above-less q.0 p.0 a above (head-above p a up))) ∙ (same q.0 ∙ at-same b q.0 q.1))
        ]
      ] in
      let values : p.1 ≡ q.1 = some_same p.1 q.1 (sym (at-same a p.0 p.1) ∙ (same p.0 ∙ (ap (at (q ∷ b)) heads ∙ at-same b q.0 q.1))) in
      let tails : (k : ℕ) → at a k ≡ at b k = λ k. elim (cases_eq k p.0) [
        | inl here ↦ ap (at a) here ∙ (at-none a p.0 (head-above p a up) ∙ (sym (at-none b q.0 (head-above q b up')) ∙ ap (at b) (sym (here ∙ heads))))
        | inr apart ↦ sym (at-apart a p.0 k p.1 apart) ∙ (same k ∙ at-apart b q.0 k q.1 (λ e. apart (e ∙ sym heads)))
      ] in
      let rest = same_map a b (tail-ascends p a up) (tail-ascends q b up') tails in
      λ i. (heads i, values i) ∷ rest i

  -- the map with a pair
  pub with-below : (m : List (ℕ × X)) (n k : ℕ) (x v : X) → k < n → with ((n, x) ∷ m) k v ≡ (k, v) ∷ (n, x) ∷ m
  with-below m n k x v below = ap (λ o. match_ordering o ((k, v) ∷ (n, x) ∷ m) ((n, v) ∷ m) ((n, x) ∷ with m k v)) (cmp-below k n below)

  pub with-here : (m : List (ℕ × X)) (n k : ℕ) (x v : X) → k ≡ n → with ((n, x) ∷ m) k v ≡ (n, v) ∷ m
  with-here m n k x v same = ap (λ o. match_ordering o ((k, v) ∷ (n, x) ∷ m) ((n, v) ∷ m) ((n, x) ∷ with m k v)) (subst (λ j. nat_cmp k j ≡ Equal) same (cmp-same k))

  pub with-above : (m : List (ℕ × X)) (n k : ℕ) (x v : X) → n < k → with ((n, x) ∷ m) k v ≡ (n, x) ∷ with m k v
  with-above m n k x v above = ap (λ o. match_ordering o ((k, v) ∷ (n, x) ∷ m) ((n, v) ∷ m) ((n, x) ∷ with m k v)) (cmp-above k n above)

  pub at-with : (m : List (ℕ × X)) (k : ℕ) (v : X) → at (with m k v) k ≡ Some v
  at-with [] k v = at-same [] k v
  at-with (p ∷ m) k v = elim (three k p.0) [
    | inl below ↦ ap (λ n. at n k) (with-below m p.0 k p.1 v below) ∙ at-same (p ∷ m) k v
    | inr rest ↦ elim rest [
      | inl same ↦ ap (λ n. at n k) (with-here m p.0 k p.1 v same) ∙ (ap (λ j. at ((j, v) ∷ m) k) (sym same) ∙ at-same m k v)
      | inr above ↦ ap (λ n. at n k) (with-above m p.0 k p.1 v above) ∙ (at-apart (with m k v) p.0 k p.1 (λ e. omega arith) ∙ at-with m k v)
    ]
  ]

  pub at-with_other : (m : List (ℕ × X)) (k j : ℕ) (v : X) → j ≢ k → at (with m k v) j ≡ at m j
  at-with_other [] k j v apart = at-apart [] k j v apart
  at-with_other (p ∷ m) k j v apart = elim (three k p.0) [
    | inl below ↦ ap (λ n. at n j) (with-below m p.0 k p.1 v below) ∙ at-apart (p ∷ m) k j v apart
    | inr rest ↦ elim rest [
      | inl same ↦ ap (λ n. at n j) (with-here m p.0 k p.1 v same) ∙ (at-apart m p.0 j v (λ e. apart (e ∙ sym same)) ∙ sym (at-apart m p.0 j p.1 (λ e. apart (e ∙ sym same))))
      | inr above ↦ ap (λ n. at n j) (with-above m p.0 k p.1 v above) ∙ ap (cond (is_eq (nat_cmp j p.0)) (Some p.1)) (at-with_other m k j v apart)
    ]
  ]

  above-with : (m : List (ℕ × X)) (j k : ℕ) (v : X) → j < k → AreAbove j m → AreAbove j (with m k v)
  above-with [] j k v less above = (cmp-below j k less, tt)
  above-with (p ∷ m) j k v less above = elim (three k p.0) [
    | inl below ↦ subst (AreAbove j) (sym (with-below m p.0 k p.1 v below)) (cmp-below j k less, above)
    | inr rest ↦ elim rest [
      | inl same ↦ subst (AreAbove j) (sym (with-here m p.0 k p.1 v same)) above
      | inr past ↦ subst (AreAbove j) (sym (with-above m p.0 k p.1 v past)) (above.0, above-with m j k v less above.1)
    ]
  ]

  pub with-ascends : (m : List (ℕ × X)) (k : ℕ) (v : X) → IsAscending m → IsAscending (with m k v)
  with-ascends [] k v up = cons-ascends (k, v) [] tt (none-ascends X)
  with-ascends (p ∷ m) k v up = elim (three k p.0) [
    | inl below ↦ subst IsAscending (sym (with-below m p.0 k p.1 v below)) (cons-ascends (k, v) (p ∷ m) (cmp-below k p.0 below, above-less k p.0 m below (head-above p m up)) up)
    | inr rest ↦ elim rest [
      | inl same ↦ subst IsAscending (sym (with-here m p.0 k p.1 v same)) (cons-ascends (p.0, v) m (head-above p m up) (tail-ascends p m up))
      | inr past ↦ subst IsAscending (sym (with-above m p.0 k p.1 v past)) (cons-ascends p (with m k v) (above-with m p.0 k v past (head-above p m up)) (with-ascends m k v (tail-ascends p m up)))
    ]
  ]

  -- the map without a number
  pub without-here : (m : List (ℕ × X)) (n k : ℕ) (x : X) → k ≡ n → without ((n, x) ∷ m) k ≡ m
  without-here m n k x same = ap (λ o. cond (is_eq o) m ((n, x) ∷ without m k)) (subst (λ j. nat_cmp k j ≡ Equal) same (cmp-same k))

  pub without-apart : (m : List (ℕ × X)) (n k : ℕ) (x : X) → k ≢ n → without ((n, x) ∷ m) k ≡ (n, x) ∷ without m k
  without-apart m n k x apart = elim (three k n) [
    | inl below ↦ ap (λ o. cond (is_eq o) m ((n, x) ∷ without m k)) (cmp-below k n below)
    | inr rest ↦ elim rest [
      | inl same ↦ absurd (apart same)
      | inr above ↦ ap (λ o. cond (is_eq o) m ((n, x) ∷ without m k)) (cmp-above k n above)
    ]
  ]

  pub at-without : (m : List (ℕ × X)) (k : ℕ) → IsAscending m → at (without m k) k ≡ None
  at-without [] k up = refl
  at-without (p ∷ m) k up = elim (cases_eq k p.0) [
    | inl same ↦ ap (λ n. at n k) (without-here m p.0 k p.1 same) ∙ (ap (at m) same ∙ at-none m p.0 (head-above p m up))
    | inr apart ↦ ap (λ n. at n k) (without-apart m p.0 k p.1 apart) ∙ (at-apart (without m k) p.0 k p.1 apart ∙ at-without m k (tail-ascends p m up))
  ]

  pub at-without_other : (m : List (ℕ × X)) (k j : ℕ) → j ≢ k → at (without m k) j ≡ at m j
  at-without_other [] k j apart = refl
  at-without_other (p ∷ m) k j apart = elim (cases_eq k p.0) [
    | inl same ↦ ap (λ n. at n j) (without-here m p.0 k p.1 same) ∙ sym (at-apart m p.0 j p.1 (λ e. apart (e ∙ sym same)))
    | inr differs ↦ ap (λ n. at n j) (without-apart m p.0 k p.1 differs) ∙ ap (cond (is_eq (nat_cmp j p.0)) (Some p.1)) (at-without_other m k j apart)
  ]

  above-without : (m : List (ℕ × X)) (j k : ℕ) → AreAbove j m → AreAbove j (without m k)
  above-without [] j k above = tt
  above-without (p ∷ m) j k above = elim (cases_eq k p.0) [
    | inl same ↦ subst (AreAbove j) (sym (without-here m p.0 k p.1 same)) above.1
    | inr apart ↦ subst (AreAbove j) (sym (without-apart m p.0 k p.1 apart)) (above.0, above-without m j k above.1)
  ]

  pub without-ascends : (m : List (ℕ × X)) (k : ℕ) → IsAscending m → IsAscending (without m k)
  without-ascends [] k up = none-ascends X
  without-ascends (p ∷ m) k up = elim (cases_eq k p.0) [
    | inl same ↦ subst IsAscending (sym (without-here m p.0 k p.1 same)) (tail-ascends p m up)
    | inr apart ↦ subst IsAscending (sym (without-apart m p.0 k p.1 apart)) (cons-ascends p (without m k) (above-without m p.0 k (head-above p m up)) (without-ascends m k (tail-ascends p m up)))
  ]

  -- a map that has this at a number, and what the old one has at the others, is the old one with this there
  pub puts_at : (old new : List (ℕ × X)) (n : ℕ) (slot : Option X) → IsAscending old → IsAscending new → at new n ≡ slot → ((j : ℕ) → j ≢ n → at new j ≡ at old j) → PutsAt old new n slot
  puts_at old new n None up up' here others = record {
    whole = same_map new (without old n) up' (without-ascends old n up) (λ k. elim (cases_eq k n) [
      | inl same ↦ ap (at new) same ∙ (here ∙ (sym (at-without old n up) ∙ ap (at (without old n)) (sym same)))
      | inr apart ↦ others k apart ∙ sym (at-without_other old n k apart)
    ]);
    here = here;
    others = others;
  }
  puts_at old new n (Some x) up up' here others = record {
    whole = same_map new (with old n x) up' (with-ascends old n x up) (λ k. elim (cases_eq k n) [
      | inl same ↦ ap (at new) same ∙ (here ∙ (sym (at-with old n x) ∙ ap (at (with old n x)) (sym same)))
      | inr apart ↦ others k apart ∙ sym (at-with_other old n k x apart)
    ]);
    here = here;
    others = others;
  }

  -- what is put and taken out again
  pub put_back : (old mid new : List (ℕ × X)) (n : ℕ) (slot : Option X) → IsAscending old → IsAscending new → PutsAt old mid n slot → PutsAt mid new n (at old n) → new ≡ old
  put_back old mid new n slot up up' there back = same_map new old up' up (λ k. elim (cases_eq k n) [
    | inl same ↦ ap (at new) same ∙ (back.here ∙ ap (at old) (sym same))
    | inr apart ↦ back.others k apart ∙ there.others k apart
  ])

  -- a number above all goes to the end
  pub with-end : (m : List (ℕ × X)) (n : ℕ) (x : X) → AllByRecursion (λ k. k < n) (keys_of m) → with m n x ≡ m ++ (n, x) ∷ []
  with-end [] n x below = refl
  with-end (p ∷ m) n x below = with-above m p.0 n p.1 x below.0 ∙ ap (λ rest. p ∷ rest) (with-end m n x below.1)

  -- the joined map answers by the index and what is found
  at-placed_same : (m : List (ℕ × X)) (n : ℕ) (o : Option X) → at m n ≡ None → at (placed n o m) n ≡ o
  at-placed_same m n None none = none
  at-placed_same m n (Some x) none = at-same m n x

  at-placed_apart : (m : List (ℕ × X)) (n k : ℕ) (o : Option X) → k ≢ n → at (placed n o m) k ≡ at m k
  at-placed_apart m n k None apart = refl
  at-placed_apart m n k (Some x) apart = at-apart m n k x apart

pub at-joined : {X : Type 0} (index : List (ℕ × ℕ)) (find_at : ℕ → Option X) (n : ℕ) → IsAscending index → at (joined index find_at) n ≡ option_and_then find_at (at index n)
at-joined [] find_at n up = refl
at-joined (p ∷ index) find_at n up = elim (cases_eq n p.0) [
  | inl same ↦
      let none = at-none index p.0 (head-above p index up) in
      let rest : at (joined index find_at) p.0 ≡ None = at-joined index find_at p.0 (tail-ascends p index up) ∙ ap (option_and_then find_at) none in
      ap (at (joined (p ∷ index) find_at)) same ∙ (at-placed_same (joined index find_at) p.0 (find_at p.1) rest ∙ sym (ap (λ k. option_and_then find_at (at (p ∷ index) k)) same ∙ ap (option_and_then find_at) (at-same index p.0 p.1)))
  | inr apart ↦
      at-placed_apart (joined index find_at) p.0 n (find_at p.1) apart ∙ (at-joined index find_at n (tail-ascends p index up) ∙ ap (option_and_then find_at) (sym (at-apart index p.0 n p.1 apart)))
]

above-placed : {X : Type 0} (m : List (ℕ × X)) (j n : ℕ) (o : Option X) → nat_cmp j n ≡ Less → AreAbove j m → AreAbove j (placed n o m)
above-placed m j n None less above = above
above-placed m j n (Some x) less above = (less, above)

above-joined : {X : Type 0} (index : List (ℕ × ℕ)) (find_at : ℕ → Option X) (j : ℕ) → AreAbove j index → AreAbove j (joined index find_at)
above-joined [] find_at j above = tt
above-joined (p ∷ index) find_at j above = above-placed (joined index find_at) j p.0 (find_at p.1) above.0 (above-joined index find_at j above.1)

placed-ascends : {X : Type 0} (m : List (ℕ × X)) (n : ℕ) (o : Option X) → AreAbove n m → IsAscending m → IsAscending (placed n o m)
placed-ascends m n None above up = up
placed-ascends m n (Some x) above up = cons-ascends (n, x) m above up

pub joined-ascends : {X : Type 0} (index : List (ℕ × ℕ)) (find_at : ℕ → Option X) → IsAscending index → IsAscending (joined index find_at)
joined-ascends {X} [] find_at up = none-ascends X
joined-ascends (p ∷ index) find_at up = placed-ascends (joined index find_at) p.0 (find_at p.1) (above-joined index find_at p.0 (head-above p index up)) (joined-ascends index find_at (tail-ascends p index up))

-- a joined map of which one number changes
pub joined-puts : {X : Type 0} (index index' : List (ℕ × ℕ)) (find_at find_at' : ℕ → Option X) (n : ℕ) (slot : Option X) → IsAscending index → IsAscending index'
    → option_and_then find_at' (at index' n) ≡ slot
    → ((j : ℕ) → j ≢ n → option_and_then find_at' (at index' j) ≡ option_and_then find_at (at index j))
    → PutsAt (joined index find_at) (joined index' find_at') n slot
joined-puts index index' find_at find_at' n slot up up' here others =
    puts_at (joined index find_at) (joined index' find_at') n slot (joined-ascends index find_at up) (joined-ascends index' find_at' up')
    (at-joined index' find_at' n up' ∙ here)
    (λ j apart. at-joined index' find_at' j up' ∙ (others j apart ∙ sym (at-joined index find_at j up)))

-- a map stays in order where one number changes
pub puts-ascends : {X : Type 0} (old new : List (ℕ × X)) (n : ℕ) (slot : Option X) → PutsAt old new n slot → IsAscending old → IsAscending new
puts-ascends old new n None puts up = subst IsAscending (sym puts.whole) (without-ascends old n up)
puts-ascends old new n (Some x) puts up = subst IsAscending (sym puts.whole) (with-ascends old n x up)

pub none-past : {X : Type 0} (m : List (ℕ × X)) (n : ℕ) → AllByRecursion (λ k. k < n) (keys_of m) → at m n ≡ None
none-past [] n below = refl
none-past (p ∷ m) n below = at-apart m p.0 n p.1 (λ e. let b = below.0 in omega arith) ∙ none-past m n below.1

pub keys-end : {X : Type 0} (m : List (ℕ × X)) (n : ℕ) (x : X) → keys_of (m ++ (n, x) ∷ []) ≡ keys_of m ++ n ∷ []
keys-end [] n x = refl
keys-end (p ∷ m) n x = ap (λ ks. p.0 ∷ ks) (keys-end m n x)

-- a number that is there keeps its place
pub keys-with : {X : Type 0} (m : List (ℕ × X)) (n : ℕ) (x : X) → IsAscending m → IsSome (at m n) → keys_of (with m n x) ≡ keys_of m
keys-with [] n x up some = absurd (cc)
keys-with (p ∷ m) n x up some = elim (three n p.0) [
  | inl below ↦ not_there (at (p ∷ m) n) (at-none (p ∷ m) n (cmp-below n p.0 below, above-less n p.0 m below (head-above p m up))) some
  | inr rest ↦ elim rest [
    | inl same ↦ ap keys_of (with-here m p.0 n p.1 x same)
    | inr above ↦ ap keys_of (with-above m p.0 n p.1 x above) ∙ ap (λ ks. p.0 ∷ ks) (keys-with m n x (tail-ascends p m up) (subst (λ o. IsSome o) (at-apart m p.0 n p.1 (λ e. omega arith)) some))
  ]
]

pub row_found : {A B : Type 0} (o : Option (A × B)) (x : A) → Some x ≡ option_map (λ p. p.0) o → (y : B) × (o ≡ Some (x, y))
row_found None x is = none_some (sym is)
row_found (Some p) x is = (p.1, λ i. Some ((sym (some_same x p.0 is)) i, p.1))

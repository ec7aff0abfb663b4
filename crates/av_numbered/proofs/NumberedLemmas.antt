-- How a table by number changes with its index, its rows and their values.
use Rattle.std.proofs.Common.{◌≡◌, ◌≢◌, ℕ, true, false, slice_get, All, IsNone, length, List, [], ◌∷◌, is_some, IsSome, IsSomeAnd, IfSome, IfNone, Option, Some, None, refl, sym, ap, subst, ◌∙◌, inl, inr}
use Rattle.std.specs.Option.{option_and_then, option_map}
use Rattle.std.proofs.lemmas.Bool.{cases_eq}
use Rattle.std.proofs.lemmas.List.{get_or_default}
use Rattle.std.specs.Map.{keys_of}
use Rattle.av_context.specs.Contexts.{at, with, without, PutsAt}
use Rattle.av_numbered.specs.Numbered.{IsAscending, SameBut, slot_at, both, held, placed, joined, IsWhole}
use Rattle.av_numbered.proofs.BoundedLemmas.{AreFound, pair, at-place, length-joined, keys-joined, place-joined}
use Rattle.av_numbered.proofs.MapLemmas.{none-ascends, puts_at, not_there, if_some, is_there, none_some, some_same, at-same, at-with, at-with_other, with-ascends, at-without, at-without_other, without-here, without-ascends, at-joined, joined-ascends, joined-puts}

module _ {R V : Type 0} where
  -- a row and its value are there together, or neither is
  abbrev AreMatched : Option R → Option V → Type 0
  AreMatched row value = is_some value ≡ is_some row

  pub row-both : (row : Option R) (value : Option V) → AreMatched row value → option_map (λ p. p.0) (both row value) ≡ row
  row-both None value same = refl
  row-both (Some r) None same = absurd (cc)
  row-both (Some r) (Some v) same = refl

  pub value-both : (row : Option R) (value : Option V) → AreMatched row value → option_map (λ p. p.1) (both row value) ≡ value
  value-both None None same = refl
  value-both None (Some v) same = absurd (cc)
  value-both (Some r) None same = absurd (cc)
  value-both (Some r) (Some v) same = refl

  pub value-there : (row : Option R) (value : Option V) → AreMatched row value → IsSome row → IsSome value
  value-there None value same some = absurd (cc)
  value-there (Some r) None same some = absurd (cc)
  value-there (Some r) (Some v) same some = refl

  both-there : (row : Option R) (value : Option V) → AreMatched row value → IsSome row → IsSome (both row value)
  both-there None value same some = absurd (cc)
  both-there (Some r) None same some = absurd (cc)
  both-there (Some r) (Some v) same some = refl

  -- where nothing is, all is as it should be
  pub nothing-whole : IsWhole {R = R} {V = V} [] [] []
  nothing-whole = record {
    ascends = none-ascends ℕ;
    there = λ n. tt;
    apart = λ m n k found. none_some found;
    matched = λ k. refl;
    named = λ k some. absurd (cc);
  }

  module _ (index : List (ℕ × ℕ)) (rows : List (Option R)) (values : List (Option V)) (w : IsWhole index rows values) where
    pub row_there : (n k : ℕ) → at index n ≡ Some k → IsSome (slot_at rows k)
    row_there n k found = subst (λ o. IfSome o (λ key. IsSome (slot_at rows key))) found (w.there n)

    pub slot_there : (n k : ℕ) → at index n ≡ Some k → IsSome (slot_at values k)
    slot_there n k found = value-there (slot_at rows k) (slot_at values k) (w.matched k) (row_there n k found)

    pub at-view : (n : ℕ) → at (joined index (held rows values)) n ≡ option_and_then (held rows values) (at index n)
    at-view n = at-joined index (held rows values) n w.ascends

    pub at-found : (n k : ℕ) → at index n ≡ Some k → at (joined index (held rows values)) n ≡ held rows values k
    at-found n k found = at-view n ∙ ap (option_and_then (held rows values)) found

    pub at-missed : (n : ℕ) → at index n ≡ None → at (joined index (held rows values)) n ≡ None
    at-missed n none = at-view n ∙ ap (option_and_then (held rows values)) none

    pub view-ascends : IsAscending (joined index (held rows values))
    view-ascends = joined-ascends index (held rows values) w.ascends

    rows_found : AreFound index (held rows values)
    rows_found n k found = both-there (slot_at rows k) (slot_at values k) (w.matched k) (row_there n k found)

    pub length-view : length (joined index (held rows values)) ≡ length index
    length-view = length-joined (held rows values) index w.ascends rows_found

    pub keys-view : keys_of (joined index (held rows values)) ≡ keys_of index
    keys-view = keys-joined (held rows values) index w.ascends rows_found

    pub place-view : (i : ℕ) → slice_get (joined index (held rows values)) i ≡ option_and_then (λ p. option_map (λ x. (p.0, x)) (held rows values p.1)) (slice_get index i)
    place-view i = place-joined (held rows values) index i w.ascends rows_found

    -- what stands at a place, in the index and in the table
    pub placed-is : (i n k : ℕ) (x : R × V) → slice_get index i ≡ Some (n, k) → held rows values k ≡ Some x → slice_get (joined index (held rows values)) i ≡ Some (n, x)
    placed-is i n k x found some = place-view i ∙ (ap (option_and_then (λ p. option_map (λ y. pair p.0 y) (held rows values p.1))) found ∙ ap (option_map (λ y. pair n y)) some)

    placed-at : (i n k : ℕ) → slice_get index i ≡ Some (n, k) → (x : R × V) × (held rows values k ≡ Some x) × (slice_get (joined index (held rows values)) i ≡ Some (n, x))
    placed-at i n k found = by_case (held rows values k) refl
      where
        by_case : (o : Option (R × V)) → held rows values k ≡ o → (x : R × V) × (held rows values k ≡ Some x) × (slice_get (joined index (held rows values)) i ≡ Some (n, x))
        by_case None none = not_there (held rows values k) none (rows_found n k (at-place index i n k w.ascends found))
        by_case (Some x) some = (x, some, placed-is i n k x found some)

    pub number-placed : (o : Option ℕ) (n : ℕ) → IfSome o (λ i. IsSomeAnd (slice_get index i) (λ p. p.0 ≡ n)) → IfSome o (λ i. IsSomeAnd (slice_get (joined index (held rows values)) i) (λ p. p.0 ≡ n))
    number-placed None n holds = tt
    number-placed (Some i) n holds = by_case (slice_get index i) refl holds
      where
        by_case : (o : Option (ℕ × ℕ)) → slice_get index i ≡ o → IsSomeAnd o (λ p. p.0 ≡ n) → IsSomeAnd (slice_get (joined index (held rows values)) i) (λ p. p.0 ≡ n)
        by_case None none holds = absurd holds
        by_case (Some p) found holds = subst (λ o. IsSomeAnd o (λ q. q.0 ≡ n)) (sym (placed-at i p.0 p.1 found).2) holds

    pub none-placed : (o : Option ℕ) (n : ℕ) → IfNone o (at index n ≡ None) → IfNone o (at (joined index (held rows values)) n ≡ None)
    none-placed None n none = at-missed n none
    none-placed (Some i) n none = tt

    pub row-place : (i : ℕ) → option_map (λ p. pair p.0 p.1.0) (slice_get (joined index (held rows values)) i) ≡ option_and_then (λ p. option_map (λ r. pair p.0 r) (slot_at rows p.1)) (slice_get index i)
    row-place i = ap (option_map (λ p. pair p.0 p.1.0)) (place-view i) ∙ by_case (slice_get index i)
      where
        by_row : (n : ℕ) (row : Option R) (value : Option V) → AreMatched row value → option_map (λ p. pair p.0 p.1.0) (option_map (λ x. pair n x) (both row value)) ≡ option_map (λ r. pair n r) row
        by_row n None value same = refl
        by_row n (Some r) None same = absurd (cc)
        by_row n (Some r) (Some v) same = refl

        by_case : (o : Option (ℕ × ℕ)) → option_map (λ p. pair p.0 p.1.0) (option_and_then (λ p. option_map (λ x. pair p.0 x) (held rows values p.1)) o) ≡ option_and_then (λ p. option_map (λ r. pair p.0 r) (slot_at rows p.1)) o
        by_case None = refl
        by_case (Some p) = by_row p.0 (slot_at rows p.1) (slot_at values p.1) (w.matched p.1)

    -- the key of a number that stands at a place
    pub key-at : (i n : ℕ) (p : ℕ × ℕ) → slice_get index i ≡ Some p → IsSomeAnd (slice_get (joined index (held rows values)) i) (λ q. q.0 ≡ n) → at index n ≡ Some p.1
    key-at i n p found stands =
        let here : p.0 ≡ n = subst (λ o. IsSomeAnd o (λ q. q.0 ≡ n)) (placed-at i p.0 p.1 found).2 stands in
        ap (at index) (sym here) ∙ at-place index i p.0 p.1 w.ascends found

    -- a number that is there has a key
    pub found-at : (n : ℕ) → IsSome (at (joined index (held rows values)) n) → IsSome (at index n)
    found-at n some = by_case (at index n) refl
      where
        by_case : (o : Option ℕ) → at index n ≡ o → IsSome (at index n)
        by_case None none = not_there (at (joined index (held rows values)) n) (at-missed n none) some
        by_case (Some k) found = is_there (at index n) k found

    pub missing-puts : (n : ℕ) → at index n ≡ None → PutsAt (joined index (held rows values)) (joined index (held rows values)) n None
    missing-puts n none = puts_at (joined index (held rows values)) (joined index (held rows values)) n None view-ascends view-ascends (at-missed n none) (λ j apart. refl)

    -- a number with nothing there is not in the index
    pub missed-at : (n : ℕ) → at (joined index (held rows values)) n ≡ None → at index n ≡ None
    missed-at n none = by_case (at index n) refl
      where
        by_case : (o : Option ℕ) → at index n ≡ o → at index n ≡ None
        by_case None found = found
        by_case (Some k) found = not_there (held rows values k) (sym (at-found n k found) ∙ none) (both-there (slot_at rows k) (slot_at values k) (w.matched k) (row_there n k found))

  same-held : (k j : ℕ) (rows rows' : List (Option R)) (values values' : List (Option V)) → SameBut k rows rows' → SameBut k values values' → j ≢ k → held rows' values' j ≡ held rows values j
  same-held k j rows rows' values values' r v apart = ap (λ o. both o (slot_at values' j)) (r j apart) ∙ ap (both (slot_at rows j)) (v j apart)

  -- where the index has each other number as before, so has the table, as long as no other number leads to the key that changes
  others-same : (index index' : List (ℕ × ℕ)) (n k : ℕ) (rows rows' : List (Option R)) (values values' : List (Option V))
      → SameBut k rows rows' → SameBut k values values'
      → ((j : ℕ) → j ≢ n → at index' j ≡ at index j)
      → ((j : ℕ) → j ≢ n → at index j ≢ Some k)
      → (j : ℕ) → j ≢ n → option_and_then (held rows' values') (at index' j) ≡ option_and_then (held rows values) (at index j)
  others-same index index' n k rows rows' values values' r v kept free j apart =
      ap (option_and_then (held rows' values')) (kept j apart) ∙ by_case (at index j) refl
    where
      by_case : (o : Option ℕ) → at index j ≡ o → option_and_then (held rows' values') o ≡ option_and_then (held rows values) o
      by_case None found = refl
      by_case (Some i) found = same-held k i rows rows' values values' r v (λ same. free j apart (found ∙ ap Some same))

  module _ (index : List (ℕ × ℕ)) (rows : List (Option R)) (values : List (Option V)) (w : IsWhole index rows values) where
    -- a row comes in under a key that was vacant
    module _ (index' : List (ℕ × ℕ)) (rows' : List (Option R)) (values' : List (Option V)) (n k : ℕ) (r : R) (v : V)
        (new : at index n ≡ None) (vacant : slot_at rows k ≡ None)
        (is : index' ≡ with index n k) (row : slot_at rows' k ≡ Some r) (value : slot_at values' k ≡ Some v)
        (kept_rows : SameBut k rows rows') (kept_values : SameBut k values values') where
      free : (j : ℕ) → j ≢ n → at index j ≢ Some k
      free j apart found = not_there (slot_at rows k) vacant (row_there index rows values w j k found)

      here : at index' n ≡ Some k
      here = ap (λ m. at m n) is ∙ at-with index n k

      others : (j : ℕ) → j ≢ n → at index' j ≡ at index j
      others j apart = ap (λ m. at m j) is ∙ at-with_other index n j k apart

      ascends : IsAscending index'
      ascends = subst IsAscending (sym is) (with-ascends index n k w.ascends)

      there : (j i : ℕ) → at index' j ≡ Some i → IsSome (slot_at rows' i)
      there j i found = elim (cases_eq i k) [
        | inl same ↦ is_there (slot_at rows' i) r (ap (slot_at rows') same ∙ row)
        | inr apart ↦ subst (λ o. IsSome o) (sym (kept_rows i apart)) (elim (cases_eq j n) [
          | inl same ↦ absurd (apart (some_same i k (sym found ∙ (ap (at index') same ∙ here))))
          | inr differs ↦ row_there index rows values w j i (sym (others j differs) ∙ found)
        ])
      ]

      at_n : (j : ℕ) → at index' j ≡ Some k → j ≡ n
      at_n j found = elim (cases_eq j n) [ inl same ↦ same | inr differs ↦ absurd (free j differs (sym (others j differs) ∙ found)) ]

      pub inserted-whole : IsWhole index' rows' values'
      inserted-whole = record {
        ascends = ascends;
        there = λ j. if_some (λ i. IsSome (slot_at rows' i)) (at index' j) (λ i found. there j i found);
        apart = λ i j key left right. elim (cases_eq key k) [
          | inl same ↦ at_n i (left ∙ ap Some same) ∙ sym (at_n j (right ∙ ap Some same))
          | inr differs ↦ w.apart i j key (sym (others i (λ e. differs (some_same key k (sym left ∙ (ap (at index') e ∙ here))))) ∙ left) (sym (others j (λ e. differs (some_same key k (sym right ∙ (ap (at index') e ∙ here))))) ∙ right)
        ];
        matched = λ i. elim (cases_eq i k) [
          | inl same ↦ ap (λ j. is_some (slot_at values' j)) same ∙ (ap is_some value ∙ sym (ap (λ j. is_some (slot_at rows' j)) same ∙ ap is_some row))
          | inr differs ↦ ap is_some (kept_values i differs) ∙ (w.matched i ∙ sym (ap is_some (kept_rows i differs)))
        ];
        named = λ i some. elim (cases_eq i k) [
          | inl same ↦ (n, here ∙ ap Some (sym same))
          | inr differs ↦
              let old = w.named i (subst (λ o. IsSome o) (kept_rows i differs) some) in
              (old.0, others old.0 (λ e. none_some (sym new ∙ (ap (at index) (sym e) ∙ old.1))) ∙ old.1)
        ];
      }

      pub inserted-puts : PutsAt (joined index (held rows values)) (joined index' (held rows' values')) n (Some (r, v))
      inserted-puts =
          joined-puts index index' (held rows values) (held rows' values') n (Some (r, v)) w.ascends ascends
          (ap (option_and_then (held rows' values')) here ∙ (ap (λ o. both o (slot_at values' k)) row ∙ ap (both (Some r)) value))
          (others-same index index' n k rows rows' values values' kept_rows kept_values others free)

    -- a row goes out
    module _ (index' : List (ℕ × ℕ)) (rows' : List (Option R)) (values' : List (Option V)) (n k : ℕ)
        (found : at index n ≡ Some k)
        (is : index' ≡ without index n) (row : slot_at rows' k ≡ None) (value : slot_at values' k ≡ None)
        (kept_rows : SameBut k rows rows') (kept_values : SameBut k values values') where
      gone : at index' n ≡ None
      gone = ap (λ m. at m n) is ∙ at-without index n w.ascends

      left : (j : ℕ) → j ≢ n → at index' j ≡ at index j
      left j apart = ap (λ m. at m j) is ∙ at-without_other index n j apart

      ascend : IsAscending index'
      ascend = subst IsAscending (sym is) (without-ascends index n w.ascends)

      -- what the index still has is another number, which led elsewhere
      other : (j i : ℕ) → at index' j ≡ Some i → (j ≢ n) × (i ≢ k)
      other j i at_j =
          let apart : j ≢ n = λ e. none_some (sym gone ∙ (ap (at index') (sym e) ∙ at_j)) in
          (apart, λ e. apart (w.apart j n k (sym (left j apart) ∙ (at_j ∙ ap Some e)) found))

      pub removed-whole : IsWhole index' rows' values'
      removed-whole = record {
        ascends = ascend;
        there = λ j. if_some (λ i. IsSome (slot_at rows' i)) (at index' j) (λ i at_j.
            let o = other j i at_j in
            subst (λ x. IsSome x) (sym (kept_rows i o.1)) (row_there index rows values w j i (sym (left j o.0) ∙ at_j)));
        apart = λ i j key at_i at_j. w.apart i j key (sym (left i (other i key at_i).0) ∙ at_i) (sym (left j (other j key at_j).0) ∙ at_j);
        matched = λ i. elim (cases_eq i k) [
          | inl same ↦ ap (λ j. is_some (slot_at values' j)) same ∙ (ap is_some value ∙ sym (ap (λ j. is_some (slot_at rows' j)) same ∙ ap is_some row))
          | inr differs ↦ ap is_some (kept_values i differs) ∙ (w.matched i ∙ sym (ap is_some (kept_rows i differs)))
        ];
        named = λ i some. elim (cases_eq i k) [
          | inl same ↦ not_there (slot_at rows' i) (ap (slot_at rows') same ∙ row) some
          | inr differs ↦
              let old = w.named i (subst (λ o. IsSome o) (kept_rows i differs) some) in
              (old.0, left old.0 (λ e. differs (some_same i k (sym old.1 ∙ (ap (at index) e ∙ found)))) ∙ old.1)
        ];
      }

      pub removed-puts : PutsAt (joined index (held rows values)) (joined index' (held rows' values')) n None
      removed-puts =
          joined-puts index index' (held rows values) (held rows' values') n None w.ascends ascend
          (ap (option_and_then (held rows' values')) gone)
          (others-same index index' n k rows rows' values values' kept_rows kept_values left (λ j apart at_j. apart (w.apart j n k at_j found)))

    -- a row and its value change in place
    module _ (rows' : List (Option R)) (values' : List (Option V)) (n k : ℕ) (r : R) (v : V)
        (found : at index n ≡ Some k)
        (row : slot_at rows' k ≡ Some r) (value : slot_at values' k ≡ Some v)
        (kept_rows : SameBut k rows rows') (kept_values : SameBut k values values') where
      pub changed-whole : IsWhole index rows' values'
      changed-whole = record {
        ascends = w.ascends;
        there = λ j. if_some (λ i. IsSome (slot_at rows' i)) (at index j) (λ i at_j. elim (cases_eq i k) [
          | inl same ↦ is_there (slot_at rows' i) r (ap (slot_at rows') same ∙ row)
          | inr differs ↦ subst (λ x. IsSome x) (sym (kept_rows i differs)) (row_there index rows values w j i at_j)
        ]);
        apart = w.apart;
        matched = λ i. elim (cases_eq i k) [
          | inl same ↦ ap (λ j. is_some (slot_at values' j)) same ∙ (ap is_some value ∙ sym (ap (λ j. is_some (slot_at rows' j)) same ∙ ap is_some row))
          | inr differs ↦ ap is_some (kept_values i differs) ∙ (w.matched i ∙ sym (ap is_some (kept_rows i differs)))
        ];
        named = λ i some. elim (cases_eq i k) [
          | inl same ↦ (n, found ∙ ap Some (sym same))
          | inr differs ↦ w.named i (subst (λ o. IsSome o) (kept_rows i differs) some)
        ];
      }

      pub changed-puts : PutsAt (joined index (held rows values)) (joined index (held rows' values')) n (Some (r, v))
      changed-puts =
          joined-puts index index (held rows values) (held rows' values') n (Some (r, v)) w.ascends w.ascends
          (ap (option_and_then (held rows' values')) found ∙ (ap (λ o. both o (slot_at values' k)) row ∙ ap (both (Some r)) value))
          (others-same index index n k rows rows' values values' kept_rows kept_values (λ j apart. refl) (λ j apart at_j. apart (w.apart j n k at_j found)))

    -- a row changes and its value stays
    module _ (rows' : List (Option R)) (n k : ℕ) (r : R)
        (found : at index n ≡ Some k)
        (row : slot_at rows' k ≡ Some r) (kept_rows : SameBut k rows rows') where
      pub set-whole : IsWhole index rows' values
      set-whole = by_value (slot_at values k) refl
        where
          by_value : (o : Option V) → slot_at values k ≡ o → IsWhole index rows' values
          by_value None none = not_there (slot_at values k) none (slot_there index rows values w n k found)
          by_value (Some v) some = changed-whole rows' values n k r v found row some kept_rows (λ j apart. refl)

      pub set-puts : PutsAt (joined index (held rows values)) (joined index (held rows' values)) n (option_map (λ p. (r, p.1)) (at (joined index (held rows values)) n))
      set-puts = by_value (slot_at rows k) refl (slot_at values k) refl
        where
          by_value : (a : Option R) → slot_at rows k ≡ a → (o : Option V) → slot_at values k ≡ o → PutsAt (joined index (held rows values)) (joined index (held rows' values)) n (option_map (λ p. (r, p.1)) (at (joined index (held rows values)) n))
          by_value None gone o value = not_there (slot_at rows k) gone (row_there index rows values w n k found)
          by_value (Some a) there None none = not_there (slot_at values k) none (slot_there index rows values w n k found)
          by_value (Some a) there (Some v) some =
              let old : at (joined index (held rows values)) n ≡ Some (a, v) = at-found index rows values w n k found ∙ (ap (λ x. both x (slot_at values k)) there ∙ ap (both (Some a)) some) in
              subst (λ slot. PutsAt (joined index (held rows values)) (joined index (held rows' values)) n slot) (sym (ap (option_map (λ p. (r, p.1))) old))
              (changed-puts rows' values n k r v found row some kept_rows (λ j apart. refl))

    -- the first row goes out
    pub first-out : (n k : ℕ) (y : R × V) (m m' : List (ℕ × (R × V))) → joined index (held rows values) ≡ m → slice_get index 0 ≡ Some (n, k) → Some y ≡ at m n → PutsAt m m' n None → m ≡ (n, y) ∷ m'
    first-out n k y m m' is first found puts = by_index index first (sym (at-first k first)) is
      where
        at-first : (k : ℕ) → slice_get index 0 ≡ Some (n, k) → held rows values k ≡ Some y
        at-first k first = sym (at-found index rows values w n k (at-head index first)) ∙ (ap (λ l. at l n) is ∙ sym found)
          where
            at-head : (i : List (ℕ × ℕ)) → slice_get i 0 ≡ Some (n, k) → at i n ≡ Some k
            at-head [] first = none_some first
            at-head (p ∷ i) first = let here : p ≡ (n, k) = some_same p (n, k) first in ap (λ j. at (p ∷ i) j) (sym (ap (λ x. x.0) here)) ∙ (at-same i p.0 p.1 ∙ ap (λ x. Some x.1) here)

        by_index : (i : List (ℕ × ℕ)) → slice_get i 0 ≡ Some (n, k) → Some y ≡ held rows values k → joined i (held rows values) ≡ m → m ≡ (n, y) ∷ m'
        by_index [] first some is = none_some first
        by_index (p ∷ i) first some is =
            let here : p ≡ (n, k) = some_same p (n, k) first in
            let rest = joined i (held rows values) in
            let whole : m ≡ (n, y) ∷ rest = sym is ∙ (ap (λ x. placed x.0 (held rows values x.1) rest) here ∙ ap (λ o. placed n o rest) (sym some)) in
            whole ∙ ap (λ l. (n, y) ∷ l) (sym (puts.whole ∙ (ap (λ l. without l n) whole ∙ without-here rest n n y refl)))

    -- where there is no row no slot has a value
    pub none-held : joined index (held rows values) ≡ [] → (k : ℕ) → slot_at values k ≡ None
    none-held empty k = by_value (slot_at values k) refl
      where
        by_row : (r : Option R) → slot_at rows k ≡ r → is_some (slot_at values k) ≡ true → slot_at values k ≡ None
        by_row None none some = let m = w.matched k in absurd (no_true (sym some ∙ (m ∙ ap is_some none)))
          where
            no_true : true ≡ false → ⊥
            no_true e = absurd (cc)
        by_row (Some r) there some =
            let n = w.named k (is_there (slot_at rows k) r there) in
            not_there (held rows values k) (sym (at-found index rows values w n.0 k n.1) ∙ ap (λ l. at l n.0) empty) (both-there (slot_at rows k) (slot_at values k) (w.matched k) (is_there (slot_at rows k) r there))

        by_value : (o : Option V) → slot_at values k ≡ o → slot_at values k ≡ None
        by_value None none = none
        by_value (Some v) some = by_row (slot_at rows k) refl (is_there (slot_at values k) v some)

    -- a row and its value change, the value as it may be changed
    module _ (rows' : List (Option R)) (values' : List (Option V)) (n k : ℕ) (r : R) (Q : V → V → Type 0)
        (found : at index n ≡ Some k)
        (row : slot_at rows' k ≡ Some r) (value : IfSome (slot_at values k) (λ v. IsSomeAnd (slot_at values' k) (λ u. Q v u)))
        (kept_rows : SameBut k rows rows') (kept_values : SameBut k values values') where
      exchanged-value : (v : V) × (u : V) × (slot_at values k ≡ Some v) × (slot_at values' k ≡ Some u) × Q v u
      exchanged-value = by_value (slot_at values k) refl (slot_at values' k) refl value
        where
          by_value : (o : Option V) → slot_at values k ≡ o → (o' : Option V) → slot_at values' k ≡ o' → IfSome o (λ v. IsSomeAnd o' (λ u. Q v u)) → (v : V) × (u : V) × (slot_at values k ≡ Some v) × (slot_at values' k ≡ Some u) × Q v u
          by_value None none o' is' holds = not_there (slot_at values k) none (slot_there index rows values w n k found)
          by_value (Some v) some None none holds = absurd holds
          by_value (Some v) some (Some u) some' holds = (v, u, some, some', holds)

      pub exchanged-whole : IsWhole index rows' values'
      exchanged-whole = let x = exchanged-value in changed-whole rows' values' n k r x.1 found row x.3 kept_rows kept_values

      pub exchanged-puts : (m : List (ℕ × (R × V))) → joined index (held rows values) ≡ m
          → IfSome (at m n) (λ p. IsSomeAnd (at (joined index (held rows' values')) n) (λ q. Q p.1 q.1 × PutsAt m (joined index (held rows' values')) n (Some (r, q.1))))
      exchanged-puts m is = if_some (λ p. IsSomeAnd (at (joined index (held rows' values')) n) (λ q. Q p.1 q.1 × PutsAt m (joined index (held rows' values')) n (Some (r, q.1)))) (at m n) (λ p at_n. by_row p at_n (slot_at rows k) refl)
        where
          by_row : (p : R × V) → at m n ≡ Some p → (o : Option R) → slot_at rows k ≡ o → IsSomeAnd (at (joined index (held rows' values')) n) (λ q. Q p.1 q.1 × PutsAt m (joined index (held rows' values')) n (Some (r, q.1)))
          by_row p at_n None none = not_there (slot_at rows k) none (row_there index rows values w n k found)
          by_row p at_n (Some a) some =
              let x = exchanged-value in
              let puts = changed-puts rows' values' n k r x.1 found row x.3 kept_rows kept_values in
              let old : at m n ≡ Some (a, x.0) = ap (λ l. at l n) (sym is) ∙ (at-found index rows values w n k found ∙ (ap (λ o. both o (slot_at values k)) some ∙ ap (both (Some a)) x.2)) in
              let same : x.0 ≡ p.1 = ap (λ y. y.1) (some_same (a, x.0) p (sym old ∙ at_n)) in
              subst (λ o. IsSomeAnd o (λ q. Q p.1 q.1 × PutsAt m (joined index (held rows' values')) n (Some (r, q.1)))) (sym puts.here)
              (subst (λ v. Q v x.1) same x.4, subst (λ l. PutsAt l (joined index (held rows' values')) n (Some (r, x.1))) is puts)

  -- what holds of the value beside a row
  pub value-if : (P : V → Type 0) (o : Option (R × V)) (row : Option R) (value : Option V) → o ≡ both row value → IsSome row → IfSome o (λ p. P p.1) → IfSome value P
  value-if P o None value is some holds = absurd (cc)
  value-if P o (Some r) None is some holds = tt
  value-if P o (Some r) (Some v) is some holds = subst (λ x. IfSome x (λ p. P p.1)) is holds

-- slots of which each is empty
pub all-empty : {V : Type 0} (values : List (Option V)) → ((k : ℕ) → slot_at values k ≡ None) → All (λ slot. IsNone slot) values
all-empty {V} values none k d inside = subst (λ o. IsNone o) (sym (get_or_default values k d None inside ∙ none k)) refl

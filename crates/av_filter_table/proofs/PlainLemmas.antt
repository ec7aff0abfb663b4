-- What the steps of "ask again" leave of the lists that they go through.
use Rattle.std.proofs.Common.{◌≡◌, ◌≢◌, ℕ, ◌+◌, ◌==◌, ◌&&◌, Bool, true, false, not, List, [], ◌∷◌, ◌++◌, length, Option, Some, None, IsSome, cond, map, filter, refl, sym, ap, subst, ◌∙◌, arith}
use Rattle.std.specs.Option.{option_map}
use Rattle.std.specs.BTreeMap.{is_at}
use Rattle.std.specs.Ordering.{nat_cmp}
use Rattle.std.proofs.lemmas.Map.Made.{lookup-map_values}
use Rattle.av_context.specs.Contexts.{at}
use Rattle.av_filter_table.specs.declared.asked.Asked.{Asked}
use Rattle.av_filter_table.specs.Chains.{Questions, essence, essences, of, is_spent, once_more, first_waiting, without_first, moved_first, after_first, IsBehind}
use Rattle.av_filter_table.specs.Moving.{is_over, overs, moved, moved_all}
use Rattle.av_filter_table.proofs.ChainLemmas.{apart-test}
use Rattle.av_numbered.proofs.MapLemmas.{none_some, some_same}
use Rattle.av_pend.specs.Waiting.{Waiting}

-- a question is there as long as its content is
pub there-kept : (q q' : Questions) (n : ℕ) → essences q' ≡ essences q → IsSome (at q n) → IsSome (at q' n)
there-kept q q' n same some =
    by_case (at q' n) (subst (λ o. IsSome o) (sym (lookup-map_values essence (is_at (nat_cmp n)) q) ∙ (ap (λ es. at es n) (sym same) ∙ lookup-map_values essence (is_at (nat_cmp n)) q')) (mapped (at q n) some))
  where
    mapped : (o : Option (Asked × ℕ)) → IsSome o → IsSome (option_map essence o)
    mapped None none = absurd (cc)
    mapped (Some x) some = refl

    by_case : (o : Option (Asked × ℕ)) → IsSome (option_map essence o) → IsSome o
    by_case None none = absurd (cc)
    by_case (Some x) some = refl

-- the first of a list's opens of a question
pub first-of : (n : ℕ) (xs ys : List (ℕ × Waiting)) (x : ℕ × Waiting) → of n xs ≡ x ∷ ys → first_waiting n xs ≡ Some x
first-of n [] ys x is = absurd (cc)
first-of n (y ∷ xs) ys x is = go (y.0 == n) refl (first-of n xs ys x)
  where
    go : (b : Bool) → (y.0 == n) ≡ b → (of n xs ≡ x ∷ ys → first_waiting n xs ≡ Some x) → first_waiting n (y ∷ xs) ≡ Some x
    go true h rest = rw (h) (ap first_in (sym (ap (λ b. cond b (y ∷ of n xs) (of n xs)) h) ∙ is))
      where
        first_in : List (ℕ × Waiting) → Option (ℕ × Waiting)
        first_in [] = None
        first_in (z ∷ zs) = Some z
    go false h rest = rw (h) (rest (sym (ap (λ b. cond b (y ∷ of n xs) (of n xs)) h) ∙ is))

none-after : (n m : ℕ) (xs : List (ℕ × Waiting)) → of n xs ≡ [] → of n (after_first m xs) ≡ []
none-after n m [] none = refl
none-after n m (x ∷ xs) none = go (x.0 == n) refl (none-after n m xs)
  where
    no_cons : (ys : List (ℕ × Waiting)) → x ∷ ys ≡ [] → ⊥
    no_cons ys e = absurd (cc)

    go : (b : Bool) → (x.0 == n) ≡ b → (of n xs ≡ [] → of n (after_first m xs) ≡ []) → of n (after_first m (x ∷ xs)) ≡ []
    go true h rest = absurd (no_cons (of n xs) (sym (ap (λ b. cond b (x ∷ of n xs) (of n xs)) h) ∙ none))
    go false h rest =
        let tail : of n xs ≡ [] = sym (ap (λ b. cond b (x ∷ of n xs) (of n xs)) h) ∙ none in
        by_old (x.0 == m) tail (rest tail)
      where
        by_old : (b : Bool) → of n xs ≡ [] → of n (after_first m xs) ≡ [] → of n (cond b xs (after_first m xs)) ≡ []
        by_old true a b = a
        by_old false a b = b

pub fresh-behind : (old new : ℕ) (xs : List (ℕ × Waiting)) → of new xs ≡ [] → IsBehind old new xs
fresh-behind old new xs none = none-after new old xs none

-- an open of another question stays
pub others-cons : (old new : ℕ) (y : ℕ × Waiting) (xs : List (ℕ × Waiting)) → (y.0 == old) ≡ false → moved_all old new (y ∷ xs) ≡ y ∷ moved_all old new xs
others-cons old new y xs h = rw (h, h) refl

-- one of this question with a rescan left moves
held-cons : (old new : ℕ) (y : ℕ × Waiting) (xs : List (ℕ × Waiting)) → (y.0 == old) ≡ true → is_spent y ≡ false → moved_all old new (y ∷ xs) ≡ (new, once_more y.1) ∷ moved_all old new xs
held-cons old new y xs h left =
    ap (λ b. map (moved old new) (cond (not (b && is_spent y)) (y ∷ filter (λ x. not (is_over old x)) xs) (filter (λ x. not (is_over old x)) xs))) h
    ∙ (ap (λ b. map (moved old new) (cond (not b) (y ∷ filter (λ x. not (is_over old x)) xs) (filter (λ x. not (is_over old x)) xs))) left
    ∙ ap (λ b. cond b (new, once_more y.1) y ∷ moved_all old new xs) h)

-- the first open of `old` goes out, all its rescans seen
pub record Outs (old new : ℕ) (x : ℕ × Waiting) (xs xs' : List (ℕ × Waiting)) : Type 0 where
  pub all : moved_all old new xs' ≡ moved_all old new xs
  pub over : overs old xs ≡ x ∷ overs old xs'
  pub behind : IsBehind old new xs'

pub outs : (old new : ℕ) (x : ℕ × Waiting) (xs : List (ℕ × Waiting)) → first_waiting old xs ≡ Some x → is_spent x ≡ true → IsBehind old new xs → Outs old new x xs (without_first old xs)
outs old new x [] first spent behind = none_some first
outs old new x (y ∷ xs) first spent behind = go (y.0 == old) refl (outs old new x xs)
  where
    go : (b : Bool) → (y.0 == old) ≡ b → (first_waiting old xs ≡ Some x → is_spent x ≡ true → IsBehind old new xs → Outs old new x xs (without_first old xs)) → Outs old new x (y ∷ xs) (without_first old (y ∷ xs))
    go true h rest =
        let is : y ≡ x = some_same y x (sym (ap (λ b. cond b (Some y) (first_waiting old xs)) h) ∙ first) in
        let over : is_spent y ≡ true = ap is_spent is ∙ spent in
        record {
          all = rw (h, over) refl;
          over = rw (h, over) (ap (λ z. z ∷ overs old xs) is);
          behind = subst (λ b. IsBehind old new (cond b xs (y ∷ without_first old xs))) (sym h) (none-after new old xs (sym (ap (λ b. of new (cond b xs (after_first old xs))) h) ∙ behind));
        }
    go false h rest =
        let tail = rest (sym (ap (λ b. cond b (Some y) (first_waiting old xs)) h) ∙ first) spent (sym (ap (λ b. of new (cond b xs (after_first old xs))) h) ∙ behind) in
        record {
          all = ap (λ b. moved_all old new (cond b xs (y ∷ without_first old xs))) h ∙ (others-cons old new y (without_first old xs) h ∙ (ap (λ zs. y ∷ zs) tail.all ∙ sym (others-cons old new y xs h)));
          over = rw (h) (rw (h) tail.over);
          behind = rw (h) (rw (h) tail.behind);
        }

-- the first open of `old` moves
pub record Ins (old new : ℕ) (xs xs' : List (ℕ × Waiting)) : Type 0 where
  pub all : moved_all old new xs' ≡ moved_all old new xs
  pub over : overs old xs' ≡ overs old xs
  pub behind : IsBehind old new xs'
  pub fewer : length (of old xs) ≡ length (of old xs') + 1

pub ins : (old new : ℕ) (x : ℕ × Waiting) (xs : List (ℕ × Waiting)) → old ≢ new → first_waiting old xs ≡ Some x → is_spent x ≡ false → IsBehind old new xs → Ins old new xs (moved_first old new xs)
ins old new x [] differ first spent behind = none_some first
ins old new x (y ∷ xs) differ first spent behind = go (y.0 == old) refl (ins old new x xs differ)
  where
    other : (new == old) ≡ false
    other = apart-test new old (λ e. differ (sym e))

    go : (b : Bool) → (y.0 == old) ≡ b → (first_waiting old xs ≡ Some x → is_spent x ≡ false → IsBehind old new xs → Ins old new xs (moved_first old new xs)) → Ins old new (y ∷ xs) (moved_first old new (y ∷ xs))
    go true h rest =
        let is : y ≡ x = some_same y x (sym (ap (λ b. cond b (Some y) (first_waiting old xs)) h) ∙ first) in
        let left : is_spent y ≡ false = ap is_spent is ∙ spent in
        record {
          all = ap (λ b. moved_all old new (cond b ((new, once_more y.1) ∷ xs) (y ∷ moved_first old new xs))) h ∙ (others-cons old new (new, once_more y.1) xs other ∙ sym (held-cons old new y xs h left));
          over = rw (h, left, other) refl;
          behind = rw (h, other) (none-after new old xs (sym (ap (λ b. of new (cond b xs (after_first old xs))) h) ∙ behind));
          fewer = rw (h, other) (omega arith);
        }
    go false h rest =
        let tail = rest (sym (ap (λ b. cond b (Some y) (first_waiting old xs)) h) ∙ first) spent (sym (ap (λ b. of new (cond b xs (after_first old xs))) h) ∙ behind) in
        record {
          all = ap (λ b. moved_all old new (cond b ((new, once_more y.1) ∷ xs) (y ∷ moved_first old new xs))) h ∙ (others-cons old new y (moved_first old new xs) h ∙ (ap (λ zs. y ∷ zs) tail.all ∙ sym (others-cons old new y xs h)));
          over = rw (h) (rw (h) tail.over);
          behind = rw (h) (rw (h) tail.behind);
          fewer = rw (h) (rw (h) tail.fewer);
        }

-- where none is left all have moved
pub all-moved : (old new : ℕ) (xs : List (ℕ × Waiting)) → first_waiting old xs ≡ None → moved_all old new xs ≡ xs
all-moved old new [] none = refl
all-moved old new (y ∷ xs) none = go (y.0 == old) refl (all-moved old new xs)
  where
    go : (b : Bool) → (y.0 == old) ≡ b → (first_waiting old xs ≡ None → moved_all old new xs ≡ xs) → moved_all old new (y ∷ xs) ≡ y ∷ xs
    go true h rest = none_some (sym none ∙ ap (λ b. cond b (Some y) (first_waiting old xs)) h)
    go false h rest = rw (h, h) (ap (λ zs. y ∷ zs) (rest (sym (ap (λ b. cond b (Some y) (first_waiting old xs)) h) ∙ none)))

pub none-over : (old : ℕ) (xs : List (ℕ × Waiting)) → first_waiting old xs ≡ None → overs old xs ≡ []
none-over old [] none = refl
none-over old (y ∷ xs) none = go (y.0 == old) refl (none-over old xs)
  where
    go : (b : Bool) → (y.0 == old) ≡ b → (first_waiting old xs ≡ None → overs old xs ≡ []) → overs old (y ∷ xs) ≡ []
    go true h rest = none_some (sym none ∙ ap (λ b. cond b (Some y) (first_waiting old xs)) h)
    go false h rest = rw (h) (rest (sym (ap (λ b. cond b (Some y) (first_waiting old xs)) h) ∙ none))

-- a value that was told by a test
pub told_some : (f : ℕ × Waiting → Bool) (o : Option (ℕ × Waiting)) (b : Bool) → Some b ≡ option_map f o → (x : ℕ × Waiting) × (o ≡ Some x) × (f x ≡ b)
told_some f None b is = none_some (sym is)
told_some f (Some x) b is = (x, refl, sym (some_same b (f x) is))

pub told_none : (f : ℕ × Waiting → Bool) (o : Option (ℕ × Waiting)) → None ≡ option_map f o → o ≡ None
told_none f None is = refl
told_none f (Some x) is = none_some is

pub push-front : {A : Type 0} (ys : List A) (x : A) (zs : List A) → (ys ++ x ∷ []) ++ zs ≡ ys ++ (x ∷ zs)
push-front [] x zs = refl
push-front (y ∷ ys) x zs = ap (λ l. y ∷ l) (push-front ys x zs)

pub some-of : (n : ℕ) (xs : List (ℕ × Waiting)) (x : ℕ × Waiting) → of n xs ≡ [] → first_waiting n xs ≡ Some x → ⊥
some-of n [] x none first = none_some first
some-of n (y ∷ xs) x none first = go (y.0 == n) refl (some-of n xs x)
  where
    no_cons : (ys : List (ℕ × Waiting)) → y ∷ ys ≡ [] → ⊥
    no_cons ys e = absurd (cc)

    go : (b : Bool) → (y.0 == n) ≡ b → (of n xs ≡ [] → first_waiting n xs ≡ Some x → ⊥) → ⊥
    go true h rest = no_cons (of n xs) (sym (ap (λ b. cond b (y ∷ of n xs) (of n xs)) h) ∙ none)
    go false h rest = rest (sym (ap (λ b. cond b (y ∷ of n xs) (of n xs)) h) ∙ none) (sym (ap (λ b. cond b (Some y) (first_waiting n xs)) h) ∙ first)

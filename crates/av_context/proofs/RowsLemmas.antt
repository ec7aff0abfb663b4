-- A slab's slots as a finite map: the pairs of its keys and values, by rising key.
use Rattle.std.proofs.Common.{◌≡◌, ◌≢◌, ℕ, zero, suc, ◌+◌, ◌<◌, List, [], ◌∷◌, get_or, Option, Some, None, IsSome, cond, refl, sym, ap, ◌∙◌, add-zero, zero-add, arith}
use Rattle.std.specs.List.{AllByRecursion}
use Rattle.std.specs.List.Sorted.{IsStrictlySortedBy}
use Rattle.std.specs.Map.{keys_of}
use Rattle.std.specs.Ordering.{nat_cmp, match_ordering, is_eq}
use Rattle.std.specs.declared.cmp.Ordering.TheVariants.{Less, Equal, Greater}
use Rattle.std.proofs.lemmas.Bool.Decides.{nat_tests}
use Rattle.slab.specs.Slab.{Slab, get, Updates, entries_from, entries}
use Rattle.av_context.specs.Contexts.{at, with, without, set_at, PutsAt}

pub cmp-same : (k : ℕ) → nat_cmp k k ≡ Equal
cmp-same k = grind (arith, nat_tests)

pub cmp-below : (k n : ℕ) → k < n → nat_cmp k n ≡ Less
cmp-below k n below = grind (arith, nat_tests)

pub cmp-above : (k n : ℕ) → n < k → nat_cmp k n ≡ Greater
cmp-above k n above = grind (arith, nat_tests)

module _ {T : Type 0} where
  -- how one pair stands to a key
  at-skip : (m : List (ℕ × T)) (n k : ℕ) (x : T) → n < k → at ((n, x) ∷ m) k ≡ at m k
  at-skip m n k x above = ap (λ o. cond (is_eq o) (Some x) (at m k)) (cmp-above k n above)

  at-same : (m : List (ℕ × T)) (k : ℕ) (x : T) → at ((k, x) ∷ m) k ≡ Some x
  at-same m k x = ap (λ o. cond (is_eq o) (Some x) (at m k)) (cmp-same k)

  with-skip : (m : List (ℕ × T)) (n k : ℕ) (x v : T) → n < k → with ((n, x) ∷ m) k v ≡ (n, x) ∷ with m k v
  with-skip m n k x v above = ap (λ o. match_ordering o ((k, v) ∷ (n, x) ∷ m) ((n, v) ∷ m) ((n, x) ∷ with m k v)) (cmp-above k n above)

  with-same : (m : List (ℕ × T)) (k : ℕ) (x v : T) → with ((k, x) ∷ m) k v ≡ (k, v) ∷ m
  with-same m k x v = ap (λ o. match_ordering o ((k, v) ∷ (k, x) ∷ m) ((k, v) ∷ m) ((k, x) ∷ with m k v)) (cmp-same k)

  with-front : (m : List (ℕ × T)) (n k : ℕ) (x v : T) → k < n → with ((n, x) ∷ m) k v ≡ (k, v) ∷ (n, x) ∷ m
  with-front m n k x v below = ap (λ o. match_ordering o ((k, v) ∷ (n, x) ∷ m) ((n, v) ∷ m) ((n, x) ∷ with m k v)) (cmp-below k n below)

  without-skip : (m : List (ℕ × T)) (n k : ℕ) (x : T) → n < k → without ((n, x) ∷ m) k ≡ (n, x) ∷ without m k
  without-skip m n k x above = ap (λ o. cond (is_eq o) m ((n, x) ∷ without m k)) (cmp-above k n above)

  without-same : (m : List (ℕ × T)) (k : ℕ) (x : T) → without ((k, x) ∷ m) k ≡ m
  without-same m k x = ap (λ o. cond (is_eq o) m ((k, x) ∷ without m k)) (cmp-same k)

  -- slots from a key on have nothing at a key below
  at-below : (first k : ℕ) (slots : List (Option T)) → k < first → at (entries_from first slots) k ≡ None
  at-below first k [] below = refl
  at-below first k (None ∷ rest) below = at-below (first + 1) k rest (omega arith)
  at-below first k (Some x ∷ rest) below =
      ap (λ o. cond (is_eq o) (Some x) (at (entries_from (first + 1) rest) k)) (cmp-below k first below) ∙ at-below (first + 1) k rest (omega arith)

  with-below : (first k : ℕ) (slots : List (Option T)) (v : T) → k < first → with (entries_from first slots) k v ≡ (k, v) ∷ entries_from first slots
  with-below first k [] v below = refl
  with-below first k (None ∷ rest) v below = with-below (first + 1) k rest v (omega arith)
  with-below first k (Some x ∷ rest) v below = with-front (entries_from (first + 1) rest) first k x v below

  -- the map finds what the slots hold
  at-from : (first : ℕ) (slots : List (Option T)) (key : ℕ) → at (entries_from first slots) (first + key) ≡ get_or slots key None
  at-from first [] key = refl
  at-from first (None ∷ rest) zero = at-below (first + 1) (first + 0) rest (omega arith)
  at-from first (Some x ∷ rest) zero = ap (at (entries_from first (Some x ∷ rest))) (add-zero first) ∙ at-same (entries_from (first + 1) rest) first x
  at-from first (None ∷ rest) (suc key) =
      let shift : first + suc key ≡ first + 1 + key = omega arith in
      ap (at (entries_from (first + 1) rest)) shift ∙ at-from (first + 1) rest key
  at-from first (Some x ∷ rest) (suc key) =
      let shift : first + suc key ≡ first + 1 + key = omega arith in
      at-skip (entries_from (first + 1) rest) first (first + suc key) x (omega arith)
      ∙ (ap (at (entries_from (first + 1) rest)) shift ∙ at-from (first + 1) rest key)

  pub at-entries : (s : Slab T) (key : ℕ) → at (entries s) key ≡ get s key
  at-entries s key = ap (at (entries s)) (sym (zero-add key)) ∙ at-from 0 s.slots key

  -- the same at each key: the same map
  same-from : (first : ℕ) (old new : List (Option T)) → ((o : ℕ) → get_or new o None ≡ get_or old o None) → entries_from first new ≡ entries_from first old
  same-from first [] [] same = refl
  same-from first [] (x ∷ new) same = rw (same 0) (same-from (first + 1) [] new (λ o. same (suc o)))
  same-from first (y ∷ old) [] same = rw (sym (same 0)) (same-from (first + 1) old [] (λ o. same (suc o)))
  same-from first (None ∷ old) (x ∷ new) same = rw (same 0) (same-from (first + 1) old new (λ o. same (suc o)))
  same-from first (Some y ∷ old) (x ∷ new) same = rw (same 0) (ap (λ m. (first, y) ∷ m) (same-from (first + 1) old new (λ o. same (suc o))))

  without-below : (first k : ℕ) (slots : List (Option T)) → k < first → without (entries_from first slots) k ≡ entries_from first slots
  without-below first k [] below = refl
  without-below first k (None ∷ rest) below = without-below (first + 1) k rest (omega arith)
  without-below first k (Some x ∷ rest) below =
      ap (λ o. cond (is_eq o) (entries_from (first + 1) rest) ((first, x) ∷ without (entries_from (first + 1) rest) k)) (cmp-below k first below)
      ∙ ap (λ m. (first, x) ∷ m) (without-below (first + 1) k rest (omega arith))

  -- each key but one has what it had
  abbrev SameBut : ℕ → List (Option T) → List (Option T) → Type 0
  SameBut key old new = (o : ℕ) → o ≢ key → get_or new o None ≡ get_or old o None

  -- a value at one key, the others as before
  set-from : (first key : ℕ) (old new : List (Option T)) (v : T) (k : ℕ) → first + key ≡ k → get_or new key None ≡ Some v → SameBut key old new → entries_from first new ≡ with (entries_from first old) k v
  set-from first key old [] v k is here others = absurd (cc)
  set-from first zero [] (x ∷ new) v k is here others =
      let same : first ≡ k = omega arith in
      rw (here, same-from (first + 1) [] new (λ o. others (suc o) (λ e. omega arith))) (ap (λ n. (n, v) ∷ []) same)
  set-from first zero (None ∷ old) (x ∷ new) v k is here others =
      let same : first ≡ k = omega arith in
      rw (here, same-from (first + 1) old new (λ o. others (suc o) (λ e. omega arith)))
      (ap (λ n. (n, v) ∷ entries_from (first + 1) old) same ∙ sym (with-below (first + 1) k old v (omega arith)))
  set-from first zero (Some y ∷ old) (x ∷ new) v k is here others =
      let same : first ≡ k = omega arith in
      rw (here, same-from (first + 1) old new (λ o. others (suc o) (λ e. omega arith)))
      (sym (with-same (entries_from (first + 1) old) first y v) ∙ ap (λ n. with ((first, y) ∷ entries_from (first + 1) old) n v) same)
  set-from first (suc key) [] (x ∷ new) v k is here others =
      rw (others 0 (λ e. omega arith)) (set-from (first + 1) key [] new v k (omega arith) here (λ o differs. others (suc o) (λ e. differs (omega arith))))
  set-from first (suc key) (None ∷ old) (x ∷ new) v k is here others =
      rw (others 0 (λ e. omega arith)) (set-from (first + 1) key old new v k (omega arith) here (λ o differs. others (suc o) (λ e. differs (omega arith))))
  set-from first (suc key) (Some y ∷ old) (x ∷ new) v k is here others =
      rw (others 0 (λ e. omega arith))
      (ap (λ m. (first, y) ∷ m) (set-from (first + 1) key old new v k (omega arith) here (λ o differs. others (suc o) (λ e. differs (omega arith))))
      ∙ sym (with-skip (entries_from (first + 1) old) first k y v (omega arith)))

  -- nothing at one key, the others as before
  take-from : (first key : ℕ) (old new : List (Option T)) (k : ℕ) → first + key ≡ k → get_or new key None ≡ None → SameBut key old new → entries_from first new ≡ without (entries_from first old) k
  take-from first key [] [] k is here others = refl
  take-from first zero [] (x ∷ new) k is here others = rw here (same-from (first + 1) [] new (λ o. others (suc o) (λ e. omega arith)))
  take-from first (suc key) [] (x ∷ new) k is here others =
      rw (others 0 (λ e. omega arith)) (take-from (first + 1) key [] new k (omega arith) here (λ o differs. others (suc o) (λ e. differs (omega arith))))
  take-from first zero (None ∷ old) [] k is here others =
      same-from (first + 1) old [] (λ o. others (suc o) (λ e. omega arith)) ∙ sym (without-below (first + 1) k old (omega arith))
  take-from first zero (Some y ∷ old) [] k is here others =
      let same : first ≡ k = omega arith in
      same-from (first + 1) old [] (λ o. others (suc o) (λ e. omega arith))
      ∙ (sym (without-same (entries_from (first + 1) old) first y) ∙ ap (without ((first, y) ∷ entries_from (first + 1) old)) same)
  take-from first (suc key) (None ∷ old) [] k is here others =
      take-from (first + 1) key old [] k (omega arith) refl (λ o differs. others (suc o) (λ e. differs (omega arith)))
  take-from first (suc key) (Some y ∷ old) [] k is here others =
      let none : None ≡ Some y = others 0 (λ e. omega arith) in absurd (cc)
  take-from first zero (None ∷ old) (x ∷ new) k is here others =
      rw here (same-from (first + 1) old new (λ o. others (suc o) (λ e. omega arith)) ∙ sym (without-below (first + 1) k old (omega arith)))
  take-from first zero (Some y ∷ old) (x ∷ new) k is here others =
      let same : first ≡ k = omega arith in
      rw here
      (same-from (first + 1) old new (λ o. others (suc o) (λ e. omega arith))
      ∙ (sym (without-same (entries_from (first + 1) old) first y) ∙ ap (without ((first, y) ∷ entries_from (first + 1) old)) same))
  take-from first (suc key) (None ∷ old) (x ∷ new) k is here others =
      rw (others 0 (λ e. omega arith)) (take-from (first + 1) key old new k (omega arith) here (λ o differs. others (suc o) (λ e. differs (omega arith))))
  take-from first (suc key) (Some y ∷ old) (x ∷ new) k is here others =
      rw (others 0 (λ e. omega arith))
      (ap (λ m. (first, y) ∷ m) (take-from (first + 1) key old new k (omega arith) here (λ o differs. others (suc o) (λ e. differs (omega arith))))
      ∙ sym (without-skip (entries_from (first + 1) old) first k y (omega arith)))

  -- the map after an update of its slots
  pub entries-updated : (old new : Slab T) (key : ℕ) (slot : Option T) → Updates old new key slot → entries new ≡ set_at (entries old) key slot
  entries-updated old new key None updates = take-from 0 key old.slots new.slots key (zero-add key) updates.changed updates.others
  entries-updated old new key (Some x) updates = set-from 0 key old.slots new.slots x key (zero-add key) updates.changed updates.others

  pub puts-updated : (old new : Slab T) (key : ℕ) (slot : Option T) → Updates old new key slot → PutsAt (entries old) (entries new) key slot
  puts-updated old new key slot updates =
      record {
        whole = entries-updated old new key slot updates;
        here = at-entries new key ∙ updates.changed;
        others = λ j differs. at-entries new j ∙ (updates.others j differs ∙ sym (at-entries old j));
      }

  -- nothing is no value
  pub none_is_not : (o : Option T) → o ≡ None → IsSome o → ⊥
  none_is_not None none some = absurd (cc)
  none_is_not (Some x) none some = absurd (cc)

  -- the keys of slots ascend
  above : (k first : ℕ) (slots : List (Option T)) → k < first → AllByRecursion (λ y. nat_cmp k y ≡ Less) (keys_of (entries_from first slots))
  above k first [] below = tt
  above k first (None ∷ rest) below = above k (first + 1) rest (omega arith)
  above k first (Some x ∷ rest) below = (cmp-below k first below, above k (first + 1) rest (omega arith))

  pub ascend-from : (first : ℕ) (slots : List (Option T)) → IsStrictlySortedBy nat_cmp (keys_of (entries_from first slots))
  unfolding IsStrictlySortedBy
  ascend-from first [] = tt
  ascend-from first (None ∷ rest) = ascend-from (first + 1) rest
  ascend-from first (Some x ∷ rest) = (above first (first + 1) rest (omega arith), ascend-from (first + 1) rest)

-- The list of entries in a cache's own words, from `lru`'s words for the pairs that it keeps.
use Rattle.std.proofs.Common.{◌≡◌, suc, ◌-◌, ◌<◌, ◌≤◌, Bool, true, false, not, ◌&&◌, ◌==◌, List, [], ◌∷◌, length, map, take, filter, Option, None, Some, IsSome, Result, Ok, Err, IsOk, refl, sym, ap, subst, ◌∙◌, cond, arith}
use Rattle.std.specs.Option.{option_map, option_map_or}
use Rattle.std.specs.List.{AllByRecursion, IsDistinct}
use Rattle.std.specs.Map.{keys_of, lookup, lookup_entry, remove_entry}
use Rattle.std.proofs.lemmas.Bool.{eqb-true, and_parts}
use Rattle.std.proofs.lemmas.List.{take-map, length-map, take_all}
use Rattle.lru.specs.LruCache.{LruCache, promoted, put_entries}
use Rattle.av_base.specs.declared.verdict.Verdict.{Verdict}
use Rattle.av_cache.specs.declared.entry.Entry.{Entry}
use Rattle.av_cache.specs.declared.key.Key.{Key}
use Rattle.av_cache.specs.Cache.{has_key, look, verdict_of, same_key, moved, put, HasEachKeyOnce, entry_of}

-- the test of a key, as the keys' own `==` computes
abbrev pub is_key : Key → Key → Bool
is_key k x = (k.stream == x.stream) && ((k.generation == x.generation) && (k.version == x.version))

-- two keys that pass the test are one
pub one_key : (k x : Key) → is_key k x ≡ true → k ≡ x
one_key k x e =
    let s = eqb-true k.stream x.stream (and_parts _ _ e).0 in
    let rest = (and_parts (k.stream == x.stream) _ e).1 in
    let g = eqb-true k.generation x.generation (and_parts _ _ rest).0 in
    let v = eqb-true k.version x.version (and_parts (k.generation == x.generation) _ rest).1 in
    λ i. record { stream = s i; generation = g i; version = v i }

-- a look-up finds the entry that the pair makes
pub find-entries : (k : Key) (es : List (Key × Verdict)) → look k.stream k.generation k.version (map entry_of es) ≡ option_map entry_of (lookup_entry (is_key k) es)
find-entries k [] = refl
find-entries k (e ∷ es) =
    elim (is_key k e.0) as (λ b. cond b (Some (entry_of e)) (look k.stream k.generation k.version (map entry_of es)) ≡ option_map entry_of (cond b (Some e) (lookup_entry (is_key k) es))) [
      | true ↦ refl
      | false ↦ find-entries k es
    ]

pub find-verdict : (k : Key) (es : List (Key × Verdict)) → option_map verdict_of (look k.stream k.generation k.version (map entry_of es)) ≡ lookup (is_key k) es
find-verdict k [] = refl
find-verdict k (e ∷ es) =
    elim (is_key k e.0) as (λ b. option_map verdict_of (cond b (Some (entry_of e)) (look k.stream k.generation k.version (map entry_of es))) ≡ cond b (Some e.1) (lookup (is_key k) es)) [
      | true ↦ refl
      | false ↦ find-verdict k es
    ]

-- the entries of other keys
abbrev pub others : Key → List Entry → List Entry
others k es = filter (λ e. not (has_key k.stream k.generation k.version e)) es

-- where none is of the key, all are others
others-none : (k : Key) (es : List (Key × Verdict)) → AllByRecursion (λ x. is_key k x ≡ false) (keys_of es) → others k (map entry_of es) ≡ map entry_of es
others-none k [] none = refl
others-none k (e ∷ es) none = rw none.0 (ap (λ xs. entry_of e ∷ xs) (others-none k es none.1))

-- keys apart: without the one entry of the key, all are others
pub others-removed : (k : Key) (es : List (Key × Verdict)) → IsDistinct is_key (keys_of es) → others k (map entry_of es) ≡ map entry_of (remove_entry (is_key k) es)
unfolding IsDistinct
others-removed k [] apart = refl
others-removed k (e ∷ es) apart =
    (elim (is_key k e.0) as (λ b. is_key k e.0 ≡ b → cond (not b) (entry_of e ∷ others k (map entry_of es)) (others k (map entry_of es)) ≡ map entry_of (cond b es (e ∷ remove_entry (is_key k) es))) [
      | true ↦ λ same. others-none k es (subst (λ x. AllByRecursion (λ y. is_key x y ≡ false) (keys_of es)) (sym (one_key k e.0 same)) apart.0)
      | false ↦ λ other. ap (λ xs. entry_of e ∷ xs) (others-removed k es apart.1)
    ]) refl

-- what a look-up finds is of the key, and is one entry of the list
found_key : (k : Key) (es : List (Key × Verdict)) (p : Key × Verdict) → lookup_entry (is_key k) es ≡ Some p → k ≡ p.0
found_key k [] p found = absurd (cc)
found_key k (e ∷ es) p found =
    (elim (is_key k e.0) as (λ b. is_key k e.0 ≡ b → cond b (Some e) (lookup_entry (is_key k) es) ≡ Some p → k ≡ p.0) [
      | true ↦ λ same here. let at : e ≡ p = cc in subst (λ (q : Key × Verdict). k ≡ q.0) at (one_key k e.0 same)
      | false ↦ λ other later. found_key k es p later
    ]) refl found

length-removed : (k : Key) (es : List (Key × Verdict)) (p : Key × Verdict) → lookup_entry (is_key k) es ≡ Some p → suc (length (remove_entry (is_key k) es)) ≡ length es
length-removed k [] p found = absurd (cc)
length-removed k (e ∷ es) p found =
    (elim (is_key k e.0) as (λ b. cond b (Some e) (lookup_entry (is_key k) es) ≡ Some p → suc (length (cond b es (e ∷ remove_entry (is_key k) es))) ≡ suc (length es)) [
      | true ↦ λ here. refl
      | false ↦ λ later. ap suc (length-removed k es p later)
    ]) found

-- where nothing is found, nothing is taken out
removed-none : (k : Key) (es : List (Key × Verdict)) → lookup_entry (is_key k) es ≡ None → remove_entry (is_key k) es ≡ es
removed-none k [] none = refl
removed-none k (e ∷ es) none =
    (elim (is_key k e.0) as (λ b. cond b (Some e) (lookup_entry (is_key k) es) ≡ None → cond b es (e ∷ remove_entry (is_key k) es) ≡ e ∷ es) [
      | true ↦ λ here. absurd (cc)
      | false ↦ λ later. ap (λ xs. e ∷ xs) (removed-none k es later)
    ]) none

-- a hit goes to the front
pub moved-entries : (k : Key) (es : List (Key × Verdict)) → IsDistinct is_key (keys_of es) → map entry_of (promoted (is_key k) es) ≡ moved (look k.stream k.generation k.version (map entry_of es)) (map entry_of es)
moved-entries k es apart =
    rw (find-entries k es)
    ((elim (lookup_entry (is_key k) es) as (λ o. lookup_entry (is_key k) es ≡ o → map entry_of (option_map_or (λ e. e ∷ remove_entry (is_key k) es) o es) ≡ moved (option_map entry_of o) (map entry_of es)) [
      | None ↦ λ none. refl
      | Some p ↦ λ found.
          ap (λ xs. entry_of p ∷ xs) (ap (λ x. map entry_of (remove_entry (is_key x) es)) (found_key k es p found) ∙ sym (others-removed p.0 es apart))
    ]) refl)

-- a put goes to the front, and drops what is past the capacity
pub put-entries : (c : LruCache Key Verdict) (k : Key) (v : Verdict) → IsDistinct is_key (keys_of c.entries) → length c.entries ≤ c.cap → 0 < c.cap → map entry_of (put_entries is_key c k v) ≡ put c.cap (entry_of (k, v)) (map entry_of c.entries)
put-entries c k v apart fits positive =
    rw (others-removed k c.entries apart)
    ((elim (lookup_entry (is_key k) c.entries) as (λ o. lookup_entry (is_key k) c.entries ≡ o → map entry_of (option_map_or (λ e. (e.0, v) ∷ remove_entry (is_key k) c.entries) o ((k, v) ∷ take (c.cap - 1) c.entries)) ≡ take c.cap (entry_of (k, v) ∷ map entry_of (remove_entry (is_key k) c.entries))) [
      | None ↦ λ none.
          let room : c.cap ≡ suc (c.cap - 1) = omega arith in
          rw (removed-none k c.entries none)
          (subst (λ n. entry_of (k, v) ∷ map entry_of (take (c.cap - 1) c.entries) ≡ take n (entry_of (k, v) ∷ map entry_of c.entries)) (sym room)
          (ap (λ xs. entry_of (k, v) ∷ xs) (sym (take-map entry_of (c.cap - 1) c.entries))))
      | Some p ↦ λ found.
          let counted = length-removed k c.entries p found in
          let same = length-map (remove_entry (is_key k) c.entries) entry_of in
          ap (λ x. entry_of (x, v) ∷ map entry_of (remove_entry (is_key k) c.entries)) (sym (found_key k c.entries p found))
          ∙ sym (take_all c.cap (entry_of (k, v) ∷ map entry_of (remove_entry (is_key k) c.entries)) (omega arith))
    ]) refl)

-- keys apart: no two entries of the same key
pub once-entries : (es : List (Key × Verdict)) → IsDistinct is_key (keys_of es) → HasEachKeyOnce (map entry_of es)
unfolding IsDistinct
once-entries [] apart = tt
once-entries (e ∷ es) apart = (none_of es apart.0, once-entries es apart.1) where
  none_of : (xs : List (Key × Verdict)) → AllByRecursion (λ x. is_key e.0 x ≡ false) (keys_of xs) → AllByRecursion (λ x. same_key (entry_of e) x ≡ false) (map entry_of xs)
  none_of [] none = tt
  none_of (x ∷ xs) none = (none.0, none_of xs none.1)

-- what a look-up finds, the pairs have
some_map : (o : Option Entry) → IsSome o → IsSome (option_map verdict_of o)
some_map None some = absurd (cc)
some_map (Some x) some = refl

pub found-pair : (k : Key) (es : List (Key × Verdict)) → IsSome (look k.stream k.generation k.version (map entry_of es)) → IsSome (lookup (is_key k) es)
found-pair k es some = rw (← find-verdict k es) (some_map _ some)

-- an error is no success
pub err_is_not_ok : {A E : Type 0} (r : Result A E) (e : E) → r ≡ Err e → IsOk r → ⊥
err_is_not_ok (Ok x) e err ok = absurd (cc)
err_is_not_ok (Err f) e err ok = absurd (cc)

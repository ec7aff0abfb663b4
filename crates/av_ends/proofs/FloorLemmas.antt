-- Each step keeps the word at or above what every seat has seen.
use Rattle.std.proofs.Common.{◌≡◌, ◌≢◌, ℕ, ◌≤◌, List, [], ◌∷◌, length, max, refl, sym, subst, ⊎_elim, le_trans, le_refl, arith}
use Rattle.std.specs.Prelude.{slice_index, slice_set}
use mathlib.Core.Option.{some}
use lib.ListN.{get_elem?}
use Rattle.atomic_table.specs.Table.{Me, step, Allows, Splits, Joins, keeps}
use Rattle.atomic_table.proofs.Lists.{at_set, at_snoc, set_again}
use Rattle.av_ends.specs.Floors.{NoneAbove, Loads, Raises}

abbrev AllUpTo : List ℕ → ℕ → Type 0
AllUpTo views n = (seat v : ℕ) → get_elem? views seat ≡ some v → v ≤ n

front : (ws : List ℕ) (n : ℕ) → length ws ≡ 1 → slice_index (slice_set ws 0 n) 0 ≡ n
front [] n e = absurd (omega arith)
front (w ∷ ws) n e = refl

one : (ws : List ℕ) (n : ℕ) → length ws ≡ 1 → length (slice_set ws 0 n) ≡ 1
one [] n e = absurd (omega arith)
one (w ∷ ws) n e = e

seen_set : (views : List ℕ) (id w m n : ℕ) → AllUpTo views m → m ≤ n → w ≤ n → AllUpTo (slice_set views id w) n
seen_set views id w m n all up new j v e =
    ⊎_elim (λ (t : (j ≡ id) × (w ≡ v)). subst (λ (z : ℕ). z ≤ n) t.1 new) (λ (t : (j ≢ id) × (get_elem? views j ≡ some v)). le_trans (all j v t.1) up) (at_set views id j w v e)

-- a step that leaves the word at n or above all, and its seat with w
moved : (ws views : List ℕ) (id w n : ℕ) → length ws ≡ 1 → AllUpTo views (slice_index ws 0) → slice_index ws 0 ≤ n → w ≤ n → AllUpTo (slice_set views id w) (slice_index (slice_set ws 0 n) 0)
moved ws views id w n len all up new = subst (AllUpTo (slice_set views id w)) (sym (front ws n len)) (seen_set views id w (slice_index ws 0) n all up new)

pub loads : {S : Type 0} (id slots : ℕ) (me : Me S ℕ) → Allows NoneAbove slots id me 0 (λ n. n) (Loads (step slots 0 0 0 mathlib.Core.Option.none) me)
loads id slots me s h homes at fits =
    let n = slice_index s.words 0 in
    (n, keeps, tt, (one s.words n h.0, moved s.words s.views id n n h.0 h.1 (le_refl n) (le_refl n)), (h.1 id me.0 at, refl, refl))

pub raises : {S : Type 0} (id slots k : ℕ) (me : Me S ℕ) → Allows NoneAbove slots id me 0 (λ n. max n k) (Raises (step slots 0 k 0 mathlib.Core.Option.none) me)
raises id slots k me s h homes at fits =
    let n = slice_index s.words 0 in
    let up : n ≤ max n k = omega arith in
    (max n k, keeps, tt, (one s.words (max n k) h.0, moved s.words s.views id (max n k) (max n k) h.0 h.1 up (le_refl (max n k))), (h.1 id me.0 at, refl, refl))

pub splits : {S : Type 0} (id v : ℕ) → Splits {S = S} NoneAbove id v v v
splits id v s h at =
    (h.0, λ j u e. ⊎_elim (λ was. h.1 j u (subst (λ l. get_elem? l j ≡ some u) (set_again s.views id v at) was)) (λ (same : v ≡ u). subst (λ (z : ℕ). z ≤ slice_index s.words 0) same (h.1 id v at)) (at_snoc (slice_set s.views id v) v u j e))

pub joins : {S : Type 0} (id v other w : ℕ) → Joins {S = S} NoneAbove id v other w (max v w) 0
joins id v other w s h at apart there =
    let n = slice_index s.words 0 in
    let mine : v ≤ n = h.1 id v at in
    let theirs : w ≤ n = ⊎_elim (λ (t : (other ≡ id) × (max v w ≡ w)). absurd (apart t.0)) (λ (t : (other ≢ id) × (get_elem? s.views other ≡ some w)). h.1 other w t.1) (at_set s.views id other (max v w) w there) in
    let both : max v w ≤ n = omega arith in
    (h.0, seen_set (slice_set s.views id (max v w)) other 0 n n (seen_set s.views id (max v w) n n h.1 (le_refl n) both) (le_refl n) (omega arith))

-- A walk along the opens of a question: from each to the next one that it names.
use Rattle.std.proofs.Common.{◌≡◌, ℕ, ◌+◌, ◌<◌, ◌&&◌, ◌||◌, not, Bool, true, false, List, [], ◌∷◌, Option, Some, None, cond, refl, sym, ap, ◌∙◌, arith}
use Rattle.std.specs.List.{list_any}
use Rattle.std.specs.Option.{option_map}
use Rattle.av_context.specs.Contexts.{at}
use Rattle.av_filter_table.specs.declared.asked.Asked.{Asked}
use Rattle.av_filter_table.specs.declared.waits.Waits.{Waits}
use Rattle.av_numbered.specs.Numbered.{IsAscending}
use Rattle.av_filter_table.specs.Chains.{Questions, Opens, IsChain, AreChained, AreLinked, waits_for, first_of, count_of, plain, plains, is_left, is_spent}
use Rattle.av_filter_table.proofs.ChainLemmas.{has_none, test-same}
use Rattle.av_numbered.proofs.MapLemmas.{none_some, some_same, row_found, if_some_at, at-same, at-apart, at-none, head-above, tail-ascends}
use Rattle.av_pend.specs.Waiting.{Waiting}

-- what is behind the first of a map is in the map
pub at-later : {X : Type 0} (d : ℕ × X) (m : List (ℕ × X)) (k : ℕ) (x : X) → IsAscending (d ∷ m) → at m k ≡ Some x → at (d ∷ m) k ≡ Some x
at-later d m k x up found = at-apart m d.0 k d.1 (λ e. none_some (sym (at-none m d.0 (head-above d m up)) ∙ (ap (at m) (sym e) ∙ found))) ∙ found

-- the first open of a question, and what is behind it
pub record Found (n k : ℕ) (rest : Opens) : Type 0 where
  pub row : Waits
  pub value : Waiting
  pub back : Opens
  pub found : at rest k ≡ Some (row, value)
  pub up : IsAscending back
  pub linked : AreLinked back
  pub later : (j : ℕ) (y : Waits × Waiting) → at back j ≡ Some y → at rest j ≡ Some y
  pub next : row.next ≡ first_of n back
  pub count : count_of n rest ≡ count_of n back + 1
  pub any : list_any (is_left n) (plains rest) ≡ (not (is_spent (n, value)) || list_any (is_left n) (plains back))

pub found-first : (n k : ℕ) (rest : Opens) → IsAscending rest → AreLinked rest → first_of n rest ≡ Some k → Found n k rest
found-first n k [] up linked first = none_some first
found-first n k (d ∷ p) up linked first = go (waits_for n d) refl (found-first n k p (tail-ascends d p up) linked.1)
  where
    go : (b : Bool) → waits_for n d ≡ b → (first_of n p ≡ Some k → Found n k p) → Found n k (d ∷ p)
    go true h rest =
        let here : k ≡ d.0 = sym (some_same d.0 k (sym (ap (λ b. cond b (Some d.0) (first_of n p)) h) ∙ first)) in
        let same = test-same d.1.0.question n h in
        record {
          row = d.1.0;
          value = d.1.1;
          back = p;
          found = ap (at (d ∷ p)) here ∙ at-same p d.0 d.1;
          up = tail-ascends d p up;
          linked = linked.1;
          later = λ j y found. at-later d p j y up found;
          next = linked.0 ∙ ap (λ m. first_of m p) same;
          count = ap (λ b. cond b (count_of n p + 1) (count_of n p)) h;
          any = ap (λ b. (b && not (is_spent (n, d.1.1))) || list_any (is_left n) (plains p)) h;
        }
    go false h rest =
        let tail = rest (sym (ap (λ b. cond b (Some d.0) (first_of n p)) h) ∙ first) in
        record {
          row = tail.row;
          value = tail.value;
          back = tail.back;
          found = at-later d p k (tail.row, tail.value) up tail.found;
          up = tail.up;
          linked = tail.linked;
          later = λ j y found. at-later d p j y up (tail.later j y found);
          next = tail.next;
          count = ap (λ b. cond b (count_of n p + 1) (count_of n p)) h ∙ tail.count;
          any = ap (λ b. (b && not (is_spent (n, d.1.1))) || list_any (is_left n) (plains p)) h ∙ tail.any;
        }

-- so many opens of a question were seen, none with a rescan left, and the next is this one
pub record Walks (n : ℕ) (next : Option ℕ) (seen all : ℕ) (p : Opens) : Type 0 where
  pub rest : Opens
  pub up : IsAscending rest
  pub linked : AreLinked rest
  pub there : (k : ℕ) (y : Waits × Waiting) → at rest k ≡ Some y → at p k ≡ Some y
  pub first : next ≡ first_of n rest
  pub count : seen + count_of n rest ≡ all
  pub any : list_any (is_left n) (plains rest) ≡ list_any (is_left n) (plains p)

pub starts : (n : ℕ) (q : Questions) (p : Opens) (x : Asked) → IsAscending p → AreChained q p → Some x ≡ option_map (λ y. y.0) (at q n) → Walks n x.first 0 x.opens p
starts n q p x up chained row =
    let found = row_found (at q n) x row in
    let chain = if_some_at (λ z. IsChain z.0 n p) (at q n) (x, found.0) (chained.ends n) found.1 in
    let opens : x.opens ≡ count_of n p = chain.opens in
    record {
      rest = p;
      up = up;
      linked = chained.linked;
      there = λ k y found. found;
      first = chain.first;
      count = omega arith;
      any = refl;
    }

-- where opens are left to be seen, there is a next one
pub more : (n seen all : ℕ) (next : Option ℕ) (p : Opens) → Walks n next seen all p → seen < all → next ≡ None → ⊥
more n seen all next p w left none =
    let zero : count_of n w.rest ≡ 0 = (has_none n w.rest (sym w.first ∙ none)).count in
    let count = w.count in
    absurd (omega arith)

-- the next open, and the walk behind it
pub record Goes (n k seen all : ℕ) (p : Opens) : Type 0 where
  pub row : Waits
  pub value : Waiting
  pub found : at p k ≡ Some (row, value)
  pub left : is_spent (n, value) ≡ false → list_any (is_left n) (plains p) ≡ true
  pub on : is_spent (n, value) ≡ true → Walks n row.next (seen + 1) all p

pub goes : (n k seen all : ℕ) (next : Option ℕ) (p : Opens) → Walks n next seen all p → next ≡ Some k → Goes n k seen all p
goes n k seen all next p w is =
    let f = found-first n k w.rest w.up w.linked (sym w.first ∙ is) in
    let count : seen + count_of n w.rest ≡ all = w.count in
    let fewer : count_of n w.rest ≡ count_of n f.back + 1 = f.count in
    record {
      row = f.row;
      value = f.value;
      found = w.there k (f.row, f.value) f.found;
      left = λ left. sym w.any ∙ (f.any ∙ ap (λ b. not b || list_any (is_left n) (plains f.back)) left);
      on = λ spent. record {
        rest = f.back;
        up = f.up;
        linked = f.linked;
        there = λ j y found. w.there j y (f.later j y found);
        first = f.next;
        count = omega arith;
        any = sym (ap (λ b. not b || list_any (is_left n) (plains f.back)) spent) ∙ (sym f.any ∙ w.any);
      };
    }

-- with none left to be seen, no open has a rescan left
pub ends-walk : (n all : ℕ) (next : Option ℕ) (p : Opens) → Walks n next all all p → list_any (is_left n) (plains p) ≡ false
ends-walk n all next p w =
    let count : all + count_of n w.rest ≡ all = w.count in
    sym w.any ∙ none-left n w.rest (omega arith)
  where
    none-left : (n : ℕ) (p : Opens) → count_of n p ≡ 0 → list_any (is_left n) (plains p) ≡ false
    none-left n [] zero = refl
    none-left n (d ∷ p) zero = go (waits_for n d) refl (none-left n p)
      where
        go : (b : Bool) → waits_for n d ≡ b → (count_of n p ≡ 0 → list_any (is_left n) (plains p) ≡ false) → list_any (is_left n) (plains (d ∷ p)) ≡ false
        go true h rest =
            let one : count_of n p + 1 ≡ 0 = sym (ap (λ b. cond b (count_of n p + 1) (count_of n p)) h) ∙ zero in
            absurd (omega arith)
        go false h rest =
            ap (λ b. (b && not (is_spent (plain d))) || list_any (is_left n) (plains p)) h
            ∙ rest (sym (ap (λ b. cond b (count_of n p + 1) (count_of n p)) h) ∙ zero)

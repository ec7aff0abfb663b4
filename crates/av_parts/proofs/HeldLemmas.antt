-- Contents by rising number, and what holds of each.
use Rattle.std.proofs.Common.{◌≡◌, ℕ, suc, ◌+◌, ◌<◌, ◌≤◌, List, [], ◌∷◌, length, Some, None, cond, refl, sym, ap, subst, arith}
use Rattle.std.specs.Ordering.{nat_cmp, match_ordering, is_eq}
use Rattle.std.specs.declared.cmp.Ordering.TheVariants.{Less, Equal, Greater}
use Rattle.std.proofs.lemmas.Bool.Decides.{nat_tests}
use Rattle.av_parts.specs.Judge.{at, with, without}

-- the numbers rise from above `low` to `last` at most, and P holds of each entry
abbrev pub Holds : {X : Type 0} → (ℕ × X → Type 0) → ℕ → ℕ → List (ℕ × X) → Type 0
Holds P low last [] = Unit {0}
Holds P low last (e ∷ es) = (low < e.0) × (e.0 ≤ last) × P e × Holds P e.0 last es

cmp_less : (n k : ℕ) → nat_cmp n k ≡ Less → n < k
cmp_less n k e = grind (arith, nat_tests)

cmp_equal : (n k : ℕ) → nat_cmp n k ≡ Equal → n ≡ k
cmp_equal n k e = grind (arith, nat_tests)

cmp_greater : (n k : ℕ) → nat_cmp n k ≡ Greater → k < n
cmp_greater n k e = grind (arith, nat_tests)

module _ {X : Type 0} where
  -- what holds of entries of other numbers, where all numbers are above n
  pub above : (P Q : ℕ × X → Type 0) (n low last more : ℕ) (m : List (ℕ × X)) → n ≤ low → last ≤ more → ((e : ℕ × X) → (e.0 ≡ n → ⊥) → P e → Q e) → Holds P low last m → Holds Q low more m
  above P Q n low last more [] up over f all = tt
  above P Q n low last more (e ∷ es) up over f all = (
    all.0,
    omega (arith, all.1, over),
    f e (λ same. omega (arith, same, up, all.0)) all.2,
    above P Q n e.0 last more es (omega (arith, up, all.0)) over f all.3,
  )

  -- what is found at a number
  pub found : (P : ℕ × X → Type 0) (n low last : ℕ) (x : X) (m : List (ℕ × X)) → Holds P low last m → at m n ≡ Some x → (low < n) × (n ≤ last) × P (n, x)
  found P n low last x [] all is = absurd cc
  found P n low last x (e ∷ es) all is =
      (elim (nat_cmp n e.0) as (λ o. nat_cmp n e.0 ≡ o → cond (is_eq o) (Some e.1) (at es n) ≡ Some x → (low < n) × (n ≤ last) × P (n, x)) [
        | Less ↦ λ c later. let f = found P n e.0 last x es all.3 later in (omega (arith, all.0, f.0), f.1, f.2)
        | Equal ↦ λ c here.
            let same : n ≡ e.0 = cmp_equal n e.0 c in
            let value : e.1 ≡ x = cc in
            (omega (arith, all.0, same), omega (arith, all.1, same), subst (λ k. P (k, x)) (sym same) (subst (λ y. P (e.0, y)) value all.2))
        | Greater ↦ λ c later. let f = found P n e.0 last x es all.3 later in (omega (arith, all.0, f.0), f.1, f.2)
      ]) refl is

  -- where nothing is found, entries are of other numbers
  pub none_found : (P Q : ℕ × X → Type 0) (n low last : ℕ) (m : List (ℕ × X)) → ((e : ℕ × X) → (e.0 ≡ n → ⊥) → P e → Q e) → Holds P low last m → at m n ≡ None → Holds Q low last m
  none_found P Q n low last [] f all is = tt
  none_found P Q n low last (e ∷ es) f all is =
      (elim (nat_cmp n e.0) as (λ o. nat_cmp n e.0 ≡ o → cond (is_eq o) (Some e.1) (at es n) ≡ None → Holds Q low last (e ∷ es)) [
        | Less ↦ λ c later. (all.0, all.1, f e (λ same. omega (arith, same, cmp_less n e.0 c)) all.2, none_found P Q n e.0 last es f all.3 later)
        | Equal ↦ λ c here. absurd cc
        | Greater ↦ λ c later. (all.0, all.1, f e (λ same. omega (arith, same, cmp_greater n e.0 c)) all.2, none_found P Q n e.0 last es f all.3 later)
      ]) refl is

  -- one entry is put in, or has another value
  pub put_in : (P Q : ℕ × X → Type 0) (n low last more : ℕ) (x : X) (m : List (ℕ × X)) → ((e : ℕ × X) → (e.0 ≡ n → ⊥) → P e → Q e) → low < n → n ≤ more → last ≤ more → Q (n, x)
      → Holds P low last m → Holds Q low more (with m n x)
  put_in P Q n low last more x [] f up in_range over here all = (up, in_range, here, tt)
  put_in P Q n low last more x (e ∷ es) f up in_range over here all =
      (elim (nat_cmp n e.0) as (λ o. nat_cmp n e.0 ≡ o → Holds Q low more (match_ordering o ((n, x) ∷ e ∷ es) ((e.0, x) ∷ es) (e ∷ with es n x))) [
        | Less ↦ λ c.
            let less = cmp_less n e.0 c in (
              up,
              in_range,
              here,
              (less, omega (arith, all.1, over), f e (λ same. omega (arith, same, less)) all.2, above P Q n e.0 last more es (omega (arith, less)) over f all.3),
            )
        | Equal ↦ λ c.
            let same : n ≡ e.0 = cmp_equal n e.0 c in
            (all.0, omega (arith, all.1, over), subst (λ k. Q (k, x)) same here, above P Q n e.0 last more es (omega (arith, same)) over f all.3)
        | Greater ↦ λ c.
            let greater = cmp_greater n e.0 c in
            (all.0, omega (arith, all.1, over), f e (λ same. omega (arith, same, greater)) all.2, put_in P Q n e.0 last more x es f greater in_range over here all.3)
      ]) refl

  lower : (Q : ℕ × X → Type 0) (low high last : ℕ) (m : List (ℕ × X)) → low ≤ high → Holds Q high last m → Holds Q low last m
  lower Q low high last [] le all = tt
  lower Q low high last (e ∷ es) le all = (omega (arith, le, all.0), all.1, all.2, all.3)

  -- one entry is taken out
  pub taken_out : (P Q : ℕ × X → Type 0) (n low last : ℕ) (m : List (ℕ × X)) → ((e : ℕ × X) → (e.0 ≡ n → ⊥) → P e → Q e) → Holds P low last m → Holds Q low last (without m n)
  taken_out P Q n low last [] f all = tt
  taken_out P Q n low last (e ∷ es) f all =
      (elim (nat_cmp n e.0) as (λ o. nat_cmp n e.0 ≡ o → Holds Q low last (cond (is_eq o) es (e ∷ without es n))) [
        | Less ↦ λ c. (all.0, all.1, f e (λ same. omega (arith, same, cmp_less n e.0 c)) all.2, taken_out P Q n e.0 last es f all.3)
        | Equal ↦ λ c.
            let same : n ≡ e.0 = cmp_equal n e.0 c in
            lower Q low e.0 last es (omega (arith, all.0)) (above P Q n e.0 last last es (omega (arith, same)) (omega arith) f all.3)
        | Greater ↦ λ c. (all.0, all.1, f e (λ same. omega (arith, same, cmp_greater n e.0 c)) all.2, taken_out P Q n e.0 last es f all.3)
      ]) refl

  -- ---- how many entries there are

  pub one_more : (n : ℕ) (x : X) (m : List (ℕ × X)) → length (with m n x) ≤ length m + 1
  one_more n x [] = omega arith
  one_more n x (e ∷ es) =
      elim (nat_cmp n e.0) as (λ o. length (match_ordering o ((n, x) ∷ e ∷ es) ((e.0, x) ∷ es) (e ∷ with es n x)) ≤ length (e ∷ es) + 1) [
        | Less ↦ omega arith
        | Equal ↦ omega arith
        | Greater ↦ omega (arith, one_more n x es)
      ]

  pub no_more : (n : ℕ) (m : List (ℕ × X)) → length (without m n) ≤ length m
  no_more n [] = omega arith
  no_more n (e ∷ es) =
      elim (nat_cmp n e.0) as (λ o. length (cond (is_eq o) es (e ∷ without es n)) ≤ length (e ∷ es)) [
        | Less ↦ omega (arith, no_more n es)
        | Equal ↦ omega arith
        | Greater ↦ omega (arith, no_more n es)
      ]

  none_below : (P : ℕ × X → Type 0) (n low last : ℕ) (x : X) (m : List (ℕ × X)) → n ≤ low → Holds P low last m → at m n ≡ Some x → ⊥
  none_below P n low last x m le all is = omega (arith, le, (found P n low last x m all is).0)

  pub as_many : (P : ℕ × X → Type 0) (n low last : ℕ) (x y : X) (m : List (ℕ × X)) → Holds P low last m → at m n ≡ Some x → length (with m n y) ≡ length m
  as_many P n low last x y [] all is = absurd cc
  as_many P n low last x y (e ∷ es) all is =
      (elim (nat_cmp n e.0) as (λ o. nat_cmp n e.0 ≡ o → cond (is_eq o) (Some e.1) (at es n) ≡ Some x → length (match_ordering o ((n, y) ∷ e ∷ es) ((e.0, y) ∷ es) (e ∷ with es n y)) ≡ length (e ∷ es)) [
        | Less ↦ λ c later. absurd (none_below P n e.0 last x es (omega (arith, cmp_less n e.0 c)) all.3 later)
        | Equal ↦ λ c here. refl
        | Greater ↦ λ c later. ap suc (as_many P n e.0 last x y es all.3 later)
      ]) refl is

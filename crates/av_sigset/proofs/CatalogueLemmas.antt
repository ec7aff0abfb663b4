use Rattle.std.proofs.Common.{ℕ, ◌≡◌, ◌<◌, ◌+◌, zero, suc, Bool, true, false, cond, List, [], ◌∷◌, ◌++◌, length, reverse, Option, None, Some, Result, Ok, Err, get_or, nat_le, nat_eq, refl, sym, ap, arith, ◌∙◌, inl, inr, length-append, eq-eqb, subst}
use Rattle.std.proofs.lemmas.Bool.Decides.{nat_tests, eqb_tells}
use Rattle.std.proofs.lemmas.List.{reverse-append, length-reverse}
use Rattle.std.proofs.lemmas.Bool.{cases_lt}
use Rattle.std.specs.List.{AllByRecursion}
use Rattle.av_sigset.specs.Catalogue.{set_at, latest, IsFalling, may_publish, no_set, version_at, IsRising, IsKept}
use Rattle.av_sigset.specs.Set.{IsSet, NumberedSet}
use Rattle.av_sigset.specs.declared.fault.CatalogueFault.{CatalogueFault}
use Rattle.av_sigset.specs.declared.fault.CatalogueFault.TheVariants.{OldVersion, CatalogueFull}

-- where neither refusal holds
unless : Bool → Bool → Result (Unit {0}) CatalogueFault
unless x y = cond x (Err OldVersion) (cond y (Err CatalogueFull) (Ok tt))

neither : (x y : Bool) → unless x y ≡ Ok tt → (x ≡ false) × (y ≡ false)
unfolding unless
neither true y h = absurd cc
neither false true h = absurd cc
neither false false h = (refl, refl)

-- what may be published is above the last, and has room
pub may_parts : (sets : List NumberedSet) (v : ℕ) → may_publish sets v ≡ Ok tt → (latest sets < v) × (length sets < 4096)
unfolding unless
may_parts sets v may =
    let tests = neither (nat_le v (latest sets)) (nat_le 4096 (length sets)) may in
    let above : nat_le v (latest sets) ≡ false = tests.0 in
    let room : nat_le 4096 (length sets) ≡ false = tests.1 in
    (grind (arith, nat_tests), grind (arith, nat_tests))

-- all are below what is above the last
all_below : (sets : List NumberedSet) (u v : ℕ) → u < v → AllByRecursion (λ t. t.version < u) sets → AllByRecursion (λ t. t.version < v) sets
all_below [] u v lt all = tt
all_below (s ∷ sets) u v lt all = (omega (arith, all.0), all_below sets u v lt all.1)

above_all : (sets : List NumberedSet) (v : ℕ) → IsFalling sets → latest sets < v → AllByRecursion (λ t. t.version < v) sets
above_all [] v falling lt = tt
above_all (s ∷ sets) v falling lt = (lt, all_below sets s.version v lt falling.0)

-- what holds of the reversed holds of all
all_front : (P : NumberedSet → Type 0) (xs ys : List NumberedSet) → AllByRecursion P (xs ++ ys) → AllByRecursion P xs × AllByRecursion P ys
all_front P [] ys all = (tt, all)
all_front P (x ∷ xs) ys all = let rest = all_front P xs ys all.1 in ((all.0, rest.0), rest.1)

turned : (x : NumberedSet) (xs : List NumberedSet) → reverse (x ∷ xs) ≡ reverse xs ++ x ∷ []
turned x xs = reverse-append (x ∷ []) xs

all_turned : (P : NumberedSet → Type 0) (xs : List NumberedSet) → AllByRecursion P (reverse xs) → AllByRecursion P xs
all_turned P [] all = tt
all_turned P (x ∷ xs) all = let parts = all_front P (reverse xs) (x ∷ []) (rw (turned x xs) at all) in (parts.1.0, all_turned P xs parts.0)

below_at : (xs : List NumberedSet) (v i : ℕ) → AllByRecursion (λ t. t.version < v) xs → i < length xs → version_at xs i < v
below_at [] v i all lt = absurd (omega arith)
below_at (x ∷ xs) v zero all lt = all.0
below_at (x ∷ xs) v (suc i) all lt = below_at xs v i all.1 (omega arith)

-- the version of one more
at_before : (xs : List NumberedSet) (x : NumberedSet) (i : ℕ) → i < length xs → version_at (xs ++ x ∷ []) i ≡ version_at xs i
at_before [] x i lt = absurd (omega arith)
at_before (y ∷ xs) x zero lt = refl
at_before (y ∷ xs) x (suc i) lt = at_before xs x i (omega arith)

at_last : (xs : List NumberedSet) (x : NumberedSet) → version_at (xs ++ x ∷ []) (length xs) ≡ x.version
at_last [] x = refl
at_last (y ∷ xs) x = at_last xs x

-- a set that may be published keeps the order
pub kept_push : (sets : List NumberedSet) (s : NumberedSet) → IsKept sets → IsSet s → may_publish (reverse sets) s.version ≡ Ok tt → IsKept (sets ++ s ∷ [])
kept_push sets s kept is may =
    let parts = may_parts (reverse sets) s.version may in
    let all = above_all (reverse sets) s.version kept.falling parts.0 in
    let below : (i : ℕ) → i < length sets → version_at sets i < s.version = λ i lt. below_at sets s.version i (all_turned (λ t. t.version < s.version) sets all) lt in
    record {
      rising = λ i j lt within.
          let long : j < length sets + 1 = omega (arith, length-append sets (s ∷ [])) in
          elim (cases_lt j (length sets)) [
            | inl inside ↦ omega (arith, at_before sets s i (omega arith), at_before sets s j inside, kept.rising i j lt inside)
            | inr last ↦
                let here : j ≡ length sets = omega arith in
                let last_is : version_at (sets ++ s ∷ []) j ≡ s.version = rw here (at_last sets s) in
                omega (arith, at_before sets s i (omega arith), below i (omega arith), last_is)
          ];
      falling = subst IsFalling (sym (reverse-append sets (s ∷ []))) (all, kept.falling);
      each = subst (AllByRecursion IsSet) (sym (reverse-append sets (s ∷ []))) (is, kept.each);
      count = omega (arith, length-append sets (s ∷ []), length-reverse sets, parts.1);
    }

-- the set of a version among sets and others behind them
or_set : Option NumberedSet → Option NumberedSet → Option NumberedSet
or_set None o = o
or_set (Some s) o = Some s

set_at-append : (xs ys : List NumberedSet) (v : ℕ) → set_at (xs ++ ys) v ≡ or_set (set_at xs v) (set_at ys v)
unfolding set_at or_set
set_at-append [] ys v = refl
set_at-append (x ∷ xs) ys v = elim (nat_eq x.version v) as (λ b. cond b (Some x) (set_at (xs ++ ys) v) ≡ or_set (cond b (Some x) (set_at xs v)) (set_at ys v)) [ true ↦ refl | false ↦ set_at-append xs ys v ]

-- no set has the version
pub at_none : (sets : List NumberedSet) (v : ℕ) → ((i : ℕ) → i < length sets → version_at sets i ≡ v → ⊥) → set_at (reverse sets) v ≡ None
unfolding set_at or_set
at_none [] v none = refl
at_none (s ∷ sets) v none =
    let other : nat_eq s.version v ≡ false = elim (eqb_tells s.version v) [ inl p ↦ absurd (none 0 (omega arith) p.1) | inr p ↦ p.0 ] in
    rw (turned, set_at-append, at_none sets v (λ i lt. none (suc i) (omega arith)), other) refl

-- the set at a place has it
pub at_place : (sets : List NumberedSet) (v i : ℕ) → IsRising sets → i < length sets → version_at sets i ≡ v → set_at (reverse sets) v ≡ Some (get_or sets i no_set)
unfolding set_at or_set
at_place [] v i rising lt is = absurd (omega arith)
at_place (s ∷ sets) v zero rising lt is =
    let here : nat_eq s.version v ≡ true = eq-eqb _ _ is in
    rw (turned, set_at-append, at_none sets v (λ i within same. omega (arith, rising 0 (suc i) (omega arith) (omega arith), is, same)), here) refl
at_place (s ∷ sets) v (suc i) rising lt is =
    rw (turned, set_at-append, at_place sets v i (λ a b l w. rising (suc a) (suc b) (omega arith) (omega arith)) (omega arith) is) refl

-- within a list the default does not count
pub same_at : (sets : List NumberedSet) (i : ℕ) (d e : NumberedSet) → i < length sets → get_or sets i d ≡ get_or sets i e
same_at [] i d e lt = absurd (omega arith)
same_at (s ∷ sets) zero d e lt = refl
same_at (s ∷ sets) (suc i) d e lt = same_at sets i d e (omega arith)

-- what stands up to the middle is less
pub less_upto : (sets : List NumberedSet) (s : NumberedSet) (v middle i : ℕ) → IsRising sets → middle < length sets → s ≡ get_or sets middle s → s.version < v → i < middle + 1 → version_at sets i < v
less_upto sets s v middle i rising within is lt upto =
    let here : version_at sets middle ≡ s.version = ap (λ (t : NumberedSet). t.version) (same_at sets middle no_set s within ∙ sym is) in
    elim (cases_lt i middle) [
      | inl below ↦ omega (arith, rising i middle below within)
      | inr other ↦ let same : i ≡ middle = omega arith in rw same (omega arith)
    ]

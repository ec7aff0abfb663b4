-- Whoever stands before another does so until it comes to the front.
use Rattle.std.proofs.lemmas.Bool.Decides.{nat_tests}
use Rattle.std.proofs.Common.{arith, ◌≡◌, ℕ, true, false, List, [], ◌∷◌, ◌++◌, drop, length, ◌≤◌, nat_eq, subst, sym}
use Rattle.std.specs.List.{list_any}
use Rattle.std.specs.Set.{remove_key}
use Rattle.av_turns.specs.Budget.{Spend, spent}
use Rattle.av_turns.specs.declared.budget.Budget.{Budget}
use Rattle.av_turns.specs.Fair.{Does, Lead, Step, Turns, Leaves, Joins, Goes, is_before, is_front}

pub first : (m n : ℕ) (xs : List ℕ) → list_any (nat_eq m) xs ≡ true → list_any (nat_eq n) xs ≡ false → is_before m n (xs ++ n ∷ []) ≡ true
first m n [] here away = grind (arith, here)
first m n (x ∷ xs) here away = grind (arith, here, away, first m n xs)

pub behind : (m n k : ℕ) (xs : List ℕ) → is_before m n xs ≡ true → is_before m n (xs ++ k ∷ []) ≡ true
behind m n k [] h = grind (arith, h)
behind m n k (x ∷ xs) h = grind (arith, h, behind m n k xs)

pub without : (m n x : ℕ) (xs : List ℕ) → nat_eq m x ≡ false → is_before m n (x ∷ xs) ≡ true → is_before m n xs ≡ true
without m n x xs differs h = grind (arith, differs, h)

pub gone : (m n x : ℕ) (xs : List ℕ) → nat_eq m x ≡ false → is_before m n xs ≡ true → is_before m n (remove_key (nat_eq x) xs) ≡ true
gone m n x [] differs h = grind (arith, h)
gone m n x (y ∷ ys) differs h = grind (arith, nat_tests, differs, h, gone m n x ys)

pub step : (m n : ℕ) (s : Step) (old new : List ℕ) → Does s old new → is_front m s ≡ false → is_before m n old ≡ true → is_before m n new ≡ true
step m n (Turns x) old new does apart h =
    subst (λ r. is_before m n r ≡ true) (sym does.1) (behind m n x (drop 1 old) (without m n x (drop 1 old) apart (subst (λ r. is_before m n r ≡ true) does.0 h)))
step m n (Leaves x) old new does apart h =
    subst (λ r. is_before m n r ≡ true) (sym does.1) (without m n x (drop 1 old) apart (subst (λ r. is_before m n r ≡ true) does.0 h))
step m n (Joins x) old new does apart h = subst (λ r. is_before m n r ≡ true) (sym does) (behind m n x old h)
step m n (Goes x) old new does apart h = subst (λ r. is_before m n r ≡ true) (sym does) (gone m n x old apart h)

pub run : (m n : ℕ) (steps : List Step) (old new : List ℕ) → Lead steps old new → list_any (is_front m) steps ≡ false → is_before m n old ≡ true → is_before m n new ≡ true
run m n [] old new lead apart h = subst (λ r. is_before m n r ≡ true) (sym lead) h
run m n (s ∷ ss) old new lead apart h =
    run m n ss lead.0 new lead.2 (grind (arith, apart)) (step m n s old lead.0 lead.1 (grind (arith, apart)) h)

-- each thing that was parsed is one of those that may be
pub bounded : (things : List ℕ) (old new : Budget) → Spend things old new → length things ≤ old.asks
bounded [] old new h = grind (arith)
bounded (bytes ∷ rest) old new h =
    let left = bounded rest (spent bytes old) new h.1 in
    grind (arith, h.0, left)

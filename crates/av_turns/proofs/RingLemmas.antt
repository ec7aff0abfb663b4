-- Who stands in the ring.
use Rattle.std.proofs.Common.{arith, ◌+◌, ◌<◌, ◌∙◌, ap, add-one, drop-cons, get_or, take, length, ◌≡◌, ℕ, Bool, not, ◌||◌, ◌&&◌, true, false, List, [], ◌∷◌, ◌++◌, drop, nat_eq, sym}
use Rattle.std.specs.Set.{remove_key}
use Rattle.std.specs.List.{list_any}
use Rattle.std.proofs.lemmas.Bool.Decides.{nat_tests}
use Rattle.std.proofs.lemmas.List.Folds.{list_any-append}
use Rattle.av_turns.specs.Clients.{entered, is_once}

pub stands : (n m : ℕ) (ring : List ℕ) → list_any (nat_eq n) (ring ++ m ∷ []) ≡ (list_any (nat_eq n) ring || nat_eq n m)
stands n m ring = grind (arith, list_any-append (nat_eq n) ring (m ∷ []))

pub once_more : (m : ℕ) (ring : List ℕ) → is_once ring ≡ true → list_any (nat_eq m) ring ≡ false → is_once (ring ++ m ∷ []) ≡ true
once_more m [] once away = grind (arith, once)
once_more m (x ∷ xs) once away = grind (arith, nat_tests, once, away, once_more m xs, stands x m xs)

pub turned : (n : ℕ) (rest : List ℕ) → is_once (n ∷ rest) ≡ true → is_once (rest ++ n ∷ []) ≡ true
turned n rest once = once_more n rest (grind (arith, once)) (grind (arith, once))

pub stands_turned : (q n : ℕ) (rest : List ℕ) → list_any (nat_eq q) (rest ++ n ∷ []) ≡ list_any (nat_eq q) (n ∷ rest)
stands_turned q n rest = grind (arith, stands q n rest)

pub left_once : (n : ℕ) (rest : List ℕ) → is_once (n ∷ rest) ≡ true → is_once rest ≡ true
left_once n rest once = grind (arith, once)

pub left_gone : (n : ℕ) (rest : List ℕ) → is_once (n ∷ rest) ≡ true → list_any (nat_eq n) rest ≡ false
left_gone n rest once = grind (arith, once)

-- who is in the queue, once one more is behind the others
pub entered_any : (q n : ℕ) (was may : Bool) (ring : List ℕ) → list_any (nat_eq q) (entered was may n ring) ≡ (list_any (nat_eq q) ring || (nat_eq q n && (not was && may)))
entered_any q n true may ring = grind (arith)
entered_any q n false true ring = grind (arith, stands q n ring)
entered_any q n false false ring = grind (arith)

pub entered_once : (n : ℕ) (was may : Bool) (ring : List ℕ) → is_once ring ≡ true → list_any (nat_eq n) ring ≡ was → is_once (entered was may n ring) ≡ true
entered_once n true may ring once here = once
entered_once n false true ring once here = once_more n ring once here
entered_once n false false ring once here = once

-- who is in the queue without a number
pub removed_any : (q n : ℕ) (xs : List ℕ) → is_once xs ≡ true → list_any (nat_eq q) (remove_key (nat_eq n) xs) ≡ (list_any (nat_eq q) xs && not (nat_eq q n))
removed_any q n [] once = grind (arith)
removed_any q n (x ∷ xs) once = grind (arith, nat_tests, once, removed_any q n xs)

pub removed_once : (n : ℕ) (xs : List ℕ) → is_once xs ≡ true → is_once (remove_key (nat_eq n) xs) ≡ true
removed_once n [] once = grind (arith)
removed_once n (x ∷ xs) once = grind (arith, nat_tests, once, removed_once n xs, removed_any x n xs)

-- the first one that is found is taken out
pub removed_here : (n i d : ℕ) (xs : List ℕ) → i < length xs → get_or xs i d ≡ n → take i xs ++ remove_key (nat_eq n) (drop i xs) ≡ remove_key (nat_eq n) xs → take i xs ++ drop (i + 1) xs ≡ remove_key (nat_eq n) xs
removed_here n i d xs inside here so_far =
    let front : drop i xs ≡ get_or xs i d ∷ drop (i + 1) xs = rw add-one (drop-cons xs i d inside) in
    let gone : remove_key (nat_eq n) (drop i xs) ≡ drop (i + 1) xs = rw front (grind (arith, nat_tests, here)) in
    ap (λ l. take i xs ++ l) (sym gone) ∙ so_far

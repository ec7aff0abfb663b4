use Rattle.std.proofs.Common.{ℕ, ◌≡◌, ◌<◌, ◌≤◌, ◌+◌, ◌-◌, ◌*◌, ◌^◌, true, false, List, [], ◌∷◌, length, drop, get_or, suc, nat_lt, None, Some, arith, refl, sym, ap, drop-cons, cond, ◌&&◌}
use Rattle.std.proofs.lemmas.Grind.{common_steps}
use Rattle.std.specs.List.{list_all}
use Rattle.av_base.specs.Decimal.{value_from, is_digit, digits_of}

-- more digits make no smaller number
pub value_from-le : (n : ℕ) (bs : List ℕ) → n ≤ value_from n bs
value_from-le n [] = omega arith
value_from-le n (b ∷ bs) = omega (arith, value_from-le (n * 10 + (b - 48)) bs)

-- from here on the number is too large
pub too_large : (word : List ℕ) (i n : ℕ) → i < length word → value_from n (drop i word) ≡ value_from 0 word
    → 2 ^ 64 ≤ n * 10 + (get_or word i 0 - 48) → digits_of word ≡ None
too_large word i n lt so_far large =
    let next : value_from n (drop i word) ≡ value_from (n * 10 + (get_or word i 0 - 48)) (drop (suc i) word) = ap (value_from n) (drop-cons word i 0 lt) in
    let least = value_from-le (n * 10 + (get_or word i 0 - 48)) (drop (suc i) word) in
    let all : 2 ^ 64 ≤ value_from 0 word = omega (arith, next, least, so_far) in
    let over : nat_lt (value_from 0 word) (2 ^ 64) ≡ false = grind (arith, common_steps) in
    elim (list_all is_digit word) as (λ a. cond (a && nat_lt (value_from 0 word) (2 ^ 64)) (Some (value_from 0 word)) None ≡ None) [ true ↦ rw over refl | false ↦ refl ]

-- all are digits, and the number fits
pub whole : (word : List ℕ) (n : ℕ) → n ≡ value_from 0 word → n < 2 ^ 64 → list_all is_digit word ≡ true → digits_of word ≡ Some n
whole word n is lt all =
    let under : nat_lt (value_from 0 word) (2 ^ 64) ≡ true = grind (arith, common_steps) in
    rw (all, under) (ap Some (sym is))

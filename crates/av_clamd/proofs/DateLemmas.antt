-- The bytes of a date of HTTP in the order of clamd.
use Rattle.std.proofs.Common.{arith, ◌≡◌, ℕ, zero, suc, ◌+◌, ◌/◌, ◌%◌, ◌≤◌, List, [], ◌∷◌, ◌++◌, refl, slice_index_or}
use Rattle.std.specs.Prelude.{codes}
use Rattle.httpdate.specs.Text.{day_name, four_digits, imf_fixdate, month_name, time_of_day, two_digits}
use Rattle.httpdate.specs.declared.parts.Parts.{Parts}
use Rattle.av_clamd.specs.About.{date_text, day_text, spaced}

abbrev pub placed : List ℕ → List ℕ
placed t =
    let at : ℕ → ℕ = λ i. slice_index_or t i 0 in
    at 0 ∷ at 1 ∷ at 2 ∷ 32 ∷ at 8 ∷ at 9 ∷ at 10 ∷ 32 ∷ spaced (at 5) ∷ at 6 ∷ 32
    ∷ at 17 ∷ at 18 ∷ at 19 ∷ at 20 ∷ at 21 ∷ at 22 ∷ at 23 ∷ at 24 ∷ 32 ∷ at 12 ∷ at 13 ∷ at 14 ∷ at 15 ∷ []

-- what holds of each name of three letters
abbrev OfThree : (List ℕ → Type 0) → Type 0
OfThree P = (a b c : ℕ) → P (a ∷ b ∷ c ∷ [])

of_day : (P : List ℕ → Type 0) → OfThree P → (w : ℕ) → 1 ≤ w → w ≤ 7 → P (day_name w)
of_day P each zero low high = absurd (omega arith)
of_day P each (suc zero) low high = each 77 111 110
of_day P each (suc (suc zero)) low high = each 84 117 101
of_day P each (suc (suc (suc zero))) low high = each 87 101 100
of_day P each (suc (suc (suc (suc zero)))) low high = each 84 104 117
of_day P each (suc (suc (suc (suc (suc zero))))) low high = each 70 114 105
of_day P each (suc (suc (suc (suc (suc (suc zero)))))) low high = each 83 97 116
of_day P each (suc (suc (suc (suc (suc (suc (suc zero))))))) low high = each 83 117 110
of_day P each (suc (suc (suc (suc (suc (suc (suc (suc w)))))))) low high = absurd (omega arith)

of_month : (P : List ℕ → Type 0) → OfThree P → (m : ℕ) → 1 ≤ m → m ≤ 12 → P (month_name m)
of_month P each zero low high = absurd (omega arith)
of_month P each (suc zero) low high = each 74 97 110
of_month P each (suc (suc zero)) low high = each 70 101 98
of_month P each (suc (suc (suc zero))) low high = each 77 97 114
of_month P each (suc (suc (suc (suc zero)))) low high = each 65 112 114
of_month P each (suc (suc (suc (suc (suc zero))))) low high = each 77 97 121
of_month P each (suc (suc (suc (suc (suc (suc zero)))))) low high = each 74 117 110
of_month P each (suc (suc (suc (suc (suc (suc (suc zero))))))) low high = each 74 117 108
of_month P each (suc (suc (suc (suc (suc (suc (suc (suc zero)))))))) low high = each 65 117 103
of_month P each (suc (suc (suc (suc (suc (suc (suc (suc (suc zero))))))))) low high = each 83 101 112
of_month P each (suc (suc (suc (suc (suc (suc (suc (suc (suc (suc zero)))))))))) low high = each 79 99 116
of_month P each (suc (suc (suc (suc (suc (suc (suc (suc (suc (suc (suc zero))))))))))) low high = each 78 111 118
of_month P each (suc (suc (suc (suc (suc (suc (suc (suc (suc (suc (suc (suc zero)))))))))))) low high = each 68 101 99
of_month P each (suc (suc (suc (suc (suc (suc (suc (suc (suc (suc (suc (suc (suc m))))))))))))) low high = absurd (omega arith)

-- the date of HTTP, and that of clamd, with these names of the day and the month
abbrev fixdate : List ℕ → List ℕ → Parts → List ℕ
fixdate day month p =
    day ++ codes ", " ++ two_digits p.day ++ codes " " ++ month ++ codes " " ++ four_digits p.year ++ codes " " ++ time_of_day p ++ codes " GMT"

abbrev spoken : List ℕ → List ℕ → Parts → List ℕ
spoken day month p =
    day ++ codes " " ++ month ++ codes " " ++ day_text p.day ++ codes " " ++ time_of_day p ++ codes " " ++ four_digits p.year

abbrev IsPlaced : Parts → List ℕ → List ℕ → Type 0
IsPlaced p day month = placed (fixdate day month p) ≡ spoken day month p

placed_names : (p : Parts) (a b c d e f : ℕ) → IsPlaced p (a ∷ b ∷ c ∷ []) (d ∷ e ∷ f ∷ [])
placed_names p a b c d e f = refl

pub placed_date : (p : Parts) → 1 ≤ p.wday → p.wday ≤ 7 → 1 ≤ p.mon → p.mon ≤ 12 → placed (imf_fixdate p) ≡ date_text p
placed_date p low high from to =
    of_day (λ day. IsPlaced p day (month_name p.mon))
    (λ a b c. of_month (IsPlaced p (a ∷ b ∷ c ∷ [])) (placed_names p a b c) p.mon from to)
    p.wday low high

use Rattle.std.proofs.Common.{arith, ◌≡◌, ℕ, zero, suc, ◌+◌, ◌/◌, ◌%◌, ◌≤◌, List, [], ◌∷◌, refl, slice_index_or}
use Rattle.httpdate.specs.Text.{imf_fixdate}
use Rattle.httpdate.specs.declared.parts.Parts.{Parts}
use Rattle.av_log.specs.Stamp.{month_of, stamp_text}

-- the bytes of a date of HTTP, in the order of RFC 3339, with so many milliseconds
abbrev pub placed : List ℕ → ℕ → List ℕ
placed t millis =
    let at : ℕ → ℕ = λ i. slice_index_or t i 0 in
    let month = month_of (at 9) (at 10) in
    at 12 ∷ at 13 ∷ at 14 ∷ at 15 ∷ 45 ∷ slice_index_or month 0 0 ∷ slice_index_or month 1 0 ∷ 45 ∷ at 5 ∷ at 6 ∷ 84
    ∷ at 17 ∷ at 18 ∷ 58 ∷ at 20 ∷ at 21 ∷ 58 ∷ at 23 ∷ at 24 ∷ 46
    ∷ (48 + millis / 100) ∷ (48 + millis % 100 / 10) ∷ (48 + millis % 100 % 10) ∷ 90 ∷ []

-- of these numbers
abbrev dated : ℕ → ℕ → ℕ → ℕ → ℕ → ℕ → ℕ → Parts
dated w y m d h i s = record { wday = w; year = y; mon = m; day = d; hour = h; min = i; sec = s }

-- on a day of the week
abbrev On : ℕ → Type 0
On w = (y m d h i s millis : ℕ) → 1 ≤ m → m ≤ 12 → placed (imf_fixdate (dated w y m d h i s)) millis ≡ stamp_text (dated w y m d h i s) millis

on_1 : On 1
unfolding month_of
on_1 y zero d h i s millis low high = absurd (omega arith)
on_1 y (suc zero) d h i s millis low high = refl
on_1 y (suc (suc zero)) d h i s millis low high = refl
on_1 y (suc (suc (suc zero))) d h i s millis low high = refl
on_1 y (suc (suc (suc (suc zero)))) d h i s millis low high = refl
on_1 y (suc (suc (suc (suc (suc zero))))) d h i s millis low high = refl
on_1 y (suc (suc (suc (suc (suc (suc zero)))))) d h i s millis low high = refl
on_1 y (suc (suc (suc (suc (suc (suc (suc zero))))))) d h i s millis low high = refl
on_1 y (suc (suc (suc (suc (suc (suc (suc (suc zero)))))))) d h i s millis low high = refl
on_1 y (suc (suc (suc (suc (suc (suc (suc (suc (suc zero))))))))) d h i s millis low high = refl
on_1 y (suc (suc (suc (suc (suc (suc (suc (suc (suc (suc zero)))))))))) d h i s millis low high = refl
on_1 y (suc (suc (suc (suc (suc (suc (suc (suc (suc (suc (suc zero))))))))))) d h i s millis low high = refl
on_1 y (suc (suc (suc (suc (suc (suc (suc (suc (suc (suc (suc (suc zero)))))))))))) d h i s millis low high = refl
on_1 y (suc (suc (suc (suc (suc (suc (suc (suc (suc (suc (suc (suc (suc m))))))))))))) d h i s millis low high = absurd (omega arith)

on_2 : On 2
unfolding month_of
on_2 y zero d h i s millis low high = absurd (omega arith)
on_2 y (suc zero) d h i s millis low high = refl
on_2 y (suc (suc zero)) d h i s millis low high = refl
on_2 y (suc (suc (suc zero))) d h i s millis low high = refl
on_2 y (suc (suc (suc (suc zero)))) d h i s millis low high = refl
on_2 y (suc (suc (suc (suc (suc zero))))) d h i s millis low high = refl
on_2 y (suc (suc (suc (suc (suc (suc zero)))))) d h i s millis low high = refl
on_2 y (suc (suc (suc (suc (suc (suc (suc zero))))))) d h i s millis low high = refl
on_2 y (suc (suc (suc (suc (suc (suc (suc (suc zero)))))))) d h i s millis low high = refl
on_2 y (suc (suc (suc (suc (suc (suc (suc (suc (suc zero))))))))) d h i s millis low high = refl
on_2 y (suc (suc (suc (suc (suc (suc (suc (suc (suc (suc zero)))))))))) d h i s millis low high = refl
on_2 y (suc (suc (suc (suc (suc (suc (suc (suc (suc (suc (suc zero))))))))))) d h i s millis low high = refl
on_2 y (suc (suc (suc (suc (suc (suc (suc (suc (suc (suc (suc (suc zero)))))))))))) d h i s millis low high = refl
on_2 y (suc (suc (suc (suc (suc (suc (suc (suc (suc (suc (suc (suc (suc m))))))))))))) d h i s millis low high = absurd (omega arith)

on_3 : On 3
unfolding month_of
on_3 y zero d h i s millis low high = absurd (omega arith)
on_3 y (suc zero) d h i s millis low high = refl
on_3 y (suc (suc zero)) d h i s millis low high = refl
on_3 y (suc (suc (suc zero))) d h i s millis low high = refl
on_3 y (suc (suc (suc (suc zero)))) d h i s millis low high = refl
on_3 y (suc (suc (suc (suc (suc zero))))) d h i s millis low high = refl
on_3 y (suc (suc (suc (suc (suc (suc zero)))))) d h i s millis low high = refl
on_3 y (suc (suc (suc (suc (suc (suc (suc zero))))))) d h i s millis low high = refl
on_3 y (suc (suc (suc (suc (suc (suc (suc (suc zero)))))))) d h i s millis low high = refl
on_3 y (suc (suc (suc (suc (suc (suc (suc (suc (suc zero))))))))) d h i s millis low high = refl
on_3 y (suc (suc (suc (suc (suc (suc (suc (suc (suc (suc zero)))))))))) d h i s millis low high = refl
on_3 y (suc (suc (suc (suc (suc (suc (suc (suc (suc (suc (suc zero))))))))))) d h i s millis low high = refl
on_3 y (suc (suc (suc (suc (suc (suc (suc (suc (suc (suc (suc (suc zero)))))))))))) d h i s millis low high = refl
on_3 y (suc (suc (suc (suc (suc (suc (suc (suc (suc (suc (suc (suc (suc m))))))))))))) d h i s millis low high = absurd (omega arith)

on_4 : On 4
unfolding month_of
on_4 y zero d h i s millis low high = absurd (omega arith)
on_4 y (suc zero) d h i s millis low high = refl
on_4 y (suc (suc zero)) d h i s millis low high = refl
on_4 y (suc (suc (suc zero))) d h i s millis low high = refl
on_4 y (suc (suc (suc (suc zero)))) d h i s millis low high = refl
on_4 y (suc (suc (suc (suc (suc zero))))) d h i s millis low high = refl
on_4 y (suc (suc (suc (suc (suc (suc zero)))))) d h i s millis low high = refl
on_4 y (suc (suc (suc (suc (suc (suc (suc zero))))))) d h i s millis low high = refl
on_4 y (suc (suc (suc (suc (suc (suc (suc (suc zero)))))))) d h i s millis low high = refl
on_4 y (suc (suc (suc (suc (suc (suc (suc (suc (suc zero))))))))) d h i s millis low high = refl
on_4 y (suc (suc (suc (suc (suc (suc (suc (suc (suc (suc zero)))))))))) d h i s millis low high = refl
on_4 y (suc (suc (suc (suc (suc (suc (suc (suc (suc (suc (suc zero))))))))))) d h i s millis low high = refl
on_4 y (suc (suc (suc (suc (suc (suc (suc (suc (suc (suc (suc (suc zero)))))))))))) d h i s millis low high = refl
on_4 y (suc (suc (suc (suc (suc (suc (suc (suc (suc (suc (suc (suc (suc m))))))))))))) d h i s millis low high = absurd (omega arith)

on_5 : On 5
unfolding month_of
on_5 y zero d h i s millis low high = absurd (omega arith)
on_5 y (suc zero) d h i s millis low high = refl
on_5 y (suc (suc zero)) d h i s millis low high = refl
on_5 y (suc (suc (suc zero))) d h i s millis low high = refl
on_5 y (suc (suc (suc (suc zero)))) d h i s millis low high = refl
on_5 y (suc (suc (suc (suc (suc zero))))) d h i s millis low high = refl
on_5 y (suc (suc (suc (suc (suc (suc zero)))))) d h i s millis low high = refl
on_5 y (suc (suc (suc (suc (suc (suc (suc zero))))))) d h i s millis low high = refl
on_5 y (suc (suc (suc (suc (suc (suc (suc (suc zero)))))))) d h i s millis low high = refl
on_5 y (suc (suc (suc (suc (suc (suc (suc (suc (suc zero))))))))) d h i s millis low high = refl
on_5 y (suc (suc (suc (suc (suc (suc (suc (suc (suc (suc zero)))))))))) d h i s millis low high = refl
on_5 y (suc (suc (suc (suc (suc (suc (suc (suc (suc (suc (suc zero))))))))))) d h i s millis low high = refl
on_5 y (suc (suc (suc (suc (suc (suc (suc (suc (suc (suc (suc (suc zero)))))))))))) d h i s millis low high = refl
on_5 y (suc (suc (suc (suc (suc (suc (suc (suc (suc (suc (suc (suc (suc m))))))))))))) d h i s millis low high = absurd (omega arith)

on_6 : On 6
unfolding month_of
on_6 y zero d h i s millis low high = absurd (omega arith)
on_6 y (suc zero) d h i s millis low high = refl
on_6 y (suc (suc zero)) d h i s millis low high = refl
on_6 y (suc (suc (suc zero))) d h i s millis low high = refl
on_6 y (suc (suc (suc (suc zero)))) d h i s millis low high = refl
on_6 y (suc (suc (suc (suc (suc zero))))) d h i s millis low high = refl
on_6 y (suc (suc (suc (suc (suc (suc zero)))))) d h i s millis low high = refl
on_6 y (suc (suc (suc (suc (suc (suc (suc zero))))))) d h i s millis low high = refl
on_6 y (suc (suc (suc (suc (suc (suc (suc (suc zero)))))))) d h i s millis low high = refl
on_6 y (suc (suc (suc (suc (suc (suc (suc (suc (suc zero))))))))) d h i s millis low high = refl
on_6 y (suc (suc (suc (suc (suc (suc (suc (suc (suc (suc zero)))))))))) d h i s millis low high = refl
on_6 y (suc (suc (suc (suc (suc (suc (suc (suc (suc (suc (suc zero))))))))))) d h i s millis low high = refl
on_6 y (suc (suc (suc (suc (suc (suc (suc (suc (suc (suc (suc (suc zero)))))))))))) d h i s millis low high = refl
on_6 y (suc (suc (suc (suc (suc (suc (suc (suc (suc (suc (suc (suc (suc m))))))))))))) d h i s millis low high = absurd (omega arith)

on_7 : On 7
unfolding month_of
on_7 y zero d h i s millis low high = absurd (omega arith)
on_7 y (suc zero) d h i s millis low high = refl
on_7 y (suc (suc zero)) d h i s millis low high = refl
on_7 y (suc (suc (suc zero))) d h i s millis low high = refl
on_7 y (suc (suc (suc (suc zero)))) d h i s millis low high = refl
on_7 y (suc (suc (suc (suc (suc zero))))) d h i s millis low high = refl
on_7 y (suc (suc (suc (suc (suc (suc zero)))))) d h i s millis low high = refl
on_7 y (suc (suc (suc (suc (suc (suc (suc zero))))))) d h i s millis low high = refl
on_7 y (suc (suc (suc (suc (suc (suc (suc (suc zero)))))))) d h i s millis low high = refl
on_7 y (suc (suc (suc (suc (suc (suc (suc (suc (suc zero))))))))) d h i s millis low high = refl
on_7 y (suc (suc (suc (suc (suc (suc (suc (suc (suc (suc zero)))))))))) d h i s millis low high = refl
on_7 y (suc (suc (suc (suc (suc (suc (suc (suc (suc (suc (suc zero))))))))))) d h i s millis low high = refl
on_7 y (suc (suc (suc (suc (suc (suc (suc (suc (suc (suc (suc (suc zero)))))))))))) d h i s millis low high = refl
on_7 y (suc (suc (suc (suc (suc (suc (suc (suc (suc (suc (suc (suc (suc m))))))))))))) d h i s millis low high = absurd (omega arith)

on : (w : ℕ) → 1 ≤ w → w ≤ 7 → On w
on zero low high = absurd (omega arith)
on (suc zero) low high = on_1
on (suc (suc zero)) low high = on_2
on (suc (suc (suc zero))) low high = on_3
on (suc (suc (suc (suc zero)))) low high = on_4
on (suc (suc (suc (suc (suc zero))))) low high = on_5
on (suc (suc (suc (suc (suc (suc zero)))))) low high = on_6
on (suc (suc (suc (suc (suc (suc (suc zero))))))) low high = on_7
on (suc (suc (suc (suc (suc (suc (suc (suc w)))))))) low high = absurd (omega arith)

-- of a date
pub placed_date : (p : Parts) (millis : ℕ) → 1 ≤ p.wday → p.wday ≤ 7 → 1 ≤ p.mon → p.mon ≤ 12 → placed (imf_fixdate p) millis ≡ stamp_text p millis
placed_date p millis low high from to = on p.wday low high p.year p.mon p.day p.hour p.min p.sec millis from to

-- A time as RFC 3339 has it, in UTC with milliseconds: `2026-11-28T14:47:53.123Z`.
use Rattle.std.specs.Prelude.{ℕ, ◌≡◌, ◌/◌, ◌%◌, ◌+◌, ◌==◌, ◌++◌, ◌∷◌, List, codes, min, if◌then◌else◌}
use Rattle.httpdate.specs.Date.{unix_secs}
use Rattle.httpdate.specs.Text.{four_digits, time_of_day, two_digits}
use Rattle.httpdate.specs.declared.date.HttpDate.{HttpDate}
use Rattle.httpdate.specs.declared.parts.Parts.{Parts}

-- a number below 1000, in three digits
abbrev pub three_digits : ℕ → List ℕ
three_digits n = (48 + n / 100) ∷ two_digits (n % 100)

-- a date with so many milliseconds
abbrev pub stamp_text : Parts → ℕ → List ℕ
stamp_text p millis =
    four_digits p.year ++ codes "-" ++ two_digits p.mon ++ codes "-" ++ two_digits p.day ++ codes "T" ++ time_of_day p ++ codes "."
    ++ three_digits millis ++ codes "Z"

-- a time counted from 1970 in milliseconds; the last one of the year 9999 stands for all after it
abbrev pub IsStamp : ℕ → List ℕ → Type 0
IsStamp millis text =
    let told = min millis 253_402_300_799_999 in
    (d : HttpDate) × (unix_secs d ≡ told / 1000) × (text ≡ stamp_text d.parts (told % 1000))

-- the number of a month in two digits, by the last two letters of its first three
unfoldable pub month_of : ℕ → ℕ → List ℕ
month_of second third =
    if second == 97 then (if third == 110 then codes "01" else (if third == 114 then codes "03" else codes "05")) else
    (if second == 101 then (if third == 98 then codes "02" else (if third == 112 then codes "09" else codes "12")) else
    (if second == 112 then codes "04" else
    (if second == 117 then (if third == 110 then codes "06" else (if third == 108 then codes "07" else codes "08")) else
    (if second == 99 then codes "10" else
    (if second == 111 then codes "11" else codes "12")))))

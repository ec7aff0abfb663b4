-- A name as a line of words has it: as it is, or in double quotes with escapes as in C, so that no name makes a line of its own.
use Rattle.std.specs.Prelude.{ℕ, ◌≤◌, ◌+◌, ◌/◌, ◌%◌, ◌==◌, ◌||◌, ◌&&◌, ◌++◌, Bool, false, if◌then◌else◌, List, [], ◌∷◌, nat_lt}
use Rattle.std.specs.List.{AllByRecursion}

-- the first byte of what is left, 0 at the end
abbrev pub first_of : List ℕ → ℕ
first_of [] = 0
first_of (b ∷ bytes) = b

-- the second byte of a character from U+0080 to U+009F, of which the first is 194
abbrev pub is_late : ℕ → Bool
is_late b = nat_lt 127 b && nat_lt b 160

-- a byte is of a control character, by the bytes on its two sides: below 32, 127, or one of the two of U+0080 to U+009F
abbrev pub is_control : ℕ → ℕ → ℕ → Bool
is_control before b next = nat_lt b 32 || ((b == 127) || (((b == 194) && is_late next) || ((before == 194) && is_late b)))

-- some byte is, behind this one
abbrev pub has_control : ℕ → List ℕ → Bool
has_control before [] = false
has_control before (b ∷ bytes) = is_control before b (first_of bytes) || has_control b bytes

-- a byte as a backslash and three octal digits
abbrev pub octal : ℕ → List ℕ
octal b = 92 ∷ (48 + b / 64) ∷ (48 + (b / 8) % 8) ∷ (48 + b % 8) ∷ []

-- a byte of a control character: as a backslash and a letter where C has one (\a \b \t \n \v \f \r), else in octal
abbrev pub escape : ℕ → List ℕ
escape b =
    if b == 7 then 92 ∷ 97 ∷ [] else
    (if b == 8 then 92 ∷ 98 ∷ [] else
    (if b == 9 then 92 ∷ 116 ∷ [] else
    (if b == 10 then 92 ∷ 110 ∷ [] else
    (if b == 11 then 92 ∷ 118 ∷ [] else
    (if b == 12 then 92 ∷ 102 ∷ [] else
    (if b == 13 then 92 ∷ 114 ∷ [] else octal b))))))

-- a byte between quotes: a quote and a backslash have a backslash in front
abbrev pub escaped_byte : ℕ → ℕ → ℕ → List ℕ
escaped_byte before b next =
    if is_control before b next then escape b else
    (if (b == 34) || (b == 92) then 92 ∷ b ∷ [] else b ∷ [])

-- bytes between quotes, behind this one
abbrev pub escaped : ℕ → List ℕ → List ℕ
escaped before [] = []
escaped before (b ∷ bytes) = escaped_byte before b (first_of bytes) ++ escaped b bytes

-- a name stands in quotes: it has a control character, or begins with a quote
abbrev pub is_quoted : List ℕ → Bool
is_quoted name = has_control 0 name || (first_of name == 34)

-- a name in a line of words
abbrev pub quoted : List ℕ → List ℕ
quoted name = if is_quoted name then 34 ∷ (escaped 0 name ++ 34 ∷ []) else name

-- no byte is a control character's of one byte, so none ends a line
abbrev pub IsOneLine : List ℕ → Type 0
IsOneLine bytes = AllByRecursion (λ b. 32 ≤ b) bytes

-- Text as a line shows it. A terminal or an editor acts on some characters instead of showing them. Those are hidden, and a line has
-- the escape of each.
use Rattle.std.specs.Prelude.{ℕ, zero, suc, ◌≡◌, ◌+◌, ◌-◌, ◌*◌, ◌/◌, ◌%◌, ◌==◌, ◌||◌, ◌&&◌, ◌++◌, Bool, true, if◌then◌else◌, List, [], ◌∷◌, Option, Some, None, drop, get_or, nat_lt}
use Rattle.std.specs.Char.{digit_char, encode_utf8, len_utf8}
use Rattle.std.specs.Int.{is_in_range}

-- DEL and the controls after it, and the marks that turn the direction of a text
abbrev pub is_hidden : ℕ → Bool
is_hidden c =
    is_in_range 0x7f 0x9f c
    || ((c == 0x61c) || (is_in_range 0x200e 0x200f c || (is_in_range 0x202a 0x202e c || is_in_range 0x2066 0x2069 c)))

-- a byte that goes on with a character in UTF-8
abbrev pub goes_on : ℕ → Bool
goes_on b = is_in_range 0x80 0xbf b

-- The character that three bytes begin with in UTF-8. Characters of four bytes, and those that begin with E0, are left out: none is
-- hidden.
unfoldable pub front_char : ℕ → ℕ → ℕ → Option ℕ
front_char a b c =
    if nat_lt a 0x80 then Some a else
    (if is_in_range 0xc2 0xdf a && goes_on b then Some ((a - 0xc0) * 64 + (b - 0x80)) else
    (if is_in_range 0xe1 0xef a && (goes_on b && goes_on c) then Some ((a - 0xe0) * 4096 + (b - 0x80) * 64 + (c - 0x80)) else None))

-- a character, if it is hidden
abbrev pub if_hidden : Option ℕ → Option ℕ
if_hidden None = None
if_hidden (Some c) = if is_hidden c then Some c else None

-- the hidden character that a text begins with
unfoldable pub hidden_front : List ℕ → Option ℕ
hidden_front text = if_hidden (front_char (get_or text 0 0) (get_or text 1 0) (get_or text 2 0))

-- a text begins with a hidden character in UTF-8
abbrev pub BeginsHidden : ℕ → List ℕ → Type 0
BeginsHidden c text = (is_hidden c ≡ true) × ((rest : List ℕ) × (text ≡ encode_utf8 c ++ rest))

-- no hidden character begins anywhere in a text
abbrev pub HasNothingHidden : List ℕ → Type 0
HasNothingHidden text = (at c : ℕ) → ¬ (BeginsHidden c (drop at text))

-- a backslash, `u` and a character's number in four hexadecimal digits, in lower case
unfoldable pub unicode_escape : ℕ → List ℕ
unicode_escape c = 92 ∷ 117 ∷ digit_char (c / 4096) ∷ digit_char (c / 256 % 16) ∷ digit_char (c / 16 % 16) ∷ digit_char (c % 16) ∷ []

-- the escape of the hidden character that a text begins with, or its first byte; then what comes after
abbrev pub shown_front : Option ℕ → ℕ → (ℕ → List ℕ) → List ℕ
shown_front None b after = b ∷ after 0
shown_front (Some c) b after = unicode_escape c ++ after (len_utf8 c - 1)

-- a text as it is shown, without the first bytes, as many as are left of a character that stands as an escape
unfoldable pub shown_after : ℕ → List ℕ → List ℕ
shown_after left [] = []
shown_after (suc left) (b ∷ text) = shown_after left text
shown_after zero (b ∷ text) = shown_front (hidden_front (b ∷ text)) b (λ left. shown_after left text)

-- a text with the escapes of its hidden characters
abbrev pub shown : List ℕ → List ℕ
shown text = shown_after 0 text

-- what stood before a line, as it is shown
abbrev pub shown_before : List ℕ → List ℕ
shown_before [] = []
shown_before (b ∷ before) = shown (b ∷ before)

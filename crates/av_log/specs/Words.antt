-- A line of words: named words, numbers and bytes, one after the other.
use Rattle.std.specs.Prelude.{ℕ, true, ◌≡◌, ◌/◌, ◌%◌, ◌==◌, ◌||◌, ◌&&◌, ◌++◌, Bool, not, nat_le, if◌then◌else◌, List, [], ◌∷◌, codes, decimal}
use Rattle.std.specs.Char.{digit_char}
use Rattle.std.specs.List.{AllByRecursion}
use Rattle.av_log.specs.declared.field.Field.{Field}
use Rattle.av_log.specs.declared.field.Field.TheVariants as field

-- what is said in a line: a word of our own, a number, or bytes of others, which have another name where they are no text
pub data Item : Type 0 where
  Word : (name text : List ℕ) → Item
  Number : (name : List ℕ) (n : ℕ) → Item
  Bytes : (name digits text : List ℕ) → Item

abbrev pub item_of : Field → Item
item_of (field.Word name text) = Word name.now text.now
item_of (field.Number name n) = Number name.now n
item_of (field.Bytes name digits text) = Bytes name.now digits.now text.now

-- a byte that is shown as it is: a visible character of ASCII or a space, and neither a quote nor a backslash
abbrev pub is_plain : ℕ → Bool
is_plain b = nat_le 32 b && nat_le b 126 && not ((b == 34) || (b == 92))

-- any other byte is a backslash, `x` and two hexadecimal digits
abbrev pub escaped_byte : ℕ → List ℕ
escaped_byte b = if is_plain b then b ∷ [] else 92 ∷ 120 ∷ digit_char (b / 16 % 16) ∷ digit_char (b % 16) ∷ []

abbrev pub escaped : List ℕ → List ℕ
escaped [] = []
escaped (b ∷ bytes) = escaped_byte b ++ escaped bytes

-- an item: its name, an equals sign, and the word, the digits, or the bytes in quotes
abbrev pub item_text : Item → List ℕ
item_text (Word name text) = name ++ codes "=" ++ text
item_text (Number name n) = name ++ codes "=" ++ decimal n
item_text (Bytes name digits text) = name ++ codes "=\"" ++ escaped text ++ codes "\""

-- items, each behind a space
abbrev pub items_text : List Item → List ℕ
items_text [] = []
items_text (i ∷ items) = 32 ∷ (item_text i ++ items_text items)

-- the line of some items: the time in front, and a line feed at the end
abbrev pub words_line : List ℕ → List Item → List ℕ
words_line stamp items = codes "time=" ++ stamp ++ items_text items ++ 10 ∷ []

-- a byte that no terminal acts on, and that ends no line
abbrev pub is_visible : ℕ → Bool
is_visible b = nat_le 32 b && nat_le b 126

-- a byte that can stand between quotes: it ends neither them nor the line
abbrev pub is_kept_in : ℕ → Bool
is_kept_in b = is_visible b && not (b == 34)

-- bytes that others chose end neither their quotes nor the line, whatever they are
abbrev pub BytesForgeNothing : Type 0
BytesForgeNothing = (bytes : List ℕ) → AllByRecursion (λ b. is_kept_in b ≡ true) (escaped bytes)

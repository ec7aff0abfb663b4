-- The bytes of a script and of a title as XML has them, and as a reader sees them.
use Rattle.std.specs.Prelude.{ℕ, ◌==◌, ◌-◌, ◌≡◌, Bool, true, not, ◌&&◌, nat_le, nat_lt, List, [], ◌∷◌, ◌++◌, map, take, length, codes, if◌then◌else◌}
use Rattle.hex.specs.Hex.{IsBytes}
use Rattle.av_base.specs.Part.{digits_of, spelt}

-- from the blank to the tilde
abbrev pub is_printable : ℕ → Bool
is_printable b = nat_le 32 b && nat_le b 126

-- a byte as a reader sees it
abbrev pub printed_byte : ℕ → List ℕ
printed_byte b = if is_printable b then b ∷ [] else codes "\\x" ++ digits_of b

-- bytes as a reader sees them
abbrev pub printed : List ℕ → List ℕ
printed bs = spelt (map printed_byte bs)

-- a byte as the text of an element has it
abbrev pub escaped_byte : ℕ → List ℕ
escaped_byte b =
    if b == 38 then codes "&amp;"
    else if b == 60 then codes "&lt;" else if b == 62 then codes "&gt;" else if b == 34 then codes "&quot;" else printed_byte b

-- bytes as the text of an element has them
abbrev pub escaped : List ℕ → List ℕ
escaped bs = spelt (map escaped_byte bs)

-- at most so many characters of a text, the last two of which are dots where it is longer
abbrev pub short : ℕ → List ℕ → List ℕ
short most text = if nat_lt most (length text) then take (most - 2) text ++ codes ".." else text

-- a byte that stands for itself in the text of an element
abbrev pub is_plain : ℕ → Bool
is_plain b = is_printable b && not (b == 34) && not (b == 38) && not (b == 60) && not (b == 62)

-- what the text of an element may be: bytes that stand for themselves, and the entities of the four signs
pub data IsXml : List ℕ → Type 0 where
  nothing : IsXml []
  plain : (b : ℕ) (t : List ℕ) → is_plain b ≡ true → IsXml t → IsXml (b ∷ t)
  ampersand : (t : List ℕ) → IsXml t → IsXml (codes "&amp;" ++ t)
  less : (t : List ℕ) → IsXml t → IsXml (codes "&lt;" ++ t)
  greater : (t : List ℕ) → IsXml t → IsXml (codes "&gt;" ++ t)
  quote : (t : List ℕ) → IsXml t → IsXml (codes "&quot;" ++ t)

-- bytes that were escaped are the text of an element
abbrev pub EscapesAll : Type 0
EscapesAll = (bs : List ℕ) → IsBytes bs → IsXml (escaped bs)

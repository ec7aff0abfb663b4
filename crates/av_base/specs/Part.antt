use Rattle.std.specs.Prelude.{ℕ, List, [], ◌∷◌, ◌++◌, decimal}
use Rattle.av_base.specs.declared.parts.Part.{Part}
use Rattle.av_base.specs.declared.parts.Part.TheVariants.{Text, Number, Hexadecimal}
use Rattle.hex.specs.Hex.{encode_lower}

-- the text of a part
abbrev pub part_text : Part → List ℕ
part_text (Text text) = text.now
part_text (Number n) = decimal n
part_text (Hexadecimal bytes) = encode_lower bytes.now

-- the two digits of a byte
abbrev pub digits_of : ℕ → List ℕ
digits_of byte = encode_lower (byte ∷ [])

-- texts one behind the other
abbrev pub spelt : List (List ℕ) → List ℕ
spelt [] = []
spelt (t ∷ ts) = t ++ spelt ts

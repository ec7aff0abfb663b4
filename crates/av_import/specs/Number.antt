-- Numbers of fields.
use Rattle.std.specs.Prelude.{ℕ, ◌==◌, nat_le, List, [], ◌∷◌, length, Option, None, if◌then◌else◌}
use Rattle.av_base.specs.Decimal.{decimal_of}
use Rattle.av_import.specs.declared.number.TheConstants.{MAX_DIGITS}

-- a word without the zeros in front of its last sign
unfoldable pub without_zeros : List ℕ → List ℕ
without_zeros [] = []
without_zeros (b ∷ []) = b ∷ []
without_zeros (b ∷ c ∷ bs) = if b == 48 then without_zeros (c ∷ bs) else b ∷ c ∷ bs

-- the number of 1 to 19 digits
abbrev pub number_of : List ℕ → Option ℕ
number_of word = if nat_le (length word) MAX_DIGITS then decimal_of (without_zeros word) else None

-- The file that keeps the greatest version that a guard believed.
use Rattle.std.specs.Prelude.{ℕ, ◌≡◌, ◌++◌, codes, max, List, Option, None, Some}
use Rattle.av_base.specs.Decimal.{decimal_of}

-- a line says a version: the word, its digits and an end of line
pub record SaysVersion (line : List ℕ) (version : ℕ) : Type 0 where
  pub digits : List ℕ
  pub spelled : line ≡ codes "version " ++ digits ++ codes "\n"
  pub number : decimal_of digits ≡ Some version

-- the version that is kept once one was believed: the greater one, where there is a file
abbrev pub kept_after : {A : Type 0} → Option A → ℕ → ℕ → ℕ
kept_after None kept version = kept
kept_after (Some path) kept version = max kept version

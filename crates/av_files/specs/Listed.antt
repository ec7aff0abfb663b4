-- A list of names as a text.
use Rattle.std.specs.Prelude.{ℕ, ◌≡◌, ◌≢◌, ◌++◌, Bool, false, true, if◌then◌else◌, List, [], ◌∷◌}
use Rattle.std.specs.List.{AllByRecursion, filter, join_with_byte}
use Rattle.std.specs.Str.{is_utf8}
use Rattle.av_status.specs.Tally.{with_missed}
use Rattle.av_status.specs.declared.status.Status.TheVariants.{Refused}
use Rattle.av_status.specs.declared.tally.Tally.{Tally}

-- no byte is this one
abbrev pub HasNo : ℕ → List ℕ → Type 0
HasNo end bytes = AllByRecursion (λ b. b ≢ end) bytes

-- a name has a byte
abbrev pub is_name : List ℕ → Bool
is_name [] = false
is_name (b ∷ bytes) = true

-- a text is pieces with a byte between them that none of them has, and the names are those that are not empty
pub record IsListOf (end : ℕ) (text : List ℕ) (names : List (List ℕ)) : Type 0 where
  pub pieces : List (List ℕ)
  pub joined : join_with_byte end pieces ≡ text
  pub apart : AllByRecursion (HasNo end) pieces
  pub named : names ≡ filter is_name pieces

-- each name that is no text is a file that was missed
abbrev pub with_bad_names : Tally → List (List ℕ) → Tally
with_bad_names t [] = t
with_bad_names t (name ∷ names) = with_bad_names (if is_utf8 name then t else with_missed t Refused) names

-- the names are those that were given, and behind them those of a list that are text; the others are counted
pub record AreGivenAndListed (end : ℕ) (text : List ℕ) (given names : List (List ℕ)) (old new : Tally) : Type 0 where
  pub listed : List (List ℕ)
  pub of_text : IsListOf end text listed
  pub all : names ≡ given ++ filter is_utf8 listed
  pub counted : new ≡ with_bad_names old listed

-- At which places of a piece no pattern begins, and what shows it without a walk over each byte.
use Rattle.std.specs.Prelude.{ℕ, ◌≡◌, ◌+◌, ◌<◌, ◌≤◌, ◌⊎◌, List, Option, Some, length, take, drop, slice_index}
use Rattle.memchr.specs.Pairs.{HasPair}
use Rattle.av_match.specs.Reach.{reach}
use Rattle.av_match.specs.Shifts.{shift_at}
use Rattle.av_match.specs.declared.cells.Reached.TheVariants.{Through}
use Rattle.av_match.specs.declared.rare.RareBytes.{RareBytes}
use Rattle.av_match.specs.declared.tables.Tables.{Tables}

-- a window is moved over the place
pub record IsOver (shifts : List ℕ) (m : ℕ) (w : List ℕ) (i : ℕ) : Type 0 where
  pub start : ℕ
  pub from : start ≤ i
  pub past : i < start + shift_at shifts m w start
  pub room : start + m ≤ length w

-- a walk from the place gives nothing out, and comes to a word that begins after it
pub record IsWalked (cells outputs depths w : List ℕ) (i : ℕ) : Type 0 where
  pub count : ℕ
  pub state : ℕ
  pub room : i + count ≤ length w
  pub through : reach cells outputs 0 0 (take count (drop i w)) ≡ Through state
  pub short : slice_index depths state < count

-- the rare bytes that each pattern has are not both where a pattern that begins at the place would have them
pub record IsMissed (rare : Option RareBytes) (w : List ℕ) (i : ℕ) : Type 0 where
  pub bytes : RareBytes
  pub one : rare ≡ Some bytes
  pub room : i + bytes.reach < length w
  pub other : HasPair bytes.finder w i → ⊥

-- the place is passed, by a window, by a walk, or since bytes are missing
abbrev pub IsPassed : Tables → List ℕ → ℕ → Type 0
IsPassed t w i =
    IsOver t.shifts.now t.window w i ⊎ (IsWalked t.cells.now t.outputs.now t.depths.now w i ⊎ IsMissed t.rare w i)

-- windows are moved over each place from lo to hi
abbrev pub AreOver : Tables → List ℕ → ℕ → ℕ → Type 0
AreOver t w lo hi = (i : ℕ) → lo ≤ i → i < hi → IsOver t.shifts.now t.window w i

-- each place from lo to hi is passed
abbrev pub ArePassed : Tables → List ℕ → ℕ → ℕ → Type 0
ArePassed t w lo hi = (i : ℕ) → lo ≤ i → i < hi → IsPassed t w i

-- Where in a stream of frames one stands, and since when a frame is waited for. A frame is its body's length in four bytes, the
-- highest first, and then so many bytes.
use Rattle.std.specs.Prelude.{ℕ, ◌+◌, ◌-◌, ◌==◌, ◌||◌, Bool, false, not, nat_lt, if◌then◌else◌, List, [], ◌∷◌, ◌++◌, length, Option, None, Some, is_none}
use Rattle.std.specs.Int.{w32, from_be_bytes}
use Rattle.std.specs.declared.time.Duration.{Duration}

-- the bytes of a length that came so far, and how many bytes of a body are still to come
pub record Standing : Type 0 where
  pub begun : List ℕ
  pub left : ℕ

-- in front of the first frame
abbrev pub start : Standing
start = record { begun = []; left = 0 }

-- a frame has begun that is not whole
abbrev pub is_within : Standing → Bool
is_within s = nat_lt 0 (length s.begun) || nat_lt 0 s.left

-- a length is whole: its body follows, unless it has no bytes, which makes the frame whole
abbrev pub sized : ℕ → Standing × Bool
sized size = (record { begun = []; left = size }, size == 0)

-- a byte of a length, and whether a frame is whole with it
abbrev pub in_length : ℕ → Standing → Standing × Bool
in_length b s =
    if nat_lt (length s.begun + 1) 4
    then (record s { begun = s.begun ++ b ∷ [] }, false)
    else sized (from_be_bytes w32 (s.begun ++ b ∷ []))

-- so many bytes of a body, and whether a frame is whole with them
abbrev pub in_body : ℕ → Standing → Standing × Bool
in_body count s = (record s { left = s.left - count }, s.left - count == 0)

-- a byte, and whether a frame is whole with it
abbrev pub stepped : ℕ → Standing → Standing × Bool
stepped b s = if nat_lt 0 s.left then in_body 1 s else in_length b s

-- a frame was whole before, or is it behind
abbrev pub behind : Bool → Standing × Bool → Standing × Bool
behind whole passed = (passed.0, whole || passed.1)

-- bytes, one after another, and whether a frame became whole with one of them
abbrev pub passed : List ℕ → Standing → Standing × Bool
passed [] s = (s, false)
passed (b ∷ bs) s = behind (stepped b s).1 (passed bs (stepped b s).0)

-- where one stands, and since when a frame is waited for, if one is
pub record Arrival : Type 0 where
  pub place : Standing
  pub since : Option Duration

-- since when a frame is waited for behind bytes that came now: for none behind a whole one, for one that has begun since its
-- first byte, and for the first one as before
abbrev pub since_of : Option Duration → Duration → Standing × Bool → Option Duration
since_of since now (place, whole) =
    if not (is_within place) then (if whole then None else since) else
    (if whole || is_none since then Some now else since)

-- bytes come
abbrev pub passed_at : Duration → List ℕ → Arrival → Arrival
passed_at now bytes a = record { place = (passed bytes a.place).0; since = since_of a.since now (passed bytes a.place) }

-- no frame is waited for that has not begun
abbrev pub rested : Arrival → Arrival
rested a = if is_within a.place then a else record a { since = None }

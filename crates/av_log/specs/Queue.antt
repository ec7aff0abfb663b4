-- The lines that wait to be written, and how many were dropped.
use Rattle.std.specs.Prelude.{ℕ, suc, ◌+◌, ◌==◌, Bool, false, not, min, nat_le, if◌then◌else◌, List, [], ◌∷◌, ◌++◌, length, take, drop}

-- the bytes that wait, at most so many, how many lines were dropped and not told of, and whether a part of the first line has gone out
pub record Lines : Type 0 where
  pub waiting : List ℕ
  pub most : ℕ
  pub dropped : ℕ
  pub is_begun : Bool

-- so many lines more were dropped
abbrev pub dropping : ℕ → Lines → Lines
dropping count q = record q { dropped = min (q.dropped + count) 18_446_744_073_709_551_615 }

-- a line comes: it waits behind the others where there is room for all of it, and else is dropped
abbrev pub has_room : List ℕ → Lines → Bool
has_room line q = nat_le (length q.waiting + length line) q.most

abbrev pub put_of : List ℕ → Lines → Lines
put_of line q = if has_room line q then record q { waiting = q.waiting ++ line } else dropping 1 q

-- how many lines end in some bytes
abbrev pub ends_in : List ℕ → ℕ
ends_in [] = 0
ends_in (b ∷ bytes) = if b == 10 then suc (ends_in bytes) else ends_in bytes

-- after some bytes a line has begun and not ended; where there are none it is as before
abbrev pub begun_after : Bool → List ℕ → Bool
begun_after before [] = before
begun_after before (b ∷ bytes) = begun_after (not (b == 10)) bytes

-- so many bytes have gone out
abbrev pub gone_of : ℕ → Lines → Lines
gone_of count q = record q { waiting = drop count q.waiting; is_begun = begun_after q.is_begun (take count q.waiting) }

-- all that waits is dropped
abbrev pub dropped_all : Lines → Lines
dropped_all q = dropping (ends_in q.waiting) (record q { waiting = []; is_begun = false })

-- what follows the first line
abbrev pub behind_line : List ℕ → List ℕ
behind_line [] = []
behind_line (b ∷ bytes) = if b == 10 then bytes else behind_line bytes

-- a line of which a part has gone out is dropped
abbrev pub whole_of : Lines → Lines
whole_of q = if q.is_begun then dropping 1 (record q { waiting = behind_line q.waiting; is_begun = false }) else q

-- how many were dropped is told once nothing waits
abbrev pub is_told : Lines → Bool
is_told q = length q.waiting == 0

abbrev pub told_of : Lines → Lines
told_of q = if is_told q then record q { dropped = 0 } else q

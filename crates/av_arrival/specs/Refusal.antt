-- What a guard says to who is turned away.
use Rattle.std.specs.Prelude.{ℕ, ◌≡◌, ◌<◌, ◌^◌, ◌==◌, ◌&&◌, List, [], ◌∷◌, length, take, drop, slice_index, Option, None, Some, if◌then◌else◌}
use Rattle.std.specs.Int.{w64, to_be_bytes, from_be_bytes}
use Rattle.std.specs.Str.{bytes_eq}
use Rattle.av_arrival.specs.declared.refusal.TurnedAway.{TurnedAway}
use Rattle.av_arrival.specs.declared.refusal.TurnedAway.TheVariants.{Older, Above, Full, OtherSocket}

-- a number in eight bytes, the highest first
unfoldable pub field8 : ℕ → List ℕ
field8 n = to_be_bytes w64 n

-- the number of a reason
abbrev pub reason_of : TurnedAway → ℕ
reason_of (Older floor) = 1
reason_of (Above most) = 2
reason_of Full = 3
reason_of OtherSocket = 4

-- the version of a reason, or 0
abbrev pub version_of : TurnedAway → ℕ
version_of (Older floor) = floor
version_of (Above most) = most
version_of Full = 0
version_of OtherSocket = 0

-- the reason of a number
abbrev pub told_in : ℕ → ℕ → Option TurnedAway
told_in reason version =
    if reason == 1 then Some (Older version) else
    (if reason == 2 then Some (Above version) else
    (if reason == 3 then Some Full else (if reason == 4 then Some OtherSocket else None)))

-- the length of the body, its kind, the reason and the version
abbrev pub refusal_frame : TurnedAway → List ℕ
refusal_frame why = 0 ∷ 0 ∷ 0 ∷ 10 ∷ 255 ∷ reason_of why ∷ field8 (version_of why)

-- what such a frame says
unfoldable pub refusal_of : List ℕ → Option TurnedAway
refusal_of bytes =
    if length bytes == 14 && bytes_eq (take 5 bytes) (0 ∷ 0 ∷ 0 ∷ 10 ∷ 255 ∷ [])
    then told_in (slice_index bytes 5) (from_be_bytes w64 (take 8 (drop 6 bytes))) else None

-- a refusal that is spelled is read
abbrev pub IsReadBack : Type 0
IsReadBack = (why : TurnedAway) → version_of why < 2 ^ 64 → refusal_of (refusal_frame why) ≡ Some why

-- What holds of the lines of a log, whatever comes and however much of them goes out at a time.
use Rattle.std.specs.Prelude.{ℕ, ◌≡◌, ◌+◌, ◌≤◌, if◌then◌else◌, List, [], ◌∷◌, ◌++◌, take}
use Rattle.av_log.specs.Queue.{Lines, gone_of, has_room, put_of}

-- a line comes, or so many bytes go out
pub data Move : Type 0 where
  Put : (line : List ℕ) → Move
  Gone : (count : ℕ) → Move

abbrev pub moved : Move → Lines → Lines
moved (Put line) q = put_of line q
moved (Gone count) q = gone_of count q

-- what is there after some moves
abbrev pub after : List Move → Lines → Lines
after [] q = q
after (m ∷ ms) q = after ms (moved m q)

-- the bytes that a move gives out, the lines that it keeps, and how many it drops
abbrev pub given : Move → Lines → List ℕ
given (Put line) q = []
given (Gone count) q = take count q.waiting

abbrev pub kept : Move → Lines → List ℕ
kept (Put line) q = if has_room line q then line else []
kept (Gone count) q = []

abbrev pub lost : Move → Lines → ℕ
lost (Put line) q = if has_room line q then 0 else 1
lost (Gone count) q = 0

-- the same of some moves, one after the other
abbrev pub all_given : List Move → Lines → List ℕ
all_given [] q = []
all_given (m ∷ ms) q = given m q ++ all_given ms (moved m q)

abbrev pub all_kept : List Move → Lines → List ℕ
all_kept [] q = []
all_kept (m ∷ ms) q = kept m q ++ all_kept ms (moved m q)

abbrev pub all_lost : List Move → Lines → ℕ
all_lost [] q = 0
all_lost (m ∷ ms) q = lost m q + all_lost ms (moved m q)

-- what went out and what waits are what waited at first and the lines that were kept, whole and in their order
abbrev pub OrderIsKept : Type 0
OrderIsKept = (ms : List Move) (q : Lines) → all_given ms q ++ (after ms q).waiting ≡ q.waiting ++ all_kept ms q

-- each line that was not kept was counted
abbrev pub EachIsCounted : Type 0
EachIsCounted = (ms : List Move) (q : Lines) → q.dropped + all_lost ms q ≤ 18_446_744_073_709_551_615
    → (after ms q).dropped ≡ q.dropped + all_lost ms q

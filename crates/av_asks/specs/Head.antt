use Rattle.std.specs.Prelude.{ℕ, ◌+◌, ◌==◌, ◌≤◌, ◌&&◌, Bool, List, length, nat_le, nat_lt, slice_index, not, if◌then◌else◌}
use Rattle.av_asks.specs.declared.sizes.TheConstants.{ASK_HEAD, DENIED_SIZE, GRANTED_SIZE, MAX_ASK}
use Rattle.av_asks.specs.declared.head.Side.{Side}
use Rattle.av_asks.specs.declared.head.Side.TheVariants.{Asks, Answers}
use Rattle.av_asks.specs.declared.head.Head.{Head}
use Rattle.av_asks.specs.declared.head.Head.TheVariants as head
use Rattle.av_asks.specs.Spelling.{number4}

-- how many bytes a body can have
abbrev pub fits_size : Side → ℕ → Bool
fits_size Asks size = nat_le ASK_HEAD size && nat_le size MAX_ASK
fits_size Answers size = nat_le DENIED_SIZE size && nat_le size GRANTED_SIZE

-- the bytes that a body can begin with
abbrev pub fits_kind : Side → ℕ → Bool
fits_kind Asks kind = kind == 1
fits_kind Answers kind = nat_le 2 kind && nat_le kind 4

-- what is told of a frame by how many bytes are there, the length that it says, and its body's first byte: a length that
-- no body has is told as soon as its four bytes are there, and a kind that no body has with the byte behind them
abbrev pub head_by : Side → ℕ → ℕ → ℕ → Head
head_by side len size kind =
    if nat_lt len 4 then head.Waits else
    (if not (fits_size side size) then head.Length else
    (if len == 4 then head.Waits else
    (if not (fits_kind side kind) then head.Kind else
    (if nat_lt len (4 + size) then head.Waits else head.Whole size))))

-- what the front of bytes tells of the frame that begins there
unfoldable pub head_of : Side → List ℕ → Head
head_of side rest = head_by side (length rest) (number4 rest) (slice_index rest 4)

-- a whole frame is no longer than what is there, and its body has a kind at least
abbrev pub WholeAtMost : ℕ → Head → Type 0
WholeAtMost len head.Waits = Unit {0}
WholeAtMost len head.Length = Unit {0}
WholeAtMost len head.Kind = Unit {0}
WholeAtMost len (head.Whole size) = (10 ≤ size) × (4 + size ≤ len)

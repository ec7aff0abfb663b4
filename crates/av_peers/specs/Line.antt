-- A connection of which no call waits.
use Rattle.std.specs.Prelude.{ℕ, ◌≡◌, ◌+◌, ◌-◌, ◌==◌, ◌&&◌, ◌||◌, Bool, false, min, nat_le, nat_lt, if◌then◌else◌, List, length, drop, ◌≤◌, Option, None, Some, is_none}
use Rattle.std.specs.declared.time.Duration.{Duration}
use Rattle.mio.specs.declared.event.event.Event.{Event}
use Rattle.mio.specs.Event.{is_error, is_read_closed, is_readable, is_writable, is_write_closed}
use Rattle.av_peers.specs.declared.line.Came.{Came}
use Rattle.av_peers.specs.declared.line.Came.TheVariants.{Bytes, Nothing, End}
use Rattle.av_peers.specs.declared.line.Connection.{Connection}

-- the bytes that are still to go out
abbrev pub unsent : Connection → List ℕ
unsent l = drop l.sent l.waiting.items

-- a change was told: there may be something to be read, or the other side takes no more
abbrev pub noted : Event → Connection → Connection
noted e l =
    record l {
      may_read = l.may_read || (is_readable e || is_read_closed e || is_error e);
      is_closed = l.is_closed || is_write_closed e;
    }

-- bytes wait, and the other side may take some
abbrev pub may_send : Event → Connection → Bool
may_send e l = is_writable e && nat_lt 0 (length (unsent l))

-- a read may come to more where it came to bytes
abbrev pub has_more : Came → Bool → Bool
has_more (Bytes count) before = before
has_more Nothing before = false
has_more End before = false

-- no more bytes came than there was room for
abbrev pub IsWithin : Came → List ℕ → Type 0
IsWithin (Bytes count) room = count ≤ length room
IsWithin Nothing room = Unit {0}
IsWithin End room = Unit {0}

-- these bytes are the last of those
abbrev pub IsEndOf : List ℕ → List ℕ → Type 0
IsEndOf rest all = rest ≡ drop (length all - length rest) all

-- how many bytes the other side has taken since it is waited for, once these are left
abbrev pub taken_by : Connection → List ℕ → ℕ
taken_by l rest = min (l.taken + (length (unsent l) - length rest)) 18446744073709551615

-- it is waited for from now on: it has taken as many as it is to take, or it was not waited for
abbrev pub begins_anew : Connection → List ℕ → Bool
begins_anew l rest = nat_le l.least (taken_by l rest) || is_none l.since

-- since when the other side takes less of what waits than it is to take: never where nothing waits
abbrev pub since_of : Connection → Duration → List ℕ → Option Duration
since_of l now rest = if length rest == 0 then None else (if begins_anew l rest then Some now else l.since)

-- how many bytes it has taken since
abbrev pub taken_of : Connection → List ℕ → ℕ
taken_of l rest = if length rest == 0 then 0 else (if begins_anew l rest then 0 else taken_by l rest)

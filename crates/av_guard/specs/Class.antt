-- What a guard knows of a content, and whether an ask of it can be taken now.
use Rattle.std.specs.Prelude.{◌≡◌, ℕ, Bool, false, not, ◌&&◌, nat_lt, [], ◌∷◌, length, map, is_some, if◌then◌else◌}
use Rattle.av_filter.specs.Once.{times}
use Rattle.av_filter_table.specs.Table.{Table, context_of, current, has_room}
use Rattle.av_guard.specs.Place.{Held, Missing, Spot, Unused}
use Rattle.av_guard.specs.State.{State}
use Rattle.av_guard.specs.Telling.{Waiters}
use Rattle.av_guard.specs.declared.answered.Answered.{Answered}
use Rattle.av_guard.specs.declared.answered.Answered.TheVariants as told
use Rattle.av_guard.specs.declared.class.Class.{Class}
use Rattle.av_guard.specs.declared.class.Class.TheVariants.{Asked, Known, New}
use Rattle.av_guard.specs.declared.given.GuardOut.{GuardOut}
use Rattle.av_guard.specs.declared.place.Place.{Place}
use Rattle.av_guard.specs.declared.place.Place.TheVariants.{Free, Kept, Nowhere}

-- a question is free, an open more can be held, and the volume takes a stream more
abbrev pub may_ask : State → Bool
may_ask g =
    nat_lt (length g.table.questions) g.table.limits.questions && (nat_lt (length g.table.pended) g.table.limits.pended
    && nat_lt (length g.volume.streams) g.volume.limits.streams)

-- the filter has a verdict of this stream under its floor
abbrev pub has_verdict : Table → ℕ → Bool
has_verdict t s = is_some (current (context_of t.contexts s) t.floor)

-- an open of this stream waits
abbrev pub is_awaited : Waiters → ℕ → Bool
is_awaited waiting s = nat_lt 0 (times s (map (λ e. e.1.stream) waiting))

-- the class of a content that this stream has
abbrev pub class_in : State → ℕ → Class
class_in g s = if has_verdict g.table s then Known else (if is_awaited g.waiting s then Asked else New)

-- the class of a content by its place
abbrev pub class_at : State → Spot → Class
class_at g (Held s) = class_in g s
class_at g (Unused name) = New
class_at g Missing = New

-- the same by the place that the code has found
abbrev pub class_by : State → Place → Class
class_by g (Kept s) = class_in g s
class_by g (Free name) = New
class_by g Nowhere = New

-- An ask of this class can't be taken now: a new content wants a question and perhaps a stream, and one that was asked about
-- an open that can be held.
abbrev pub is_busy_with : State → Class → Bool
is_busy_with g Known = false
is_busy_with g Asked = not (has_room g.table)
is_busy_with g New = not (may_ask g)

-- it is a verdict under this version
abbrev pub IsVerdictUnder : ℕ → Answered → Type 0
IsVerdictUnder floor (told.Granted generation version) = version ≡ floor
IsVerdictUnder floor (told.Infected version signature end_at) = version ≡ floor
IsVerdictUnder floor _ = ⊥

-- the ask itself is told a verdict under this version, and nobody else is told anything, and the service is sent nothing
pub record IsTold (given : GuardOut) (client tag floor : ℕ) : Type 0 where
  pub answer : Answered
  pub told : given.told.items ≡ record { client = client; tag = tag; answer = answer } ∷ []
  pub verdict : IsVerdictUnder floor answer
  pub messages : given.messages.items ≡ []

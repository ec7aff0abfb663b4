-- Contents are let go, one by one.
use Rattle.std.specs.Prelude.{◌≡◌, ℕ, true, map, Option, Some, None, Result, Ok, Err}
use Rattle.std.specs.declared.alloc.AllocError.{AllocError}
use Rattle.av_filter.specs.Conduct.{Changes, filter_refusal}
use Rattle.av_filter.specs.Once.{times}
use Rattle.av_guard.specs.Asking.{GivesNothing, is_crowded}
use Rattle.av_guard.specs.State.{Gives, State, happens}
use Rattle.av_guard.specs.Telling.{Waiters}
use Rattle.av_guard.specs.declared.given.GuardOut.{GuardOut}
use Rattle.av_guard.specs.declared.shelf.Oldest.{Oldest}
use Rattle.av_guard.specs.declared.shelf.Oldest.TheVariants.{Idle, Later, Nothing}
use Rattle.av_store.specs.Files.{Remove}

-- nobody waits for the content that may go
abbrev pub IsFree : Waiters → Oldest → Type 0
IsFree waiting (Idle s) = times s (map (λ e. e.1.stream) waiting) ≡ 0
IsFree waiting Later = Unit {0}
IsFree waiting Nothing = Unit {0}

-- a content is let go; nothing where the volume has no such stream
abbrev pub LetsGo : State → State → ℕ → Result (Option GuardOut) AllocError → Type 0
LetsGo old new s (Ok (Some given)) =
    (filter_refusal old.table old.volume (Changes (Remove s)) ≡ None) × Gives given new (happens old (Changes (Remove s)))
LetsGo old new s (Ok None) = new ≡ old
LetsGo old new s (Err e) = new ≡ old

-- A content that nobody waits for was let go, or the order in which they are to go was seen to, which takes no event.
pub data MakesRoom (old new : State) (given : GuardOut) : Type 0 where
  LetGo : (stream : ℕ) → is_crowded old ≡ true → times stream (map (λ e. e.1.stream) old.waiting) ≡ 0
      → filter_refusal old.table old.volume (Changes (Remove stream)) ≡ None
      → Gives given new (happens old (Changes (Remove stream))) → MakesRoom old new given
  Ordered : is_crowded old ≡ true → GivesNothing given → new ≡ old → MakesRoom old new given

-- a step makes room, or nothing is to go, or memory is refused
abbrev pub RoomOf : State → State → Result (Option GuardOut) AllocError → Type 0
RoomOf old new (Ok (Some given)) = MakesRoom old new given
RoomOf old new (Ok None) = new ≡ old
RoomOf old new (Err e) = new ≡ old

-- Where a content is in a volume.
use Rattle.std.specs.Prelude.{◌≡◌, ℕ, zero, suc, ◌+◌, Bool, false, List, Option, Some, None, if◌then◌else◌}
use Rattle.std.specs.Str.{bytes_eq}
use Rattle.std.specs.declared.random_state.RandomState.{RandomState}
use Rattle.av_guard.specs.Naming.{name_of}
use Rattle.av_guard.specs.declared.place.Place.{Place}
use Rattle.av_guard.specs.declared.place.Place.TheVariants.{Kept, Free, Nowhere}
use Rattle.av_store.specs.Rows.{number_named, stream_at}
use Rattle.av_store.specs.Store.{Store}
use Rattle.av_store.specs.declared.stream.Stream.{Stream}

-- a stream with its bytes, a free name, or neither
pub data Spot : Type 0 where
  Held : (stream : ℕ) → Spot
  Unused : (name : List ℕ) → Spot
  Missing : Spot

-- a stream that is there has these bytes
abbrev pub bytes_are : List ℕ → Option Stream → Bool
bytes_are c None = false
bytes_are c (Some x) = bytes_eq x.bytes c

-- a stream has these bytes
abbrev pub has_bytes : Store → ℕ → List ℕ → Bool
has_bytes v s c = bytes_are c (stream_at s v.streams)

-- by the stream of a name, and what else it is
abbrev pub spot_at : Store → List ℕ → List ℕ → Spot → Option ℕ → Spot
spot_at v c name later None = Unused name
spot_at v c name later (Some s) = if has_bytes v s c then Held s else later

-- of so many names of a content, from this number on, the first that is free or that a stream with the same bytes has
unfoldable pub place_from : ℕ → ℕ → RandomState → Store → List ℕ → Spot
place_from zero n key v c = Missing
place_from (suc k) n key v c = spot_at v c (name_of key c n) (place_from k (n + 1) key v c) (number_named (name_of key c n) v.streams)

-- what the code has found is this
abbrev pub IsPlace : Place → Spot → Type 0
IsPlace (Kept s) spot = spot ≡ Held s
IsPlace (Free name) spot = spot ≡ Unused name.items
IsPlace Nowhere spot = spot ≡ Missing

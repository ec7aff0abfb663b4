-- What is known of the contents that are kept.
use Rattle.std.specs.Prelude.{◌≡◌, ◌≢◌, ℕ, ◌+◌, ◌-◌, List}
use Rattle.std.specs.Option.{unwrap_or}
use Rattle.av_context.specs.Contexts.{at}
use Rattle.av_guard.specs.declared.shelf.Oldest.{Oldest}
use Rattle.av_guard.specs.declared.shelf.Oldest.TheVariants.{Idle, Later, Nothing}

-- how many opens wait, for each stream that has some; how many contents are kept, and how many bytes they have
pub record Kept : Type 0 where
  pub waits : List (ℕ × ℕ)
  pub count : ℕ
  pub bytes : ℕ

-- how many opens wait for a stream
abbrev pub waits_of : List (ℕ × ℕ) → ℕ → ℕ
waits_of waits s = unwrap_or (at waits s) 0

-- one more waits for a stream, and one less
pub record Adds (old new : List (ℕ × ℕ)) (s : ℕ) : Type 0 where
  pub here : waits_of new s ≡ waits_of old s + 1
  pub others : (u : ℕ) → u ≢ s → waits_of new u ≡ waits_of old u

-- one less waits for a stream
pub record Wakes (old new : List (ℕ × ℕ)) (s : ℕ) : Type 0 where
  pub here : waits_of new s ≡ waits_of old s - 1
  pub others : (u : ℕ) → u ≢ s → waits_of new u ≡ waits_of old u

-- nobody waits for the content that may go
abbrev pub IsIdle : List (ℕ × ℕ) → Oldest → Type 0
IsIdle waits (Idle s) = waits_of waits s ≡ 0
IsIdle waits Later = Unit {0}
IsIdle waits Nothing = Unit {0}

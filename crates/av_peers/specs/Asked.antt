-- The questions that a service was asked and has not answered.
use Rattle.std.specs.Prelude.{◌≡◌, ℕ, ◌==◌, List, [], ◌∷◌, length, Option, None, Some, is_some, if◌then◌else◌}
use Rattle.std.specs.BTreeMap.{insert_entry, is_at}
use Rattle.std.specs.Map.{lookup, remove_entry}
use Rattle.std.specs.Ordering.{nat_cmp}
use Rattle.std.specs.declared.time.Duration.{Duration}
use Rattle.av_peers.specs.declared.asked.Question.{Question}

-- the questions by number, and since when none of them was answered
pub record Owed : Type 0 where
  pub running : List (ℕ × Question)
  pub since : Option Duration

abbrev pub question_at : ℕ → Owed → Option Question
question_at seq o = lookup (is_at (nat_cmp seq)) o.running

-- the first moment, or this one
abbrev pub or_now : Option Duration → Duration → Option Duration
or_now None now = Some now
or_now (Some since) now = Some since

-- one more is asked
abbrev pub asked_of : ℕ → Question → Duration → Owed → Owed
asked_of seq q now o = record { running = insert_entry nat_cmp o.running seq q; since = or_now o.since now }

-- without one
abbrev pub left_of : ℕ → Owed → List (ℕ × Question)
left_of seq o = remove_entry (is_at (nat_cmp seq)) o.running

-- a moment, where some are left
abbrev pub since_left : List (ℕ × Question) → Option Duration → Option Duration
since_left running since = if length running == 0 then None else since

-- one that was asked is answered: the others are waited for from now on
abbrev pub replied_of : ℕ → Duration → Owed → Owed
replied_of seq now o =
    if is_some (question_at seq o) then record { running = left_of seq o; since = since_left (left_of seq o) (Some now) } else o

-- one is not to be answered any more
abbrev pub over_of : ℕ → Owed → Owed
over_of seq o = record { running = left_of seq o; since = since_left (left_of seq o) o.since }

-- the first is taken out, where there is one
abbrev pub IsNext : Owed → Owed → Option (ℕ × Question) → Type 0
IsNext old new None = (new ≡ old) × (old.running ≡ [])
IsNext old new (Some q) = (old.running ≡ q ∷ new.running) × (new.since ≡ old.since)

-- The questions that run, and when the time of each is up.
use Rattle.std.specs.Prelude.{◌≡◌, ◌≤◌, ℕ, Bool, true, false, nat_eq, List, Option, None, Some, IfSome}
use Rattle.std.specs.Ordering.{nat_cmp}
use Rattle.std.specs.BTreeMap.{insert_entry, is_at}
use Rattle.std.specs.Map.{lookup, remove_entry}
use Rattle.av_turns.specs.Times.{has}
use Rattle.av_turns.specs.Windows.{added, removed}
use Rattle.av_turns.specs.declared.questions.Question.{Question}
use Rattle.av_turns.specs.declared.windows.Windows.{Windows}

-- the questions by number, and what they count
pub record Running : Type 0 where
  pub running : List (ℕ × Question)
  pub windows : Windows

abbrev pub question_at : List (ℕ × Question) → ℕ → Option Question
question_at running n = lookup (is_at (nat_cmp n)) running

-- its time is up then
abbrev pub is_asked : Option Question → ℕ → Bool
is_asked None time = false
is_asked (Some q) time = nat_eq q.due time

-- the times of all are kept in their order
pub record IsTimed (running : List (ℕ × Question)) (due : List (ℕ × ℕ)) : Type 0 where
  pub timed : (n time : ℕ) → has time n due ≡ is_asked (question_at running n) time

-- no question's time is up before
abbrev pub IsNoneAskedBefore : Running → ℕ → Type 0
IsNoneAskedBefore r time = (n t : ℕ) → is_asked (question_at r.running n) t ≡ true → time ≤ t

-- no question runs
abbrev pub IsNoneAsked : Running → Type 0
IsNoneAsked r = (n t : ℕ) → is_asked (question_at r.running n) t ≡ false

-- a question is asked
pub record Asks (old new : Running) (seq due bytes : ℕ) : Type 0 where
  pub running : new.running ≡ insert_entry nat_cmp old.running seq (record { due = due; bytes = bytes })
  pub windows : new.windows ≡ added bytes old.windows

-- a question that was there runs no more
pub record EndsOne (old new : Running) (seq : ℕ) (was : Question) : Type 0 where
  pub running : new.running ≡ remove_entry (is_at (nat_cmp seq)) old.running
  pub windows : new.windows ≡ removed was.bytes old.windows

abbrev pub Ends : Running → Running → ℕ → Type 0
Ends old new seq = IfSome (question_at old.running seq) (λ was. EndsOne old new seq was)

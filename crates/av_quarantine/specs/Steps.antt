-- What a move of a file does next, and which names the file has.
use Rattle.std.specs.Prelude.{ℕ, ◌+◌, nat_lt, List, [], ◌∷◌, Result, Ok, Err, if◌then◌else◌}
use Rattle.av_quarantine.specs.declared.steps.TheConstants.{LAST}
use Rattle.av_quarantine.specs.declared.steps.MoveFault.{MoveFault}
use Rattle.av_quarantine.specs.declared.steps.MoveFault.TheVariants as fault
use Rattle.av_quarantine.specs.declared.steps.Outcome.{Outcome}
use Rattle.av_quarantine.specs.declared.steps.Outcome.TheVariants.{Done, Taken, Elsewhere, Failed}
use Rattle.av_quarantine.specs.declared.steps.Step.{Step}
use Rattle.av_quarantine.specs.declared.steps.Step.TheVariants.{Link, Compare, Remove, Undo, Moved, Stopped}

-- one step if it was done, and else another
abbrev pub if_done : Outcome → Step → Step → Step
if_done Done s t = s
if_done Taken s t = t
if_done Elsewhere s t = t
if_done Failed s t = t

-- after a new name: a name that is taken leads to the next number
abbrev pub after_link : ℕ → Outcome → Step
after_link n Done = Compare n
after_link n Taken = if nat_lt n LAST then Link (n + 1) else Stopped fault.Full
after_link n Elsewhere = Stopped fault.Elsewhere
after_link n Failed = Stopped fault.Unlinked

-- the step after a step
abbrev pub next : Step → Outcome → Step
next (Link n) o = after_link n o
next (Compare n) o = if_done o (Remove n) (Undo n fault.Another)
next (Remove n) o = if_done o (Moved n) (Undo n fault.Kept)
next (Undo n f) o = if_done o (Stopped f) (Stopped (fault.Left n))
next (Moved n) o = Moved n
next (Stopped f) o = Stopped f

-- the step after outcomes, one after the other
unfoldable pub run_from : Step → List Outcome → Step
run_from s [] = s
run_from s (o ∷ os) = run_from (next s o) os

-- a move begins with the name that the file has
abbrev pub run : List Outcome → Step
run os = run_from (Link 0) os

-- where a move ends that came to this
abbrev pub ended : Result ℕ MoveFault → Step
ended (Ok n) = Moved n
ended (Err f) = Stopped f

-- What a move of a file keeps, whatever comes of its steps.
use Rattle.std.specs.Prelude.{ℕ, ◌≡◌, ◌≤◌, ◌++◌, Bool, true, false, List, [], ◌∷◌, Option, None, Some}
use Rattle.std.proofs.Math.ListN.{replicate}
use Rattle.av_quarantine.specs.declared.steps.TheConstants.{LAST}
use Rattle.av_quarantine.specs.declared.steps.MoveFault.{MoveFault}
use Rattle.av_quarantine.specs.declared.steps.MoveFault.TheVariants as fault
use Rattle.av_quarantine.specs.declared.steps.Outcome.{Outcome}
use Rattle.av_quarantine.specs.declared.steps.Outcome.TheVariants.{Done, Taken, Elsewhere, Failed}
use Rattle.av_quarantine.specs.declared.steps.Step.{Step}
use Rattle.av_quarantine.specs.declared.steps.Step.TheVariants.{Link, Compare, Remove, Undo, Moved, Stopped}
use Rattle.av_quarantine.specs.Steps.{next, run}

-- the old name is removed only after as many names were taken as the new one has for its number, a link was made, and the file under
-- the new name is the one that was judged
abbrev pub RemovesOnlyJudged : Type 0
RemovesOnlyJudged = (os : List Outcome) (n : ℕ) → run os ≡ Remove n → (n ≤ LAST) × (os ≡ replicate n Taken ++ Done ∷ Done ∷ [])

-- a file is moved only if its old name was removed after that, and then there is no further step
abbrev pub MovesOnlyJudged : Type 0
MovesOnlyJudged = (os : List Outcome) (n : ℕ) → run os ≡ Moved n
    → (n ≤ LAST) × ((more : List Outcome) × (os ≡ replicate n Taken ++ Done ∷ Done ∷ Done ∷ more))

-- the names of a file: whether it has its old one, and the number of its new one, if there is one
pub record Names : Type 0 where
  pub is_old : Bool
  pub new : Option ℕ

-- the new name under which a fault leaves a file
abbrev pub left_by : MoveFault → Option ℕ
left_by fault.NotRegular = None
left_by fault.Another = None
left_by fault.Inside = None
left_by fault.Elsewhere = None
left_by fault.Full = None
left_by fault.Unlinked = None
left_by fault.Kept = None
left_by (fault.Left n) = Some n

-- the names at each step: a file that is moved has its new name alone, one that is not has its old one
abbrev pub names_at : Step → Names
names_at (Link n) = record { is_old = true; new = None }
names_at (Compare n) = record { is_old = true; new = Some n }
names_at (Remove n) = record { is_old = true; new = Some n }
names_at (Undo n f) = record { is_old = true; new = Some n }
names_at (Moved n) = record { is_old = false; new = Some n }
names_at (Stopped f) = record { is_old = true; new = left_by f }

-- what a step that was done makes of the names
abbrev pub made : Step → Names → Names
made (Link n) x = record { is_old = x.is_old; new = Some n }
made (Compare n) x = x
made (Remove n) x = record { is_old = false; new = x.new }
made (Undo n f) x = record { is_old = x.is_old; new = None }
made (Moved n) x = x
made (Stopped f) x = x

-- and one that was not done
abbrev pub changed : Step → Outcome → Names → Names
changed s Done x = made s x
changed s Taken x = x
changed s Elsewhere x = x
changed s Failed x = x

-- the names after outcomes, one after the other
unfoldable pub names_from : Step → List Outcome → Names → Names
names_from s [] x = x
names_from s (o ∷ os) x = names_from (next s o) os (changed s o x)

-- whatever came of the steps, the names are those of the step: one at least, and one alone at the end, unless a fault says so
abbrev pub KeepsNames : Type 0
KeepsNames = (os : List Outcome) → names_from (Link 0) os (record { is_old = true; new = None }) ≡ names_at (run os)

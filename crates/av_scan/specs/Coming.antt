-- Names on their way through a scan.
use Rattle.std.specs.Prelude.{ℕ, ◌≡◌, ◌++◌, ⊤, Bool, List, Option, None, Some, map}
use Rattle.std.specs.Io.KnownBytes.{Appends}
use Rattle.av_files.specs.Findings.{NamedSet}
use Rattle.av_files.specs.declared.finding.Finding.{Finding}
use Rattle.av_scan.specs.Outcome.{AreMoved, AreTrue, Outcome, counted_from, texts_of}
use Rattle.av_scan.specs.declared.coming.Coming.{Coming}
use Rattle.av_scan.specs.declared.coming.Coming.TheVariants.{More, Over, Failed}
use Rattle.av_status.specs.declared.tally.Tally.{Tally}
use Rattle.av_status.specs.declared.tally.Wishes.{Wishes}

-- The names that were told, then those that wait, then those that are left are all names, in their order, as long as there is memory for each.
abbrev pub AreAll : Option (List (List ℕ)) → Coming → List (List ℕ) → List (List ℕ) → Option (List (List ℕ)) → Type 0
AreAll all Failed told waiting left = ⊤
AreAll None More told waiting None = ⊤
AreAll None More told waiting (Some rest) = ⊥
AreAll (Some all) More told waiting None = ⊥
AreAll (Some all) More told waiting (Some rest) = all ≡ told ++ (waiting ++ rest)
AreAll None Over told waiting left = ⊤
AreAll (Some all) Over told waiting left = all ≡ told ++ waiting

-- A scan that has come so far: what was told of each file is true, the lines are written, all are counted, and the names are all names.
pub record IsUnderWay (is_true : List ℕ → List Finding → Type 0) (moves : Bool) (wishes : Wishes) (sets : List NamedSet) (before after : Tally) (old new : Option (List ℕ)) (all : Option (List (List ℕ))) (coming : Coming) (waiting : List (List ℕ)) (left : Option (List (List ℕ))) : Type 0 where
  pub outcomes : List Outcome
  pub are_true : AreTrue is_true outcomes
  pub are_moved : AreMoved moves outcomes
  pub lines : Appends old new (texts_of wishes sets outcomes)
  pub counts : after ≡ counted_from before outcomes
  pub names : AreAll all coming (map (λ o. o.name) outcomes) waiting left

-- Files that a host opens group after group.
use Rattle.std.specs.Prelude.{ℕ, ◌≡◌, ◌++◌, List, [], Option, length}
use Rattle.std.specs.Borrow.{Bor}
use Rattle.av_files.specs.Opened.{ended_tally}
use Rattle.av_status.specs.Tally.{concluded, no_files}
use Rattle.av_status.specs.declared.status.Status.{Status}
use Rattle.av_status.specs.declared.status.Status.TheVariants.{Done}
use Rattle.av_status.specs.declared.tally.Tally.{Tally}
use Rattle.av_status.specs.declared.tally.Wishes.{Wishes}
use Rattle.av_files.specs.Volume.{FileRead, volume_of_files}
use Rattle.av_host.specs.Brought.{AreToldOf, IsToldInPart}
use Rattle.av_host.specs.Files.{AreContentsOf}
use Rattle.av_sigset.specs.Set.{NumberedSet}

-- Files of these names were opened by so many openers. For each group a content was read for each name, and its lines are true of these
-- contents. They were written behind those of the groups before, and all are counted. Each group but the last one ended well, and the
-- last one with this status.
pub data AreInGroups (has_content : List ℕ → List ℕ → Type 0) (set : NumberedSet) (openers : ℕ) (wishes : Wishes) (before : Tally) (old : Option (List ℕ)) : List (Bor (List ℕ)) → Tally → Option (List ℕ) → Status → Type 0 where
  nothing : AreInGroups has_content set openers wishes before old [] before old Done
  more : (files : List FileRead) (names group : List (Bor (List ℕ))) (counted after : Tally) (held new : Option (List ℕ)) (status : Status)
      → AreInGroups has_content set openers wishes before old names counted held Done
      → AreContentsOf has_content group files → AreToldOf files set openers group wishes counted after held new status
      → AreInGroups has_content set openers wishes before old (names ++ group) after new status

-- of files of these names the first ones were opened in groups: all of them, unless a group ended otherwise than well
pub record AreOpened (has_content : List ℕ → List ℕ → Type 0) (set : NumberedSet) (openers : ℕ) (names : List (Bor (List ℕ))) (wishes : Wishes) (before after : Tally) (old new : Option (List ℕ)) (ended : Status) : Type 0 where
  pub opened : List (Bor (List ℕ))
  pub left : List (Bor (List ℕ))
  pub all : opened ++ left ≡ names
  pub told : AreInGroups has_content set openers wishes before old opened after new ended
  pub none_left : ended ≡ Done → left ≡ []

-- Of files of these names the first ones were opened in groups, of which each line is true of the content that was read for its file.
-- Behind their lines a front of the lines of one more group may have been written, which are as true; and nothing else was written.
pub record AreTrueSoFar (has_content : List ℕ → List ℕ → Type 0) (set : NumberedSet) (openers : ℕ) (names : List (Bor (List ℕ))) (wishes : Wishes) (before : Tally) (old new : Option (List ℕ)) : Type 0 where
  pub opened : List (Bor (List ℕ))
  pub group : List (Bor (List ℕ))
  pub left : List (Bor (List ℕ))
  pub all : opened ++ (group ++ left) ≡ names
  pub tally : Tally
  pub ended : Status
  pub held : Option (List ℕ)
  pub told : AreInGroups has_content set openers wishes before old opened tally held ended
  pub files : List FileRead
  pub read : AreContentsOf has_content group files
  pub last : IsToldInPart (volume_of_files files) set wishes held new

-- files of these names were to be opened by so many openers, and the status is that of those which were
pub record AreHostedInGroups (has_content : List ℕ → List ℕ → Type 0) (set : NumberedSet) (openers : ℕ) (names : List (Bor (List ℕ))) (wishes : Wishes) (old new : Option (List ℕ)) (status : Status) : Type 0 where
  pub tally : Tally
  pub ended : Status
  pub told : AreOpened has_content set openers names wishes no_files tally old new ended
  pub concluded : status ≡ concluded wishes (ended_tally tally (length names) ended)

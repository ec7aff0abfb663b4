-- The files that were opened, from what the openers brought back. They took the files in turn.
use Rattle.std.specs.Prelude.{ℕ, ◌≡◌, ◌/◌, ◌%◌, List, Option, length, map, option_and_then, slice_get}
use Rattle.std.specs.Borrow.{Bor}
use Rattle.std.specs.Io.KnownBytes.{Appends}
use Rattle.std.specs.List.{enumerate_from, filter_map}
use Rattle.std.specs.Option.{option_map}
use Rattle.av_base.specs.Device.{AppendsPrefix}
use Rattle.av_frame.specs.declared.end.End.{End}
use Rattle.av_frame.specs.declared.end.End.TheVariants.{Done}
use Rattle.av_files.specs.Opened.{ended_tally, opened_lines, tally_from}
use Rattle.av_files.specs.Scan.{SpellsSet}
use Rattle.av_files.specs.Volume.{AreRead, FileRead, volume_of_files}
use Rattle.av_files.specs.declared.opened.Opened.{Opened}
use Rattle.av_files.specs.declared.scanner.Input.{Input}
use Rattle.av_pend.specs.declared.answer.Answer.{Answer}
use Rattle.av_status.specs.Status.{graver, gravest_from, status_of_end}
use Rattle.av_status.specs.Tally.{concluded, no_files}
use Rattle.av_status.specs.declared.status.Status.{Status}
use Rattle.av_status.specs.declared.tally.Tally.{Tally}
use Rattle.av_status.specs.declared.tally.Wishes.{Wishes}
use Rattle.av_host.specs.Files.{AreTrueOfFiles}
use Rattle.av_host.specs.Lines.{AreTrueLines}
use Rattle.av_host.specs.declared.opener.Brought.{Brought}
use Rattle.av_sigset.specs.Set.{NumberedSet}
use Rattle.av_store.specs.Store.{Store}

-- the opener whose turn a place was
abbrev pub opener_of : List Brought → ℕ → Option Brought
opener_of brought place = slice_get brought (place % length brought)

-- what the file was told that an opener took in this round, counted from 0
abbrev pub told_in : ℕ → Brought → Option Answer
told_in round opener = option_map (λ r. r.answer) (slice_get opener.receipts.items round)

-- the answer of the file at a place: in each round every opener took one
abbrev pub answer_at : List Brought → ℕ → Option Answer
answer_at brought place = option_and_then (told_in (place / length brought)) (opener_of brought place)

-- a file under its own name, where it has an answer
abbrev pub opened_at : List Brought → ℕ × Bor (List ℕ) → Option Opened
opened_at brought (place, name) = option_map (λ a. record { name = name; answer = a }) (answer_at brought place)

-- the files that have an answer, in the order of their names
abbrev pub opened_files : List Brought → List (Bor (List ℕ)) → List Opened
opened_files brought names = filter_map (opened_at brought) (enumerate_from 0 names)

-- these files are told of what so many openers brought back, and this is the gravest end of a loop and of an opener
pub record AreBrought (openers : ℕ) (names : List (Bor (List ℕ))) (opened : List Opened) (end : End) : Type 0 where
  pub brought : List Brought
  pub count : length brought ≡ openers
  pub told : opened ≡ opened_files brought names
  pub loops : End
  pub gravest : end ≡ graver loops (gravest_from Done (map (λ b. b.end) brought))

-- So many openers opened files of these names: the lines of those that have an answer were written, they are counted, and the opens
-- ended with this status. Each line is true of the contents that the volume kept under these names, by this set.
pub record AreTold (volume : Store) (set : NumberedSet) (openers : ℕ) (names : List (Bor (List ℕ))) (wishes : Wishes) (before after : Tally) (old new : Option (List ℕ)) (status : Status) : Type 0 where
  pub opened : List Opened
  pub end : End
  pub brought : AreBrought openers names opened end
  pub are_true : AreTrueLines volume set opened
  pub lines : Appends old new (opened_lines wishes opened)
  pub counted : after ≡ tally_from before opened
  pub ended : status ≡ status_of_end end

-- The same of a volume of these files and no others: each line is true of the content that was read for its name.
pub record AreToldOf (files : List FileRead) (set : NumberedSet) (openers : ℕ) (names : List (Bor (List ℕ))) (wishes : Wishes) (before after : Tally) (old new : Option (List ℕ)) (status : Status) : Type 0 where
  pub told : AreTold (volume_of_files files) set openers names wishes before after old new status
  pub contents : AreTrueOfFiles files set told.opened

-- Of some lines a front was written, and these lines are true of the contents that the volume keeps, by this set: so it is of a group that
-- ends with a fault. None may be written.
pub record IsToldInPart (volume : Store) (set : NumberedSet) (wishes : Wishes) (old new : Option (List ℕ)) : Type 0 where
  pub opened : List Opened
  pub are_true : AreTrueLines volume set opened
  pub front : AppendsPrefix old new (opened_lines wishes opened)

-- All these inputs were read, and were to be opened by so many openers, under the set that the signature file of this content spells. The
-- status is that of the files which were opened.
pub record AreHosted (spelling : Option (List ℕ)) (openers : ℕ) (inputs : List Input) (wishes : Wishes) (old new : Option (List ℕ)) (status : Status) : Type 0 where
  pub tally : Tally
  pub ended : Status
  pub set : NumberedSet
  pub spelled : SpellsSet spelling set
  pub files : List FileRead
  pub read : AreRead inputs files
  pub told : AreToldOf files set openers (map (λ f. f.name) inputs) wishes no_files tally old new ended
  pub concluded : status ≡ concluded wishes (ended_tally tally (length inputs) ended)

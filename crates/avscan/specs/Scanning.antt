-- Files of the system, as the words have them scanned. No clause ties a content to the disk.
use Rattle.std.specs.Prelude.{ℕ, ◌≡◌, ◌≤◌, ◌++◌, ◌&&◌, List, [], Option, None, Some, if◌then◌else◌, ◌⊎◌, is_some, length, map}
use Rattle.av_files.specs.Findings.{NamedSet}
use Rattle.av_files.specs.Listed.{IsListOf}
use Rattle.av_files.specs.declared.finding.Finding as files
use Rattle.av_program.specs.Sets.{AreAsked}
use Rattle.av_program.specs.declared.scanners.Sets.{Sets}
use Rattle.av_scan.specs.Matches.{found_in}
use Rattle.av_scan.specs.Outcome.{Ends}
use Rattle.av_scan.specs.declared.feed.Folders.{Folders}
use Rattle.av_scan.specs.declared.feed.Folders.TheVariants.{Entered, Refused}
use Rattle.av_scan.specs.declared.scanning.Matches.{Matches}
use Rattle.av_scan.specs.declared.scanning.Matches.TheVariants.{All, First}
use Rattle.av_scan.specs.declared.scanning.Scanning.{Scanning}
use Rattle.av_status.specs.Status.{IsFault}
use Rattle.av_status.specs.Tally.{no_files}
use Rattle.av_status.specs.declared.status.Status.{Status}
use Rattle.av_words.specs.declared.request.Finding.{Finding}
use Rattle.av_words.specs.declared.request.List as request
use Rattle.avscan_words.specs.declared.request.Scan.{Scan}

-- of a file on disk nothing is known but that it was opened
abbrev pub IsOpen : {F : Type 0} → List ℕ → F → Type 0
IsOpen name file = Unit {0}

-- the byte that ends each name of a list, if there is one
abbrev pub end_of : Option request.List → ℕ
end_of None = 0
end_of (Some list) = list.end

-- the names that were given, and after them those of a list
pub record AreEveryName (end : ℕ) (text : List ℕ) (given names : List (List ℕ)) : Type 0 where
  pub listed : List (List ℕ)
  pub of_text : IsListOf end text listed
  pub all : names ≡ given ++ listed

-- the sets of the words: the first one and those of --set, which of them may be taken, and by whose key
pub record AsksFor (asked : Scan) (sets : Sets) : Type 0 where
  pub first : sets.first.now ≡ asked.set.now
  pub more : map (λ n. n.now) sets.more.now ≡ map (λ n. n.now) asked.more_sets.items
  pub trust : sets.trust ≡ asked.trust
  pub empty_sets : sets.empty_sets ≡ asked.empty_sets

-- which signatures the words ask for, of those that occur in a file
abbrev pub matches_of : Scan → Matches
matches_of asked = if asked.has_all_matches then All else First

-- a scan goes as the words ask for it
pub record IsAskedFor {R O : Type 0} (asked : Scan) (scanning : Scanning R O) : Type 0 where
  pub matches : scanning.matches ≡ matches_of asked
  pub most : scanning.max_size ≡ asked.finding.max_size
  pub wishes : scanning.wishes ≡ asked.named.wishes
  pub folder : scanning.folder ≡ asked.folder

-- these are the findings of a content that was read, of no more bytes than a file may have
pub record AreOfContent (asked : Scan) (sets : List NamedSet) (name : List ℕ) (fs : List files.Finding) : Type 0 where
  pub content : List ℕ
  pub short : length content ≤ asked.finding.max_size
  pub found : fs ≡ found_in (matches_of asked) sets content

-- what a folder stands for, as the words have it
abbrev pub folders_of : Finding → Folders
folders_of finding = if finding.is_recursive then Entered else Refused

-- the names that are scanned, where they are known before: where no folder stands for the files below it
abbrev pub names_scanned : Finding → List (List ℕ) → Option (List (List ℕ))
names_scanned finding names = if finding.keeps_going && finding.is_recursive then None else Some names

-- how a scan under these sets of the files of these names ended
abbrev pub EndsUnder : Scan → List NamedSet → List (List ℕ) → Option (List ℕ) → Option (List ℕ) → Status → Type 0
EndsUnder asked sets names old new status =
    Ends (AreOfContent asked sets) (is_some asked.folder) asked.named.wishes sets no_files old new (names_scanned asked.finding names) status

-- How a scan under these sets ended, of the files that the words name, and behind them those of a list, if there is one.
pub record EndsOfAll (asked : Scan) (sets : List NamedSet) (old new : Option (List ℕ)) (status : Status) : Type 0 where
  pub text : List ℕ
  pub none : asked.named.list ≡ None → text ≡ []
  pub names : List (List ℕ)
  pub every : AreEveryName (end_of asked.named.list) text (map (λ n. n.now) asked.named.files.items) names
  pub ends : EndsUnder asked sets names old new status

-- A fault ended it before a file was opened, and nothing was written.
pub record IsNotBegun (old new : Option (List ℕ)) (status : Status) : Type 0 where
  pub fault : IsFault status
  pub nothing : new ≡ old

-- A scan that the words ask for: under the sets that they name, each of which is trusted as they say.
pub record IsScanUnder (asked : Scan) (old new : Option (List ℕ)) (status : Status) : Type 0 where
  pub words : Sets
  pub asks : AsksFor asked words
  pub sets : List NamedSet
  pub are : AreAsked words sets
  pub ended : EndsOfAll asked sets old new status

-- how it ended, whether it began or not
abbrev pub IsScanOf : Scan → Option (List ℕ) → Option (List ℕ) → Status → Type 0
IsScanOf asked old new status = IsNotBegun old new status ⊎ IsScanUnder asked old new status

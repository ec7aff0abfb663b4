-- What became of a file or of an entry of a folder.
use Rattle.std.specs.Prelude.{ℕ, ◌≡◌, ◌≤◌, ⊤, List, Option, Result, Ok, Err, codes, length, string_bytes}
use Rattle.av_files.specs.Findings.{IsWhole, NamedSet}
use Rattle.av_files.specs.declared.finding.Finding.{Finding}
use Rattle.av_files.specs.declared.walk.Met.{Met}
use Rattle.av_files.specs.declared.walk.Met.TheVariants as met
use Rattle.av_files.specs.declared.walk.Met.TheVariants.{File}
use Rattle.av_status.specs.declared.status.Status.{Status}
use Rattle.av_status.specs.declared.status.Status.TheVariants.{Refused, Memory, Device}
use Rattle.av_scan.specs.Matches.{found_in}
use Rattle.av_scan.specs.declared.scanning.Matches.{Matches}
use Rattle.av_scan.specs.declared.told.Told.{Told}
use Rattle.av_scan.specs.declared.told.Told.TheVariants.{Scanned, Missed}
use Rattle.av_scan.specs.declared.told.Unscanned.{Unscanned}
use Rattle.av_scan.specs.declared.told.Unscanned.TheVariants.{TooLarge, Unreadable, NotText, NoMemory}

-- the path of what was met
abbrev pub path_of : Met → List ℕ
path_of (File path) = string_bytes path
path_of (met.Unreadable path) = string_bytes path
path_of (met.NotText path) = path.items

-- its name
abbrev pub name_of : Told → List ℕ
name_of (Scanned name findings _) = string_bytes name
name_of (Missed entry status) = path_of entry.met

-- a file that could be looked at was too large, or could not be read, or there was no memory for what is found in it
abbrev pub unread_of : Status → Unscanned
unread_of Refused = TooLarge
unread_of Memory = NoMemory
unread_of s = Unreadable

-- why what was met was not scanned
abbrev pub unscanned_of : Met → Status → Unscanned
unscanned_of (File path) status = unread_of status
unscanned_of (met.Unreadable path) status = Unreadable
unscanned_of (met.NotText path) status = NotText

-- the status of the fault
abbrev pub status_of : Unscanned → Status
status_of TooLarge = Refused
status_of Unreadable = Device
status_of NotText = Refused
status_of NoMemory = Memory

-- its words
abbrev pub words_of : Unscanned → List ℕ
words_of TooLarge = codes "TooLarge"
words_of Unreadable = codes "cannot read"
words_of NotText = codes "the name is not UTF-8"
words_of NoMemory = codes "no memory"

-- what is found in it, or why that is not known
abbrev pub judged_of : Told → Result (List Finding) Unscanned
judged_of (Scanned name findings _) = Ok findings.items
judged_of (Missed entry status) = Err (unscanned_of entry.met status)

-- nothing is known of findings
abbrev pub Anything : List ℕ → List Finding → Type 0
Anything name fs = ⊤

-- what is found in a content that a reader gave until it was at its end, of so many bytes at most
pub record AreFoundIn (left : Option (List ℕ)) (matches : Matches) (most : ℕ) (sets : List NamedSet) (fs : List Finding) : Type 0 where
  pub content : List ℕ
  pub whole : IsWhole left content
  pub short : length content ≤ most
  pub found : fs ≡ found_in matches sets content

-- a file was opened as the one of this name, and these are the findings of the content that it gave, of so many bytes at most
pub record AreFindings {F : Type 0} (matches : Matches) (most : ℕ) (is_of : List ℕ → F → Type 0) (remaining : F → Option (List ℕ)) (sets : List NamedSet) (name : List ℕ) (fs : List Finding) : Type 0 where
  pub file : F
  pub opened : is_of name file
  pub judged : AreFoundIn (remaining file) matches most sets fs

-- What is said of a path.
use Rattle.std.specs.Prelude.{ℕ, ◌≡◌, ◌⊎◌, ◌&&◌, Bool, true, if◌then◌else◌, List, [], ◌∷◌, ◌++◌, Option, Result}
use Rattle.std.specs.Io.KnownBytes.{Appends}
use Rattle.std.specs.List.{AllByRecursion}
use Rattle.av_clamd.specs.Text.{path_reply_of}
use Rattle.av_clamd.specs.declared.reply.Failing.{Failing}
use Rattle.av_clamd.specs.declared.reply.Spoken.{Spoken}
use Rattle.av_clamd.specs.declared.reply.Spoken.TheVariants.{Clean, Failed}
use Rattle.av_client.specs.declared.asking.AskingFault.{AskingFault}
use Rattle.av_client.specs.declared.reply.Reply.{Reply}
use Rattle.av_files.specs.Quoted.{quoted}
use Rattle.av_paths.specs.Course.{is_clean}
use Rattle.av_paths.specs.Verdict.{IsGrant, spoken_of}

-- the reply to the command of this number, which ended so, about a path: in quotes where it could make a line of its own
abbrev pub reply_to : ℕ → ℕ → List ℕ → Spoken → List ℕ
reply_to number end path spoken = path_reply_of number end (quoted path) spoken

-- the line of a file of a folder, by what came of asking about it: none where it was granted
abbrev pub line_of : ℕ → ℕ → List ℕ → Result Reply AskingFault → List ℕ
line_of number end path asked = if is_clean (spoken_of asked) then [] else reply_to number end path (spoken_of asked)

-- the lines of files with what came of asking about them, the last one first
abbrev pub lines_of : ℕ → ℕ → List (List ℕ × Result Reply AskingFault) → List ℕ
lines_of number end [] = []
lines_of number end ((path, asked) ∷ before) = lines_of number end before ++ line_of number end path asked

-- each of them was granted
abbrev pub all_clean : List (List ℕ × Result Reply AskingFault) → Bool
all_clean [] = true
all_clean ((path, asked) ∷ before) = all_clean before && is_clean (spoken_of asked)

-- the line of the folder, where it is said to be clean
abbrev pub end_line : ℕ → ℕ → List ℕ → Bool → List ℕ
end_line number end path clean = if clean then reply_to number end path Clean else []

-- a folder's files were asked about: each that was not granted has its line, and the folder is said to be clean if there is none
abbrev pub IsFolderTold : ℕ → ℕ → List ℕ → Option (List ℕ) → Option (List ℕ) → Type 0
IsFolderTold number end path old new =
    (files : List (List ℕ × Result Reply AskingFault))
    × Appends old new (lines_of number end files ++ end_line number end path (all_clean files))

-- a folder is said to be clean only if a guard granted each of its files
abbrev pub IsFolderCleanByGrant : Type 0
IsFolderCleanByGrant =
    (files : List (List ℕ × Result Reply AskingFault)) → all_clean files ≡ true → AllByRecursion (λ file. IsGrant file.1) files

-- a file was asked about
abbrev pub IsFileTold : ℕ → ℕ → List ℕ → Option (List ℕ) → Option (List ℕ) → Type 0
IsFileTold number end path old new = (asked : Result Reply AskingFault) × Appends old new (reply_to number end path (spoken_of asked))

-- nobody was asked
abbrev pub IsRefused : ℕ → ℕ → List ℕ → Option (List ℕ) → Option (List ℕ) → Type 0
IsRefused number end path old new = (failing : Failing) × Appends old new (reply_to number end path (Failed failing))

abbrev pub IsTold : ℕ → ℕ → List ℕ → Option (List ℕ) → Option (List ℕ) → Type 0
IsTold number end path old new = IsRefused number end path old new ⊎ (IsFileTold number end path old new ⊎ IsFolderTold number end path old new)

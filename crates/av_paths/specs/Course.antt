-- How far a folder's files are asked about, and what is said of the folder.
use Rattle.std.specs.Prelude.{◌≡◌, ◌&&◌, ◌||◌, Bool, false, true, not, List, [], ◌∷◌}
use Rattle.std.specs.List.{AllByRecursion}
use Rattle.av_clamd.specs.declared.reply.Failing.{Failing}
use Rattle.av_clamd.specs.declared.reply.Failing.TheVariants.{NotBelow, Unreadable, NoAnswer, NoMemory}
use Rattle.av_clamd.specs.declared.reply.Spoken.{Spoken}
use Rattle.av_clamd.specs.declared.reply.Spoken.TheVariants.{Clean, Found, FoundAt, Infected, TooLarge, NoVerdict, Failed}
use Rattle.av_paths.specs.declared.course.Course.{Course}

-- it was granted
abbrev pub is_clean : Spoken → Bool
is_clean Clean = true
is_clean (Found name) = false
is_clean (FoundAt index version) = false
is_clean Infected = false
is_clean TooLarge = false
is_clean (NoVerdict cause) = false
is_clean (Failed failing) = false

-- no other file could have an answer
abbrev pub is_last : Failing → Bool
is_last NotBelow = false
is_last Unreadable = false
is_last NoAnswer = true
is_last NoMemory = true

-- no file behind this one is asked about
abbrev pub ends : Bool → Spoken → Bool
ends is_many Clean = false
ends is_many (Found name) = not is_many
ends is_many (FoundAt index version) = not is_many
ends is_many Infected = not is_many
ends is_many TooLarge = false
ends is_many (NoVerdict cause) = false
ends is_many (Failed failing) = is_last failing

-- no file was asked about
abbrev pub begun : Bool → Course
begun is_many = record { is_many = is_many; is_clean = true; is_over = false }

-- one file more
abbrev pub passed : Course → Spoken → Course
passed course spoken =
    record course { is_clean = course.is_clean && is_clean spoken; is_over = course.is_over || ends course.is_many spoken }

-- these files, one after the other
abbrev pub passed_all : Course → List Spoken → Course
passed_all course [] = course
passed_all course (s ∷ spoken) = passed_all (passed course s) spoken

-- a folder is said to be clean only if each of its files was granted
abbrev pub IsCleanIfEachIs : Type 0
IsCleanIfEachIs =
    (is_many : Bool) (spoken : List Spoken) → (passed_all (begun is_many) spoken).is_clean ≡ true
    → AllByRecursion (λ s. s ≡ Clean) spoken

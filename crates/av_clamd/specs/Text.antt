use Rattle.std.specs.Prelude.{ℕ, ◌≡◌, Vec, ◌-◌, ◌==◌, ◌&&◌, ◌||◌, Bool, false, not, nat_lt, List, [], ◌∷◌, ◌++◌, length, take, drop, Option, None, Some, is_some, codes, decimal, slice_index, if◌then◌else◌}
use Rattle.std.specs.Str.{bytes_eq}
use Rattle.std.specs.declared.alloc.Global.{Global}
use Rattle.av_clamd.specs.About.{stats_text, version_text}
use Rattle.av_clamd.specs.declared.about.About.{About}
use Rattle.av_clamd.specs.declared.reply.Failing.{Failing}
use Rattle.av_clamd.specs.declared.reply.Failing.TheVariants.{NotBelow, Unreadable, NoAnswer, NoMemory}
use Rattle.av_clamd.specs.declared.reply.Spoken.{Spoken}
use Rattle.av_clamd.specs.declared.reply.Spoken.TheVariants.{Clean, Found, FoundAt, Infected, TooLarge, NoVerdict, Failed}
use Rattle.av_clamd.specs.declared.text.Paths.{Paths}
use Rattle.av_clamd.specs.declared.text.Paths.TheVariants.{Refused, Taken}

-- a line of the command of a number, which is 0 outside of a session: the number, what is said, and how the command ended
abbrev pub numbered : ℕ → List ℕ
numbered number = if number == 0 then [] else decimal number ++ codes ": "

-- the line of a text
abbrev pub line_of : ℕ → List ℕ → ℕ → List ℕ
line_of number text end = numbered number ++ text ++ end ∷ []

-- where a signature stands whose name isn't known
abbrev pub place_text : ℕ → ℕ → List ℕ
place_text index version = codes "signature-" ++ decimal index ++ codes "-of-version-" ++ decimal version ++ codes " FOUND"

-- why there is no verdict: for the cause of this number
unfoldable pub why_text : ℕ → List ℕ
why_text cause = codes "cause " ++ decimal cause ++ codes ". ERROR"

-- that there is no verdict, and why
abbrev pub cause_text : ℕ → List ℕ
cause_text cause = codes "no verdict, " ++ why_text cause

-- why nobody was asked, or gave an answer
abbrev pub failing_text : Failing → List ℕ
failing_text NotBelow = codes "File path check failure: not below a folder of --below. ERROR"
failing_text Unreadable = codes "cannot read. ERROR"
failing_text NoAnswer = codes "no answer of the guard. ERROR"
failing_text NoMemory = codes "no memory. ERROR"

-- what is said of a verdict: OK of a content that was granted alone
abbrev pub verdict_text : Spoken → List ℕ
verdict_text Clean = codes "OK"
verdict_text (Found name) = name.now ++ codes " FOUND"
verdict_text (FoundAt index version) = place_text index version
verdict_text Infected = codes "infected FOUND"
verdict_text TooLarge = codes "INSTREAM size limit exceeded. ERROR"
verdict_text (NoVerdict cause) = cause_text cause
verdict_text (Failed failing) = failing_text failing

-- the reply to a content
abbrev pub reply_of : ℕ → ℕ → Spoken → List ℕ
reply_of number end verdict = line_of number (codes "stream: " ++ verdict_text verdict) end

-- the reply to a path
abbrev pub path_reply_of : ℕ → ℕ → List ℕ → Spoken → List ℕ
path_reply_of number end path verdict = line_of number (path ++ codes ": " ++ verdict_text verdict) end

-- what is told of a client that says nothing
abbrev pub timed_out : ℕ → List ℕ
timed_out end = codes "COMMAND READ TIMED OUT" ++ end ∷ []

-- how a command ends that begins with these bytes: NUL behind a z, else LF
abbrev pub end_of : List ℕ → ℕ
end_of [] = 10
end_of (b ∷ bs) = if b == 122 then 0 else 10

-- a command begins with n or z
abbrev pub is_marked : List ℕ → Bool
is_marked [] = false
is_marked (b ∷ bs) = b == 110 || b == 122

-- bytes without a CR at their end
abbrev pub without_cr : List ℕ → List ℕ
without_cr bytes = if slice_index bytes (length bytes - 1) == 13 then take (length bytes - 1) bytes else bytes

-- what a command says: all behind its mark, or all but a CR at its end
abbrev pub word_of : List ℕ → List ℕ
word_of command = if is_marked command then drop 1 command else without_cr command

-- what stands behind these first bytes, where it is something
abbrev pub behind : List ℕ → List ℕ → Option (List ℕ)
behind first word =
    if nat_lt (length first) (length word) && bytes_eq (take (length first) word) first then Some (drop (length first) word) else None

-- the first of two that is there
abbrev pub first_some : Option (List ℕ) → Option (List ℕ) → Option (List ℕ)
first_some (Some x) other = Some x
first_some None other = other

-- the path of a command that asks about one
unfoldable pub path_of : List ℕ → Option (List ℕ)
path_of word =
    first_some (behind (codes "SCAN ") word) (first_some (behind (codes "CONTSCAN ") word)
    (first_some (behind (codes "MULTISCAN ") word) (behind (codes "ALLMATCHSCAN ") word)))

-- the same, where paths are taken
abbrev pub path_taken : Paths → List ℕ → Option (List ℕ)
path_taken Refused word = None
path_taken Taken word = path_of word

-- a word that asks about a folder goes on past its first infected file, unless it is SCAN
abbrev pub goes_on : List ℕ → Bool
goes_on word = not (is_some (behind (codes "SCAN ") word))

-- what is said to a path: no file is opened for anybody
abbrev pub refused_path : Option (List ℕ) → Option (List ℕ)
refused_path None = None
refused_path (Some path) = Some (path ++ codes ": no path is read here, send the content (INSTREAM). ERROR")

-- how the list of commands begins: with those for paths, where they are known
abbrev pub path_commands : Paths → List ℕ
path_commands Refused = codes "| COMMANDS:"
path_commands Taken = codes "| COMMANDS: SCAN CONTSCAN MULTISCAN ALLMATCHSCAN"

-- the command for what a guard tells of itself, where that is known
abbrev pub stats_command : Option About → List ℕ
stats_command None = []
stats_command (Some about) = codes " STATS"

-- the commands of every door
unfoldable pub common_commands : Option About → List ℕ
common_commands about = codes " PING VERSION VERSIONCOMMANDS" ++ stats_command about ++ codes " INSTREAM IDSESSION END"

-- the commands that are known, after the version
unfoldable pub commands_of : Option About → Paths → List ℕ
commands_of about paths = path_commands paths ++ common_commands about

-- what is said to VERSIONCOMMANDS
abbrev pub commands_text : Option About → Paths → List ℕ
commands_text about paths = version_text about ++ commands_of about paths

-- what is said to STATS, where something is known
abbrev pub stats_told : Option About → Option (List ℕ)
stats_told None = None
stats_told (Some about) = Some (stats_text about)

-- what is said to a word that is answered by a line, where it is one
unfoldable pub answered : Option About → Paths → List ℕ → Option (List ℕ)
answered about paths word =
    if bytes_eq word (codes "PING") then Some (codes "PONG")
    else if bytes_eq word (codes "VERSION") then Some (version_text about)
    else if bytes_eq word (codes "VERSIONCOMMANDS") then Some (commands_text about paths)
    else if bytes_eq word (codes "STATS") then stats_told about
    else refused_path (path_of word)

-- a text, where one is wanted
abbrev pub IsText : Option (Vec ℕ Global) → Option (List ℕ) → Type 0
IsText None wanted = wanted ≡ None
IsText (Some text) wanted = wanted ≡ Some text.items

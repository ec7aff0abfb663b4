-- What the words of a command line may be.
use Rattle.std.specs.Prelude.{ℕ, ⊤, ◌<◌, ◌≤◌, List, Option, Result, Ok, Err, length}
use Rattle.clap.specs.Words.{HasMatchesOf, app_of}
use Rattle.clap.specs.declared.builder.command.Command.{Command}
use Rattle.clap.specs.declared.parser.matches.ArgMatches.{ArgMatches}
use Rattle.std.specs.declared.alloc.AllocError.{AllocError}
use Rattle.std.specs.Io.KnownBytes.{Appends}
use Rattle.av_status.specs.declared.status.Status.{Status}
use Rattle.av_status.specs.declared.status.Status.TheVariants.{Done, Refused, Usage, Memory, Device, Found, FoundInPart}

-- a path that a socket can have: 1 to 107 bytes
abbrev pub IsSocketPath : List ℕ → Type 0
IsSocketPath path = (1 ≤ length path) × (length path ≤ 107)

-- the matches are those of these words by the commands, which were made
abbrev pub AreOfWords : Result Command AllocError → List (List ℕ) → ArgMatches → Type 0
AreOfWords (Ok command) words matches = HasMatchesOf (app_of command) words matches
AreOfWords (Err e) words matches = ⊥

-- a text was written
pub record IsWritten (old new : Option (List ℕ)) : Type 0 where
  pub text : List ℕ
  pub some : 0 < length text
  pub appended : Appends old new text

-- How a program ends whose words ask for nothing, by what its standard output had and has. It ends well only if help was written;
-- else the words were not understood, or that could not be reported.
abbrev pub IsOfWords : Option (List ℕ) → Option (List ℕ) → Status → Type 0
IsOfWords old new Done = IsWritten old new
IsOfWords old new Refused = ⊥
IsOfWords old new Usage = ⊤
IsOfWords old new Memory = ⊤
IsOfWords old new Device = ⊤
IsOfWords old new Found = ⊥
IsOfWords old new FoundInPart = ⊥

-- What is written of files that the words name, and that are opened here or for a service at a socket. No clause ties a content to the disk.
use Rattle.std.specs.Prelude.{ℕ, ◌<◌, List, Option, length, map}
use Rattle.std.specs.Borrow.{Bor}
use Rattle.av_host.specs.Groups.{AreHostedInGroups, AreTrueSoFar}
use Rattle.av_program.specs.List.{AreNamed}
use Rattle.av_program.specs.Sets.{IsTrustedFor}
use Rattle.av_sigset.specs.Set.{NumberedSet}
use Rattle.av_sockets.specs.Filter.{AreFiltered, AreToldSoFar}
use Rattle.av_sockets.specs.Run.{first}
use Rattle.av_status.specs.Tally.{no_files}
use Rattle.av_status.specs.declared.status.Status.{Status}
use Rattle.av_status.specs.declared.tally.Wishes.{Wishes}
use Rattle.av_words.specs.declared.request.Named.{Named}
use Rattle.avscan_words.specs.declared.request.Filter.{Filter}
use Rattle.avscan_words.specs.declared.request.Host.{Host}

-- of a file that has been read nothing is known but that it was
abbrev pub Read : List ℕ → List ℕ → Type 0
Read name content = Unit {0}

-- the names of the words, and of their list, each of which is text: one at least
abbrev pub AreAllNames : Named → List (Bor (List ℕ)) → Type 0
AreAllNames named names = AreNamed named (map (λ n. n.now) names) no_files no_files × (0 < length names)

-- All files that the words name were opened in groups by so many openers, under a set. Their lines were written, each true of a content
-- that was read for its name, and the status is that of all these files.
pub record HostsAll (named : Named) (set : NumberedSet) (openers : ℕ) (wishes : Wishes) (old new : Option (List ℕ)) (status : Status) : Type 0 where
  pub names : List (Bor (List ℕ))
  pub all : AreAllNames named names
  pub hosted : AreHostedInGroups Read set openers names wishes old new status

-- nothing was written but such lines
pub record HostsSoFar (set : NumberedSet) (openers : ℕ) (wishes : Wishes) (old new : Option (List ℕ)) : Type 0 where
  pub names : List (Bor (List ℕ))
  pub so_far : AreTrueSoFar Read set openers names wishes no_files old new

-- the same as the words ask for it, under the set of a file that is signed with a key where they name one
pub record AreHostedAsNamed (asked : Host) (old new : Option (List ℕ)) (status : Status) : Type 0 where
  pub set : NumberedSet
  pub trusted : IsTrustedFor asked.trust set
  pub hosted : HostsAll asked.named set asked.openers asked.named.wishes old new status

pub record AreHostedSoFar (asked : Host) (old new : Option (List ℕ)) : Type 0 where
  pub set : NumberedSet
  pub so_far : HostsSoFar set asked.openers asked.named.wishes old new

-- all files that the words name were opened by a filter: their lines were written, and the status is that of all
pub record AreFilteredAsNamed (asked : Filter) (old new : Option (List ℕ)) (status : Status) : Type 0 where
  pub names : List (Bor (List ℕ))
  pub named : AreAllNames asked.named names
  pub filtered : AreFiltered Read names asked.named.wishes old new status

-- nothing was written but such lines
pub record AreFilteredSoFar (asked : Filter) (old new : Option (List ℕ)) : Type 0 where
  pub names : List (Bor (List ℕ))
  pub so_far : AreToldSoFar Read asked.named.wishes no_files old first names new

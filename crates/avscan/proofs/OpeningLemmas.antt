-- What was written of files that are opened, put together; and that nothing was.
use Rattle.std.proofs.Common.{ℕ, ◌≡◌, List, [], Option, subst}
use Rattle.std.specs.Borrow.{Bor}
use Rattle.av_host.proofs.PartLemmas.{none_more}
use Rattle.av_host.specs.Groups.{AreHostedInGroups, AreTrueSoFar, nothing}
use Rattle.av_program.specs.Sets.{IsTrustedFor}
use Rattle.av_sigset.specs.Set.{NumberedSet}
use Rattle.av_sockets.proofs.GroupLemmas.{none_told}
use Rattle.av_sockets.specs.Filter.{AreFiltered, AreToldSoFar}
use Rattle.av_sockets.specs.Run.{first}
use Rattle.av_status.specs.Tally.{no_files}
use Rattle.av_status.specs.declared.status.Status.{Status}
use Rattle.av_status.specs.declared.tally.Wishes.{Wishes}
use Rattle.av_words.specs.declared.request.Named.{Named}
use Rattle.avscan_words.specs.declared.request.Filter.{Filter}
use Rattle.avscan_words.specs.declared.request.Host.{Host}
use Rattle.avscan.specs.Opening.{AreAllNames, AreFilteredAsNamed, AreFilteredSoFar, AreHostedAsNamed, AreHostedSoFar, HostsAll, HostsSoFar, Read}

pub none_hosted : (set : NumberedSet) (openers : ℕ) (wishes : Wishes) (old : Option (List ℕ)) → HostsSoFar set openers wishes old old
none_hosted set openers wishes old = record { names = []; so_far = none_more Read set openers [] wishes no_files old 0 no_files old nothing }

-- so it is without a set
pub no_set : (asked : Host) (old : Option (List ℕ)) → AreHostedSoFar asked old old
no_set asked old = record {
  set = record { version = 0; signatures = [] };
  so_far = none_hosted (record { version = 0; signatures = [] }) asked.openers asked.named.wishes old;
}

pub none_filtered : (asked : Filter) (old : Option (List ℕ)) → AreFilteredSoFar asked old old
none_filtered asked old = record { names = []; so_far = none_told Read asked.named.wishes no_files old first [] }

pub so_far : (set : NumberedSet) (openers : ℕ) (wishes : Wishes) (old new : Option (List ℕ)) (names : List (Bor (List ℕ))) → AreTrueSoFar Read set openers names wishes no_files old new → HostsSoFar set openers wishes old new
so_far set openers wishes old new names told = record { names = names; so_far = told }

pub hosts_all : (named : Named) (set : NumberedSet) (openers : ℕ) (wishes : Wishes) (old new : Option (List ℕ)) (status : Status) (names lent : List (Bor (List ℕ))) → AreAllNames named names → lent ≡ names
    → AreHostedInGroups Read set openers lent wishes old new status → HostsAll named set openers wishes old new status
hosts_all named set openers wishes old new status names lent all is hosted =
    record { names = names; all = all; hosted = subst (λ ns. AreHostedInGroups Read set openers ns wishes old new status) is hosted }

pub of_set : (asked : Host) (set : NumberedSet) (old new : Option (List ℕ)) → HostsSoFar set asked.openers asked.named.wishes old new → AreHostedSoFar asked old new
of_set asked set old new told = record { set = set; so_far = told }

pub all_of_set : (asked : Host) (set : NumberedSet) (old new : Option (List ℕ)) (status : Status) → IsTrustedFor asked.trust set → HostsAll asked.named set asked.openers asked.named.wishes old new status → AreHostedAsNamed asked old new status
all_of_set asked set old new status trusted hosted = record { set = set; trusted = trusted; hosted = hosted }

pub filters_so_far : (asked : Filter) (old new : Option (List ℕ)) (names : List (Bor (List ℕ))) → AreToldSoFar Read asked.named.wishes no_files old first names new → AreFilteredSoFar asked old new
filters_so_far asked old new names told = record { names = names; so_far = told }

pub filters_all : (asked : Filter) (old new : Option (List ℕ)) (status : Status) (names lent : List (Bor (List ℕ))) → AreAllNames asked.named names → lent ≡ names
    → AreFiltered Read lent asked.named.wishes old new status → AreFilteredAsNamed asked old new status
filters_all asked old new status names lent all is filtered =
    record { names = names; named = all; filtered = subst (λ ns. AreFiltered Read ns asked.named.wishes old new status) is filtered }

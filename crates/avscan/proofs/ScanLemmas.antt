-- Scans as the words ask for them.
use Rattle.std.proofs.Common.{ℕ, ◌≡◌, ◌∙◌, ◌≤◌, ◌&&◌, if◌then◌else◌, false, true, List, Option, None, Some, ap, inl, inr, length, map, refl, subst}
use Rattle.std.specs.Borrow.{Bor}
use Rattle.std.specs.Prelude.{◌⊎◌, is_some}
use Rattle.av_files.specs.Findings.{NamedSet}
use Rattle.av_files.specs.declared.finding.Finding as files
use Rattle.av_program.specs.Sets.{AreAsked}
use Rattle.av_program.specs.declared.scanners.Sets.{Sets}
use Rattle.av_scan.proofs.EndLemmas.{ends_weaker}
use Rattle.av_scan.specs.Feed.{left_of}
use Rattle.av_scan.specs.Matches.{found_in}
use Rattle.av_scan.specs.Outcome.{Ends}
use Rattle.av_scan.specs.Told.{AreFindings}
use Rattle.av_scan.specs.declared.feed.Folders.TheVariants.{Entered, Refused}
use Rattle.av_scan.specs.declared.scanning.Matches.{Matches}
use Rattle.av_status.specs.Tally.{no_files}
use Rattle.av_status.specs.declared.status.Status.{Status}
use Rattle.av_status.specs.declared.tally.Tally.{Tally}
use Rattle.av_status.specs.declared.tally.Wishes.{Wishes}
use Rattle.av_words.specs.declared.request.Finding.{Finding}
use Rattle.avscan_words.specs.declared.request.Scan.{Scan}
use Rattle.avscan.specs.Scanning.{AreOfContent, AsksFor, EndsOfAll, EndsUnder, IsNotBegun, IsScanOf, folders_of, matches_of, names_scanned}

-- where no fault is passed over all names are scanned
pub all_names : (finding : Finding) (names : List (List ℕ)) → finding.keeps_going ≡ false → Some names ≡ names_scanned finding names
all_names finding names ends = rw ends refl

-- else those are that come
pub coming_names : (finding : Finding) (names : List (Bor (List ℕ))) → finding.keeps_going ≡ true → left_of (folders_of finding) 0 names ≡ names_scanned finding (map (λ n. n.now) names)
coming_names finding names goes_on =
    rw goes_on (elim finding.is_recursive as (λ b. left_of (if b then Entered else Refused) 0 names ≡ (if true && b then None else Some (map (λ n. n.now) names))) [ true ↦ refl | false ↦ refl ])

module _ {F : Type 0} (asked : Scan) (matches : Matches) (most : ℕ) (is_of : List ℕ → F → Type 0) (remaining : F → Option (List ℕ)) (sets : List NamedSet) where
  -- what is found in a file is what a content has
  of_content : matches ≡ matches_of asked → most ≡ asked.finding.max_size → (name : List ℕ) (fs : List files.Finding) → AreFindings matches most is_of remaining sets name fs → AreOfContent asked sets name fs
  of_content matches_is most_is name fs are = record {
    content = are.judged.content;
    short = subst (λ n. length are.judged.content ≤ n) most_is are.judged.short;
    found = are.judged.found ∙ ap (λ m. found_in m sets are.judged.content) matches_is;
  }

  -- a scan that goes as the words ask for it ends so
  pub ends_as_asked : (wishes : Wishes) (folder : Option (Bor (List ℕ))) (before : Tally) (old new : Option (List ℕ)) (given : List (List ℕ)) (names : Option (List (List ℕ))) (status : Status)
      → matches ≡ matches_of asked → most ≡ asked.finding.max_size → wishes ≡ asked.named.wishes → folder ≡ asked.folder → before ≡ no_files → names ≡ names_scanned asked.finding given
      → Ends (AreFindings matches most is_of remaining sets) (is_some folder) wishes sets before old new names status → EndsUnder asked sets given old new status
  ends_as_asked wishes folder before old new given names status matches_is most_is wishes_is folder_is before_is names_is ends =
      let of_contents = ends_weaker _ (AreOfContent asked sets) (of_content matches_is most_is) (is_some folder) wishes sets before old new names status ends in
      let of_none = subst (λ t. Ends (AreOfContent asked sets) (is_some folder) wishes sets t old new names status) before_is of_contents in
      let of_names = subst (λ ns. Ends (AreOfContent asked sets) (is_some folder) wishes sets no_files old new ns status) names_is of_none in
      let of_wishes = subst (λ w. Ends (AreOfContent asked sets) (is_some folder) w sets no_files old new (names_scanned asked.finding given) status) wishes_is of_names in
      subst (λ f. Ends (AreOfContent asked sets) (is_some f) asked.named.wishes sets no_files old new (names_scanned asked.finding given) status) folder_is of_wishes

-- so it ends under the sets that the words name
pub of_sets : (asked : Scan) (words : Sets) (sets : List NamedSet) (old new : Option (List ℕ)) (status : Status) → AsksFor asked words → AreAsked words sets
    → IsNotBegun old new status ⊎ EndsOfAll asked sets old new status → IsScanOf asked old new status
of_sets asked words sets old new status asks are (inl not) = inl not
of_sets asked words sets old new status asks are (inr ended) = inr (record { words = words; asks = asks; sets = sets; are = are; ended = ended })

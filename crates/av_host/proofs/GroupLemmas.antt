-- Files that a host opens group after group.
use Rattle.std.proofs.Common.{ℕ, ◌≡◌, ◌≢◌, ◌+◌, ◌-◌, ◌≤◌, List, Option, drop, length, take, sym, subst, take-add, take-append-drop}
use Rattle.std.specs.Borrow.{Bor}
use Rattle.std.proofs.lemmas.List.{drop_all, take_rest}
use Rattle.av_status.specs.declared.status.Status.{Status}
use Rattle.av_status.specs.declared.status.Status.TheVariants.{Done}
use Rattle.av_status.specs.declared.tally.Tally.{Tally}
use Rattle.av_status.specs.declared.tally.Wishes.{Wishes}
use Rattle.av_host.proofs.FileLemmas.{told_of}
use Rattle.av_host.specs.Brought.{AreTold}
use Rattle.av_host.specs.Files.{HoldsContents}
use Rattle.av_sigset.specs.Set.{NumberedSet}
use Rattle.av_store.specs.Store.{Store}
use Rattle.av_host.specs.Groups.{AreInGroups, AreOpened, more}

module _ (has_content : List ℕ → List ℕ → Type 0) (set : NumberedSet) (openers : ℕ) (wishes : Wishes) (before : Tally) (old : Option (List ℕ)) (names : List (Bor (List ℕ))) where
  -- one group more, of those that are left behind a place
  one_more : (volume : Store) (done count : ℕ) (counted after : Tally) (held new : Option (List ℕ)) (status : Status)
      → AreInGroups has_content set openers wishes before old (take done names) counted held Done
      → HoldsContents has_content (take count (take (length names - done) (drop done names))) volume → AreTold volume set openers (take count (take (length names - done) (drop done names))) wishes counted after held new status
      → AreInGroups has_content set openers wishes before old (take (done + count) names) after new status
  one_more volume done count counted after held new status told holds group =
      let read : HoldsContents has_content (take count (drop done names)) volume = subst (λ rest. HoldsContents has_content (take count rest) volume) (take_rest names done) holds in
      subst (λ ns. AreInGroups has_content set openers wishes before old ns after new status) (sym (take-add done count names))
      (more read.files (take done names) (take count (drop done names)) counted after held new status told read.read
      (told_of read.files volume set openers (take count (drop done names)) wishes counted after held new status read.volume_is
      (subst (λ rest. AreTold volume set openers (take count rest) wishes counted after held new status) (take_rest names done) group)))

  -- a group ended well
  pub goes_on : (volume : Store) (done count : ℕ) (counted after : Tally) (held new : Option (List ℕ)) (status : Status) → status ≡ Done
      → AreInGroups has_content set openers wishes before old (take done names) counted held Done
      → HoldsContents has_content (take count (take (length names - done) (drop done names))) volume → AreTold volume set openers (take count (take (length names - done) (drop done names))) wishes counted after held new status
      → AreInGroups has_content set openers wishes before old (take (done + count) names) after new Done
  goes_on volume done count counted after held new status well told holds group =
      subst (λ s. AreInGroups has_content set openers wishes before old (take (done + count) names) after new s) well (one_more volume done count counted after held new status told holds group)

  -- a group ended otherwise
  pub at_fault : (volume : Store) (done count : ℕ) (counted after : Tally) (held new : Option (List ℕ)) (status : Status) → status ≢ Done
      → AreInGroups has_content set openers wishes before old (take done names) counted held Done
      → HoldsContents has_content (take count (take (length names - done) (drop done names))) volume → AreTold volume set openers (take count (take (length names - done) (drop done names))) wishes counted after held new status
      → AreOpened has_content set openers names wishes before after old new status
  at_fault volume done count counted after held new status failed told holds group =
      record {
        opened = take (done + count) names;
        left = drop (done + count) names;
        all = take-append-drop (done + count) names;
        told = one_more volume done count counted after held new status told holds group;
        none_left = λ well. absurd (failed well);
      }

  -- all were opened
  pub at_end : (done : ℕ) (after : Tally) (new : Option (List ℕ)) → length names ≤ done
      → AreInGroups has_content set openers wishes before old (take done names) after new Done → AreOpened has_content set openers names wishes before after old new Done
  at_end done after new all told =
      record { opened = take done names; left = drop done names; all = take-append-drop done names; told = told; none_left = λ _. drop_all done names all }

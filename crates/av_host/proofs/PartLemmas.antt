-- What was written of a run that ends with a fault.
use Rattle.std.proofs.Common.{ℕ, ◌++◌, ◌-◌, List, [], Option, Result, Ok, Err, length, take, drop, take-append-drop, refl, ap, subst, ◌∙◌}
use Rattle.std.proofs.KnownBytes.{Appends-nil}
use Rattle.std.proofs.lemmas.List.{take_rest}
use Rattle.std.specs.Borrow.{Bor}
use Rattle.std.specs.Result.{OnErr}
use Rattle.av_files.specs.Volume.{volume_of_files}
use Rattle.av_host.specs.Brought.{IsToldInPart}
use Rattle.av_host.specs.Files.{HoldsContents}
use Rattle.av_host.specs.Groups.{AreInGroups, AreOpened, AreTrueSoFar}
use Rattle.av_sigset.specs.Set.{NumberedSet}
use Rattle.av_status.specs.declared.status.Status.{Status}
use Rattle.av_status.specs.declared.status.Status.TheVariants.{Done}
use Rattle.av_status.specs.declared.tally.Tally.{Tally}
use Rattle.av_status.specs.declared.tally.Wishes.{Wishes}
use Rattle.av_store.specs.Store.{Store}

-- what is so, is so of a result
pub on_err : {A B : Type 0} (r : Result A B) {P : Type 0} → P → OnErr r P
on_err (Ok v) p = tt
on_err (Err e) p = p

-- nothing was
pub nothing_told : (v : Store) (set : NumberedSet) (wishes : Wishes) (old : Option (List ℕ)) → IsToldInPart v set wishes old old
nothing_told v set wishes old = record { opened = []; are_true = tt; front = record { front = []; back = []; parts = refl; appended = Appends-nil old } }

module _ (has : List ℕ → List ℕ → Type 0) (set : NumberedSet) (openers : ℕ) (names : List (Bor (List ℕ))) (wishes : Wishes) (before : Tally) (old : Option (List ℕ)) where
  -- the groups that were opened, and no more
  pub groups_told : (tally : Tally) (new : Option (List ℕ)) (ended : Status) → AreOpened has set openers names wishes before tally old new ended → AreTrueSoFar has set openers names wishes before old new
  groups_told tally new ended o = record {
    opened = o.opened;
    group = [];
    left = o.left;
    all = o.all;
    tally = tally;
    ended = ended;
    held = new;
    told = o.told;
    files = [];
    read = record { named = refl; contents = tt };
    last = nothing_told (volume_of_files []) set wishes new;
  }

  -- the same of groups that all ended well, and no group more was read
  pub none_more : (done : ℕ) (tally : Tally) (held : Option (List ℕ)) → AreInGroups has set openers wishes before old (take done names) tally held Done → AreTrueSoFar has set openers names wishes before old held
  none_more done tally held told = record {
    opened = take done names;
    group = [];
    left = drop done names;
    all = take-append-drop done names;
    tally = tally;
    ended = Done;
    held = held;
    told = told;
    files = [];
    read = record { named = refl; contents = tt };
    last = nothing_told (volume_of_files []) set wishes held;
  }

  -- one more, which ended with a fault
  part_more : (done count : ℕ) (tally : Tally) (held new : Option (List ℕ)) (volume : Store) → AreInGroups has set openers wishes before old (take done names) tally held Done
      → HoldsContents has (take count (drop done names)) volume → IsToldInPart volume set wishes held new → AreTrueSoFar has set openers names wishes before old new
  part_more done count tally held new volume told holds part = record {
    opened = take done names;
    group = take count (drop done names);
    left = drop count (drop done names);
    all = ap (λ l. take done names ++ l) (take-append-drop count (drop done names)) ∙ take-append-drop done names;
    tally = tally;
    ended = Done;
    held = held;
    told = told;
    files = holds.files;
    read = holds.read;
    last = subst (λ v. IsToldInPart v set wishes held new) holds.volume_is part;
  }

  -- the same of a group out of the files that are left
  pub part_of_rest : (done count : ℕ) (tally : Tally) (held new : Option (List ℕ)) (volume : Store) → AreInGroups has set openers wishes before old (take done names) tally held Done
      → HoldsContents has (take count (take (length names - done) (drop done names))) volume → IsToldInPart volume set wishes held new → AreTrueSoFar has set openers names wishes before old new
  part_of_rest done count tally held new volume told holds part =
      part_more done count tally held new volume told (subst (λ rest. HoldsContents has (take count rest) volume) (take_rest names done) holds) part

-- How scans end.
use Rattle.std.proofs.Common.{ℕ, ◌≡◌, Bool, List, [], ◌∷◌, Option, Result, Ok, Err, append-nil, refl, subst, sym}
use Rattle.std.proofs.KnownBytes.{Appends-nil}
use Rattle.std.proofs.Math.Logic.{∥∥₁_map}
use Rattle.std.specs.Io.KnownBytes.{Appends, Keeps}
use Rattle.std.specs.Prelude.{IfOk}
use Rattle.av_base.proofs.DeviceLemmas.{Appends-kept}
use Rattle.av_base.specs.Device.{AppendsPrefix}
use Rattle.av_files.specs.Findings.{NamedSet}
use Rattle.av_files.specs.declared.finding.Finding.{Finding}
use Rattle.av_scan.specs.Outcome.{AreScanned, AreScannedSoFar, AreTrue, Ends, IsEndOf, Outcome, all_scanned, concluded_so, counts_text, ended_status, failed, failed_at_counts, failed_at_last}
use Rattle.av_scan.specs.declared.told.Unscanned.{Unscanned}
use Rattle.av_status.proofs.StatusLemmas.{alone}
use Rattle.av_status.specs.Status.{IsFault, graver_status}
use Rattle.av_status.specs.declared.status.Status.{Status}
use Rattle.av_status.specs.declared.status.Status.TheVariants.{Done, Device}
use Rattle.av_status.specs.declared.tally.Tally.{Tally}
use Rattle.av_status.specs.declared.tally.Wishes.{Wishes}

abbrev Truth : Type 1
Truth = List ℕ → List Finding → Type 0

abbrev Bytes : Type 0
Bytes = Option (List ℕ)

abbrev Names : Type 0
Names = Option (List (List ℕ))

nothing_scanned : (is_true : Truth) (wishes : Wishes) (sets : List NamedSet) (old : Bytes) → AreScannedSoFar is_true wishes sets old old
nothing_scanned is_true wishes sets old = record { outcomes = []; are_true = tt; front = record { front = []; back = []; parts = refl; appended = Appends-nil old } }

-- a fault before any line
pub failed_at_first : (is_true : Truth) (moves : Bool) (wishes : Wishes) (sets : List NamedSet) (before : Tally) (old : Bytes) (names : Names) (s : Status) → IsFault s → Ends is_true moves wishes sets before old old names s
failed_at_first is_true moves wishes sets before old names s fault = failed s Done (nothing_scanned is_true wishes sets old) fault (alone s fault)

-- the counts were written, and then a flush kept them
pub ended_well : (wishes : Wishes) (after : Tally) (left : Option ℕ) (old mid new : Bytes) (status : Status) → Appends old mid (counts_text wishes after left) → Keeps mid new
    → status ≡ ended_status wishes after → IsEndOf wishes after left old new status
ended_well wishes after left old mid new status counts keeps e = concluded_so (Appends-kept old mid new _ counts keeps) e

-- the counts were not written whole
pub counts_failed : (wishes : Wishes) (after : Tally) (left : Option ℕ) (old new : Bytes) (fault worst status : Status) → AppendsPrefix old new (counts_text wishes after left)
    → IsFault fault → status ≡ graver_status worst fault → IsEndOf wishes after left old new status
counts_failed wishes after left old new fault worst status part is_fault e = failed_at_last fault worst part is_fault e

-- the counts were written, and then a flush failed
pub flush_failed : (wishes : Wishes) (after : Tally) (left : Option ℕ) (old mid new : Bytes) (fault worst status : Status) → Appends old mid (counts_text wishes after left) → Keeps mid new
    → fault ≡ Device → status ≡ graver_status worst fault → IsEndOf wishes after left old new status
flush_failed wishes after left old mid new fault worst status counts keeps is e =
    let part : AppendsPrefix old new (counts_text wishes after left) = record { front = counts_text wishes after left; back = []; parts = sym (append-nil _); appended = Appends-kept old mid new _ counts keeps } in
    failed_at_last fault worst part (subst IsFault (sym is) tt) e

-- all was scanned, and then the run ended
pub ended : (is_true : Truth) (moves : Bool) (wishes : Wishes) (sets : List NamedSet) (before after : Tally) (left : Option ℕ) (old mid new : Bytes) (names : Names) (status : Status) → AreScanned is_true moves wishes sets before after old mid names
    → IsEndOf wishes after left mid new status → Ends is_true moves wishes sets before old new names status
ended is_true moves wishes sets before after left old mid new names status s (concluded_so counts e) = all_scanned after left mid s counts e
ended is_true moves wishes sets before after left old mid new names status s (failed_at_last fault worst part is_fault e) =
    failed_at_counts after left mid fault worst s part is_fault e

judged_weaker : (P Q : Truth) → ((name : List ℕ) (fs : List Finding) → P name fs → Q name fs) → (name : List ℕ) (judged : Result (List Finding) Unscanned) → IfOk judged (λ fs. ∥ P name fs ∥₁) → IfOk judged (λ fs. ∥ Q name fs ∥₁)
judged_weaker P Q weaker name (Ok fs) true = ∥∥₁_map true (weaker name fs)
judged_weaker P Q weaker name (Err u) true = tt

true_weaker : (P Q : Truth) → ((name : List ℕ) (fs : List Finding) → P name fs → Q name fs) → (os : List Outcome) → AreTrue P os → AreTrue Q os
true_weaker P Q weaker [] are = tt
true_weaker P Q weaker (o ∷ os) are = (judged_weaker P Q weaker o.name o.judged are.0, true_weaker P Q weaker os are.1)

scanned_weaker : (P Q : Truth) → ((name : List ℕ) (fs : List Finding) → P name fs → Q name fs) → (moves : Bool) (wishes : Wishes) (sets : List NamedSet) (before after : Tally) (old new : Bytes) (names : Names)
    → AreScanned P moves wishes sets before after old new names → AreScanned Q moves wishes sets before after old new names
scanned_weaker P Q weaker moves wishes sets before after old new names s = record {
  outcomes = s.outcomes;
  of_names = s.of_names;
  are_true = true_weaker P Q weaker s.outcomes s.are_true;
  are_moved = s.are_moved;
  lines = s.lines;
  counts = s.counts;
}

so_far_weaker : (P Q : Truth) → ((name : List ℕ) (fs : List Finding) → P name fs → Q name fs) → (wishes : Wishes) (sets : List NamedSet) (old new : Bytes)
    → AreScannedSoFar P wishes sets old new → AreScannedSoFar Q wishes sets old new
so_far_weaker P Q weaker wishes sets old new s = record { outcomes = s.outcomes; are_true = true_weaker P Q weaker s.outcomes s.are_true; front = s.front }

-- what is true of findings implies something else of them
pub ends_weaker : (P Q : Truth) → ((name : List ℕ) (fs : List Finding) → P name fs → Q name fs) → (moves : Bool) (wishes : Wishes) (sets : List NamedSet) (before : Tally) (old new : Bytes) (names : Names) (status : Status)
    → Ends P moves wishes sets before old new names status → Ends Q moves wishes sets before old new names status
ends_weaker P Q weaker moves wishes sets before old new names status (all_scanned after left mid s counts is) =
    all_scanned after left mid (scanned_weaker P Q weaker moves wishes sets before after old mid names s) counts is
ends_weaker P Q weaker moves wishes sets before old new names status (failed fault worst s is_fault is) = failed fault worst (so_far_weaker P Q weaker wishes sets old new s) is_fault is
ends_weaker P Q weaker moves wishes sets before old new names status (failed_at_counts after left mid fault worst s part is_fault is) =
    failed_at_counts after left mid fault worst (scanned_weaker P Q weaker moves wishes sets before after old mid names s) part is_fault is

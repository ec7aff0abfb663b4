-- A scan on its way.
use Rattle.std.proofs.Common.{ℕ, ◌≡◌, ◌∙◌, ◌++◌, Bool, List, [], ◌∷◌, Option, None, Some, Result, Ok, Err, map, refl, sym, ap, subst, append_assoc, append-nil}
use Rattle.std.specs.Prelude.{IfOk}
use Rattle.std.specs.Result.{ForOk}
use Rattle.std.specs.Io.KnownBytes.{Appends}
use Rattle.std.proofs.KnownBytes.{Appends-nil, Appends-trans}
use Rattle.av_base.proofs.DeviceLemmas.{prefix_after}
use Rattle.av_base.specs.Device.{AppendsPrefix}
use Rattle.av_files.specs.Findings.{NamedSet}
use Rattle.av_files.specs.declared.finding.Finding.{Finding}
use Rattle.av_scan.proofs.NameLemmas.{all_begun, all_taken}
use Rattle.av_scan.specs.Coming.{AreAll, IsUnderWay}
use Rattle.av_scan.specs.Moving.{IsCountedOn, IsEndOfMove, is_moved, with_fault}
use Rattle.av_scan.specs.Outcome.{AreMoved, AreOfNames, AreScanned, AreScannedSoFar, AreTrue, Outcome, counted, counted_from, shown_text, texts_of}
use Rattle.av_scan.specs.declared.coming.Coming.{Coming}
use Rattle.av_scan.specs.declared.coming.Coming.TheVariants.{More, Over}
use Rattle.av_scan.specs.declared.told.Unscanned.{Unscanned}
use Rattle.av_status.specs.declared.status.Status.{Status}
use Rattle.av_status.specs.declared.status.Status.TheVariants.{Done}
use Rattle.av_status.specs.declared.tally.Tally.{Tally}
use Rattle.av_status.specs.declared.tally.Wishes.{Wishes}

abbrev Names : Type 0
Names = List (List ℕ)

-- one file more, in lines, in numbers, in verdicts and in names
texts_next : (wishes : Wishes) (sets : List NamedSet) (os : List Outcome) (o : Outcome) → texts_of wishes sets (os ++ o ∷ []) ≡ texts_of wishes sets os ++ shown_text wishes sets o.name o.judged
texts_next wishes sets [] o = append-nil (shown_text wishes sets o.name o.judged)
texts_next wishes sets (p ∷ os) o =
    let first = shown_text wishes sets p.name p.judged in
    ap (λ t. first ++ t) (texts_next wishes sets os o) ∙ sym (append_assoc first (texts_of wishes sets os) (shown_text wishes sets o.name o.judged))

counts_next : (t : Tally) (os : List Outcome) (o : Outcome) → counted_from t (os ++ o ∷ []) ≡ with_fault (counted (counted_from t os) o.judged) o.fault
counts_next t [] o = refl
counts_next t (p ∷ os) o = counts_next (with_fault (counted t p.judged) p.fault) os o

true_next : (is_true : List ℕ → List Finding → Type 0) (os : List Outcome) (o : Outcome) → AreTrue is_true os → IfOk o.judged (λ fs. ∥ is_true o.name fs ∥₁) → AreTrue is_true (os ++ o ∷ [])
true_next is_true [] o ts t = (t, tt)
true_next is_true (p ∷ os) o ts t = (ts.0, true_next is_true os o ts.1 t)

moved_next : (moves : Bool) (os : List Outcome) (o : Outcome) → AreMoved moves os → IsEndOfMove (is_moved moves o.judged) o.fault → AreMoved moves (os ++ o ∷ [])
moved_next moves [] o ms m = (m, tt)
moved_next moves (p ∷ os) o ms m = (ms.0, moved_next moves os o ms.1 m)

names_next : (os : List Outcome) (o : Outcome) → map (λ p. p.name) (os ++ o ∷ []) ≡ map (λ p. p.name) os ++ o.name ∷ []
names_next [] o = refl
names_next (p ∷ os) o = ap (λ t. p.name ∷ t) (names_next os o)

abbrev outcome : List ℕ → Result (List Finding) Unscanned → Status → Outcome
outcome n judged fault = record { name = n; judged = judged; fault = fault }

-- nothing was told yet
pub begun : (is_true : List ℕ → List Finding → Type 0) (moves : Bool) (wishes : Wishes) (sets : List NamedSet) (before : Tally) (old : Option (List ℕ)) (all : Option Names)
    → IsUnderWay is_true moves wishes sets before before old old all More [] all
begun is_true moves wishes sets before old all = record { outcomes = []; are_true = tt; are_moved = tt; lines = Appends-nil old; counts = refl; names = all_begun all }

-- all of these names wait, and none was told yet
pub begun_over : (is_true : List ℕ → List Finding → Type 0) (moves : Bool) (wishes : Wishes) (sets : List NamedSet) (before : Tally) (old : Option (List ℕ)) (waiting : Names)
    → IsUnderWay is_true moves wishes sets before before old old (Some waiting) Over waiting None
begun_over is_true moves wishes sets before old waiting = record { outcomes = []; are_true = tt; are_moved = tt; lines = Appends-nil old; counts = refl; names = refl }

-- one file is told, and moved or not
pub one_told : (is_true : List ℕ → List Finding → Type 0) (moves : Bool) (wishes : Wishes) (sets : List NamedSet) (before mid told after : Tally) (old held new : Option (List ℕ)) (all : Option Names) (c : Coming) (n : List ℕ) (waiting : Names) (left : Option Names) (judged : Result (List Finding) Unscanned)
    → IsUnderWay is_true moves wishes sets before mid old held all c (n ∷ waiting) left → IfOk judged (λ fs. ∥ is_true n fs ∥₁)
    → Appends held new (shown_text wishes sets n judged) → told ≡ counted mid judged → IsCountedOn (is_moved moves judged) told after
    → IsUnderWay is_true moves wishes sets before after old new all c waiting left
one_told is_true moves wishes sets before mid told after old held new all c n waiting left judged u true line count moved =
    let o = outcome n judged moved.0 in
    record {
      outcomes = u.outcomes ++ o ∷ [];
      are_true = true_next is_true u.outcomes o u.are_true true;
      are_moved = moved_next moves u.outcomes o u.are_moved moved.1;
      lines = subst (Appends old new) (sym (texts_next wishes sets u.outcomes o)) (Appends-trans old held new _ _ u.lines line);
      counts =
          moved.2 ∙ ap (λ t. with_fault t moved.0) (count ∙ ap (λ t. counted t judged) u.counts) ∙ sym (counts_next before u.outcomes o);
      names = subst (λ ns. AreAll all c ns waiting left) (sym (names_next u.outcomes o)) (all_taken all c (map (λ p. p.name) u.outcomes) waiting n left u.names);
    }

-- a front of the line of one file was written
pub told_in_part : (is_true : List ℕ → List Finding → Type 0) (moves : Bool) (wishes : Wishes) (sets : List NamedSet) (before mid : Tally) (old held new : Option (List ℕ)) (all : Option Names) (c : Coming) (n : List ℕ) (waiting : Names) (left : Option Names) (judged : Result (List Finding) Unscanned)
    → IsUnderWay is_true moves wishes sets before mid old held all c (n ∷ waiting) left → IfOk judged (λ fs. ∥ is_true n fs ∥₁)
    → AppendsPrefix held new (shown_text wishes sets n judged) → AreScannedSoFar is_true wishes sets old new
told_in_part is_true moves wishes sets before mid old held new all c n waiting left judged u true part =
    let o = outcome n judged Done in
    record {
      outcomes = u.outcomes ++ o ∷ [];
      are_true = true_next is_true u.outcomes o u.are_true true;
      front = subst (AppendsPrefix old new) (sym (texts_next wishes sets u.outcomes o)) (prefix_after old held new _ _ u.lines part);
    }

of_all : (all : Option Names) (os : List Outcome) (left : Option Names) → AreAll all Over (map (λ p. p.name) os) [] left → AreOfNames all os
of_all None os left a = tt
of_all (Some names) os left a = sym (a ∙ append-nil _)

-- all were told
pub all_told : (is_true : List ℕ → List Finding → Type 0) (moves : Bool) (wishes : Wishes) (sets : List NamedSet) (before after : Tally) (old new : Option (List ℕ)) (all : Option Names) (left : Option Names)
    → IsUnderWay is_true moves wishes sets before after old new all Over [] left → AreScanned is_true moves wishes sets before after old new all
all_told is_true moves wishes sets before after old new all left u = record {
  outcomes = u.outcomes;
  of_names = of_all all u.outcomes left u.names;
  are_true = u.are_true;
  are_moved = u.are_moved;
  lines = u.lines;
  counts = u.counts;
}

-- a step that keeps the names leaves the rest as it is
pub on_its_way : (is_true : List ℕ → List Finding → Type 0) (moves : Bool) (wishes : Wishes) (sets : List NamedSet) (before mid : Tally) (old new : Option (List ℕ)) (all : Option Names) (c d : Coming) (waiting after : Names) (left rest : Option Names)
    → IsUnderWay is_true moves wishes sets before mid old new all c waiting left → ((of : Option Names) (told : Names) → AreAll of c told waiting left → AreAll of d told after rest)
    → IsUnderWay is_true moves wishes sets before mid old new all d after rest
on_its_way is_true moves wishes sets before mid old new all c d waiting after left rest u keeps = record {
  outcomes = u.outcomes;
  are_true = u.are_true;
  are_moved = u.are_moved;
  lines = u.lines;
  counts = u.counts;
  names = keeps all (map (λ p. p.name) u.outcomes) u.names;
}

-- what findings carry with them
pub known : (judged : Result (List Finding) Unscanned) (P : List Finding → Type 0) → ForOk judged P → IfOk judged P
known (Ok fs) P f = f fs refl
known (Err u) P f = tt

-- Scans under several sets, one after the other.
use Rattle.std.proofs.Common.{ℕ, zero, suc, ◌≡◌, ◌<◌, ◌+◌, ◌++◌, List, [], ◌∷◌, length, get_or, set, slice_get, None, Some, rules, arith, subst, sym, ap, refl, ◌∙◌, append-nil, append_assoc}
use Rattle.std.proofs.lemmas.Option.{get_or_from_slice_get, slice_get-get_or, slice_get_within}
use Rattle.std.specs.Prelude.{⊤}
use Rattle.av_match.specs.Scanning.{IsScan, ScanState}
use Rattle.av_sigset.specs.Set.{NumberedSet}
use Rattle.av_files.specs.Findings.{AreScans, NamedSet, compiled_of, findings_from}
use Rattle.av_files.specs.declared.finding.Finding.{Finding}

-- so many scans have come to the bytes d, and the others are still those of c
abbrev pub AreHalfFed : ℕ → List NamedSet → ℕ → List ℕ → List ℕ → List ScanState → Type 0
AreHalfFed i [] bytes c d [] = ⊤
AreHalfFed i [] bytes c d (x ∷ xs) = ⊥
AreHalfFed i (s ∷ sets) bytes c d [] = ⊥
AreHalfFed zero (s ∷ sets) bytes c d (x ∷ xs) = IsScan (compiled_of s.set) bytes c x × AreHalfFed zero sets bytes c d xs
AreHalfFed (suc i) (s ∷ sets) bytes c d (x ∷ xs) = IsScan (compiled_of s.set) bytes d x × AreHalfFed i sets bytes c d xs

-- none has come further
pub none_fed : (sets : List NamedSet) (bytes : ℕ) (c d : List ℕ) (xs : List ScanState) → AreScans sets bytes c xs → AreHalfFed zero sets bytes c d xs
none_fed [] bytes c d [] are = tt
none_fed [] bytes c d (x ∷ xs) are = are
none_fed (s ∷ sets) bytes c d [] are = are
none_fed (s ∷ sets) bytes c d (x ∷ xs) are = (are.0, none_fed sets bytes c d xs are.1)

-- all have
pub all_fed : (i : ℕ) (sets : List NamedSet) (bytes : ℕ) (c d : List ℕ) (xs : List ScanState) → i ≡ length xs → AreHalfFed i sets bytes c d xs → AreScans sets bytes d xs
all_fed i [] bytes c d [] is are = tt
all_fed i [] bytes c d (x ∷ xs) is are = are
all_fed i (s ∷ sets) bytes c d [] is are = are
all_fed zero (s ∷ sets) bytes c d (x ∷ xs) is are = absurd (omega (arith, is))
all_fed (suc i) (s ∷ sets) bytes c d (x ∷ xs) is are = (are.0, all_fed i sets bytes c d xs (omega (arith, is)) are.1)

-- the next one is fed
pub next_fed : (i : ℕ) (sets : List NamedSet) (bytes : ℕ) (c d : List ℕ) (xs : List ScanState) (e : NamedSet) (o y : ScanState) → i < length sets
    → (IsScan (compiled_of (get_or sets i e).set) bytes c (get_or xs i o) → IsScan (compiled_of (get_or sets i e).set) bytes d y)
    → AreHalfFed i sets bytes c d xs → AreHalfFed (suc i) sets bytes c d (set xs i y)
next_fed i [] bytes c d xs e o y lt step are = absurd (omega (arith, lt))
next_fed i (s ∷ sets) bytes c d [] e o y lt step are = absurd are
next_fed zero (s ∷ sets) bytes c d (x ∷ xs) e o y lt step are = (step are.0, are.1)
next_fed (suc i) (s ∷ sets) bytes c d (x ∷ xs) e o y lt step are = (are.0, next_fed i sets bytes c d xs e o y (omega (arith, lt)) step are.1)

-- there are as many scans as sets
pub as_many : (i : ℕ) (sets : List NamedSet) (bytes : ℕ) (c d : List ℕ) (xs : List ScanState) → AreHalfFed i sets bytes c d xs → length sets ≡ length xs
as_many i [] bytes c d [] are = refl
as_many i [] bytes c d (x ∷ xs) are = absurd are
as_many i (s ∷ sets) bytes c d [] are = absurd are
as_many zero (s ∷ sets) bytes c d (x ∷ xs) are = ap suc (as_many zero sets bytes c d xs are.1)
as_many (suc i) (s ∷ sets) bytes c d (x ∷ xs) are = ap suc (as_many i sets bytes c d xs are.1)

-- the scan at a place is fed under the set there
pub fed_at : (i : ℕ) (sets : List NamedSet) (bytes : ℕ) (c d : List ℕ) (xs ys : List ScanState) (s : NamedSet) (of : NumberedSet) (x y : ScanState) → slice_get sets i ≡ Some s → of ≡ s.set
    → x ≡ get_or xs i x → (IsScan (compiled_of of) bytes c x → IsScan (compiled_of of) bytes d y) → ys ≡ set xs i y
    → AreHalfFed i sets bytes c d xs → AreHalfFed (i + 1) sets bytes c d ys
fed_at i sets bytes c d xs ys s of x y is of_set x_is step ys_is are =
    let same : of ≡ (get_or sets i s).set = of_set ∙ ap (λ t. t.set) (sym (get_or_from_slice_get sets i s s is)) in
    let next : suc i ≡ i + 1 = omega arith in
    let fed =
    next_fed i sets bytes c d xs s x y (slice_get_within sets i s is)
    (λ was. subst (λ t. IsScan (compiled_of t) bytes d y) same
    (step (subst (λ t. IsScan (compiled_of t) bytes c x) (sym same) (subst (λ z. IsScan (compiled_of (get_or sets i s).set) bytes c z) (sym x_is) was))))
    are in
    subst (λ n. AreHalfFed n sets bytes c d ys) next (subst (AreHalfFed (suc i) sets bytes c d) (sym ys_is) fed)

-- nothing is not something
no_some : {A : Type 0} {x : A} → None ≡ Some x → ⊥
no_some e = absurd (search rules)

-- there is a set for each scan
pub set_there : (i : ℕ) (sets : List NamedSet) (bytes : ℕ) (c d : List ℕ) (xs : List ScanState) → AreHalfFed i sets bytes c d xs → i < length xs → None ≡ slice_get sets i → ⊥
set_there i sets bytes c d (x ∷ xs) are lt none =
    let within : i < length sets = omega (arith, as_many i sets bytes c d (x ∷ xs) are, lt) in
    no_some (none ∙ slice_get-get_or sets i (record { name = []; set = record { version = 0; signatures = [] } }) within)
set_there i sets bytes c d [] are lt none = absurd (omega (arith, lt))

-- where no scan is left, no set is, and what was found is all
pub none_left : (sets : List NamedSet) (bytes : ℕ) (c : List ℕ) (xs : List ScanState) (place : ℕ) (found all : List Finding) → length xs ≡ 0
    → AreScans sets bytes c xs → found ++ findings_from place sets c ≡ all → found ≡ all
none_left [] bytes c xs place found all none are so = sym (append-nil found) ∙ so
none_left (s ∷ sets) bytes c [] place found all none are so = absurd are
none_left (s ∷ sets) bytes c (x ∷ xs) place found all none are so = absurd (omega (arith, none))

-- where no set is left, there is a scan under each
pub all_begun : (left sets : List NamedSet) (bytes : ℕ) (xs : List ScanState) → length left ≡ 0
    → ((more : List ScanState) → AreScans left bytes [] more → AreScans sets bytes [] (xs ++ more)) → AreScans sets bytes [] xs
all_begun [] sets bytes xs none so = subst (AreScans sets bytes []) (append-nil xs) (so [] tt)
all_begun (s ∷ left) sets bytes xs none so = absurd (omega (arith, none))

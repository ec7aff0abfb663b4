-- Sets that are read one after the other.
use Rattle.std.proofs.Common.{ℕ, add-one, false, true, true≢false, refl, Option, None, Some, get_or, length, take, take-suc, ◌+◌, ◌<◌, ◌≡◌, ◌∙◌, ◌++◌, List, [], ◌∷◌, ap, append-nil, append_assoc, map, subst, sym}
use Rattle.std.proofs.Math.Seq.{take-length}
use Rattle.std.proofs.lemmas.List.{map-append}
use Rattle.std.specs.Borrow.{Bor}
use Rattle.std.specs.List.{AllByRecursion}
use Rattle.std.specs.Prelude.{IfSome, IsSome, is_some}
use Rattle.av_files.specs.Findings.{NamedSet}
use Rattle.av_files.specs.Scan.{IsAdmitted}
use Rattle.av_program.specs.Sets.{AreOf, IsTrustFor}
use Rattle.av_sets.specs.Sets.{IsTrusted}
use Rattle.av_status.specs.declared.faults.EmptySets.{EmptySets}
use Rattle.av_trust.specs.Trust.{trust_by}
use Rattle.av_trust.specs.declared.trust.Trust.{Trust}

next : (P : NamedSet → Type 0) (sets : List NamedSet) (s : NamedSet) → AllByRecursion P sets → P s → AllByRecursion P (sets ++ s ∷ [])
next P [] s all one = (one, tt)
next P (u ∷ sets) s all one = (all.0, next P sets s all.1 one)

-- the trust in a key that was had where one was asked for
pub trust_for : (name : Option (Bor (List ℕ))) (key : Option (List ℕ)) (lent : Option (Bor (List ℕ))) → (name ≡ None → key ≡ None) → IfSome name (λ _. IsSome key) → is_some lent ≡ is_some key → IsTrustFor name (trust_by lent)
trust_for None key None none some is = refl
trust_for None key (Some k) none some is = absurd (true≢false (is ∙ ap is_some (none refl)))
trust_for (Some n) key (Some k) none some is = tt
trust_for (Some n) key None none some is = absurd (true≢false (sym (is ∙ some)))

-- one set
pub one_set : (t : Trust) (e : EmptySets) (s : NamedSet) (name : List ℕ) → s.name ≡ name → IsTrusted t s.set → IsAdmitted e s.set → AreOf t e (name ∷ []) (s ∷ [])
one_set t e s name is trusted admitted = record { named = ap (λ n. n ∷ []) is; trusted = (trusted, tt); admitted = (admitted, tt) }

-- one set more
pub one_more : (t : Trust) (e : EmptySets) (before : List (List ℕ)) (sets : List NamedSet) (s : NamedSet) (name : List ℕ) → s.name ≡ name → IsTrusted t s.set → IsAdmitted e s.set → AreOf t e before sets → AreOf t e (before ++ name ∷ []) (sets ++ s ∷ [])
one_more t e before sets s name is trusted admitted are = record {
  named = map-append (λ u. u.name) sets (s ∷ []) ∙ ap (λ l. l ++ s.name ∷ []) are.named ∙ ap (λ n. before ++ n ∷ []) is;
  trusted = next (λ s. IsTrusted t s.set) sets s are.trusted trusted;
  admitted = next (λ s. IsAdmitted e s.set) sets s are.admitted admitted;
}

-- no set more
pub none_more : (t : Trust) (e : EmptySets) (before : List (List ℕ)) (sets : List NamedSet) → AreOf t e before sets → AreOf t e (before ++ []) sets
none_more t e before sets are = subst (λ l. AreOf t e l sets) (sym (append-nil before)) are

-- the names so far, and then the next one
pub next_name : (t : Trust) (e : EmptySets) (before : List (List ℕ)) (names : List (Bor (List ℕ))) (i : ℕ) (d : Bor (List ℕ)) (sets : List NamedSet) → i < length names
    → AreOf t e ((before ++ map (λ n. n.now) (take i names)) ++ (get_or names i d).now ∷ []) sets → AreOf t e (before ++ map (λ n. n.now) (take (i + 1) names)) sets
next_name t e before names i d sets lt are =
    let more : take (i + 1) names ≡ take i names ++ get_or names i d ∷ [] = rw add-one (take-suc names i d lt) in
    let told : map (λ n. n.now) (take (i + 1) names) ≡ map (λ n. n.now) (take i names) ++ (get_or names i d).now ∷ [] =
    ap (map (λ n. n.now)) more ∙ map-append (λ n. n.now) (take i names) (get_or names i d ∷ []) in
    subst (λ l. AreOf t e l sets) (append_assoc before (map (λ n. n.now) (take i names)) ((get_or names i d).now ∷ []) ∙ ap (λ l. before ++ l) (sym told)) are

-- all names
pub all_names : (t : Trust) (e : EmptySets) (before : List (List ℕ)) (names : List (Bor (List ℕ))) (i : ℕ) (sets : List NamedSet) → i ≡ length names
    → AreOf t e (before ++ map (λ n. n.now) (take i names)) sets → AreOf t e (before ++ map (λ n. n.now) names) sets
all_names t e before names i sets is are = subst (λ l. AreOf t e (before ++ map (λ n. n.now) l) sets) (ap (λ k. take k names) is ∙ take-length names) are

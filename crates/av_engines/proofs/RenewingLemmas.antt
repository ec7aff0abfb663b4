-- A newer set comes to a service that runs.
use Rattle.std.proofs.Common.{ℕ, ◌≡◌, ◌<◌, ◌≤◌, ◌==◌, Bool, true, false, List, [], ◌∷◌, ◌++◌, arith, inl, inr, refl, sym, ap, ◌∙◌, eq-eqb, append-nil}
use Rattle.std.specs.Prelude.{Option, Some, IsSome, Result, Ok, Err, OnOk, ◌⊎◌, if◌then◌else◌}
use Rattle.std.proofs.lemmas.Bool.Decides.{eqb_tells}
use Rattle.std.specs.List.{AllByRecursion, flat_map}
use Rattle.std.specs.declared.alloc.AllocError.{AllocError}
use Rattle.av_base.specs.declared.refusal.Refusal.{Refusal}
use Rattle.av_frame.specs.Message.{Letter}
use Rattle.av_frame.specs.Spelling.{frame}
use Rattle.av_service.specs.Conduct.{Publishes}
use Rattle.av_service.specs.Desk.{Desk}
use Rattle.av_service.specs.Sound.{LendsUnderItsVersion}
use Rattle.av_sigset.specs.Catalogue.{IsFalling, latest, set_at}
use Rattle.av_sigset.specs.Set.{NumberedSet, patterns_of}
use Rattle.av_sigset.specs.declared.fault.CatalogueFault.{CatalogueFault}
use Rattle.av_sigset.specs.declared.signature.Pattern.{Pattern}
use Rattle.av_engines.specs.Fresh.{Gives, MayHappen, Refuses, Renews}
use Rattle.av_engines.specs.FreshEnd.{Freshens, IsPublished}
use Rattle.av_engines.specs.Serving.{patterns_at, patterns_in}

chosen : (s : NumberedSet) (b : Bool) (rest : Option NumberedSet) → IsSome (if b then Some s else rest) → (b ≡ true) ⊎ IsSome rest
chosen s true rest some = inl refl
chosen s false rest some = inr some

-- what is there among sets below a version is below it
not_above : (sets : List NumberedSet) (n v : ℕ) → AllByRecursion (λ t. t.version < n) sets → IsSome (set_at sets v) → v ≤ n
unfolding set_at
not_above [] n v all some = absurd cc
not_above (s ∷ sets) n v all some = go (chosen s (s.version == v) (set_at sets v) some) (not_above sets n v all.1)
  where
    go : ((s.version == v) ≡ true) ⊎ IsSome (set_at sets v) → (IsSome (set_at sets v) → v ≤ n) → v ≤ n
    go (inl same) rest = let here : s.version < n = all.0 in grind (arith, eqb_tells)
    go (inr there) rest = rest there

-- a set that is there is not above the newest
pub newest_above : (sets : List NumberedSet) (v : ℕ) → IsFalling sets → IsSome (set_at sets v) → v ≤ latest sets
unfolding set_at
newest_above [] v falling some = absurd cc
newest_above (s ∷ sets) v falling some = go (chosen s (s.version == v) (set_at sets v) some)
  where
    go : ((s.version == v) ≡ true) ⊎ IsSome (set_at sets v) → v ≤ s.version
    go (inl same) = grind (arith, eqb_tells)
    go (inr rest) = not_above sets s.version v falling.0 rest

on_ok : {P Q : Type 0} (told : Result (Unit {0}) AllocError) → (P → Q) → OnOk told P → OnOk told Q
on_ok (Ok done) f h = f h
on_ok (Err e) f h = tt

-- it is published, and what the filter is told of it was put, or memory was refused to that
pub renewed : (sets sets' : List NumberedSet) (d e : Desk) (had mid has : Option (List NumberedSet)) (waited waits : List ℕ) (told : Result (Unit {0}) AllocError) (set : NumberedSet) (messages : List Letter) (patterns : List Pattern)
    → IsPublished sets sets' d e set messages patterns → Gives had mid (set ∷ []) → has ≡ mid → OnOk told (waits ≡ waited ++ flat_map frame messages) → Freshens sets sets' d e had has waited waits told
renewed sets sets' d e had mid has waited waits told set messages patterns is given same put = record {
  happenings = Renews set ∷ [];
  silent = refl;
  given = rw same given;
  may = (is.may, tt);
  published = is.published;
  desk = is.desk;
  sent = on_ok told (λ e. e ∙ ap (λ ms. waited ++ flat_map frame ms) is.sent) put;
}

pub renewed_newest : LendsUnderItsVersion → (sets sets' : List NumberedSet) (d e : Desk) (set : NumberedSet) (messages : List Letter) (patterns : List Pattern)
    → IsPublished sets sets' d e set messages patterns → e.version ≤ latest sets'
renewed_newest law sets sets' d e set messages patterns is =
    let version : e.version ≡ set.version = ap (λ (k : Desk). k.version) is.desk ∙ law.version d (Publishes set.version) in
    let newest : latest sets' ≡ set.version = ap latest is.published in
    omega (arith, version, newest)

found : (s : NumberedSet) (sets : List NumberedSet) → set_at (s ∷ sets) s.version ≡ Some s
unfolding set_at
found s sets = rw (eq-eqb s.version s.version refl) refl

pub renewed_patterns : LendsUnderItsVersion → (sets sets' : List NumberedSet) (d e : Desk) (set : NumberedSet) (messages : List Letter) (patterns : List Pattern)
    → IsPublished sets sets' d e set messages patterns → patterns ≡ patterns_at sets' e.version
renewed_patterns law sets sets' d e set messages patterns is =
    let version : e.version ≡ set.version = ap (λ (k : Desk). k.version) is.desk ∙ law.version d (Publishes set.version) in
    let at : patterns_at sets' e.version ≡ patterns_of set.signatures =
    ap (λ v. patterns_at sets' v) version ∙ ap (λ s. patterns_at s set.version) is.published ∙ ap patterns_in (found set sets) in
    is.patterns_are ∙ sym at

-- it is not, and nothing changes
pub spurned : (sets sets' : List NumberedSet) (d e : Desk) (had mid has : Option (List NumberedSet)) (waited : List ℕ) (set : NumberedSet) (why : Refusal CatalogueFault)
    → MayHappen sets (Refuses set why) → e ≡ d → sets' ≡ sets → Gives had mid (set ∷ []) → has ≡ mid → Freshens sets sets' d e had has waited waited (Ok tt)
spurned sets sets' d e had mid has waited set why may desk kept given same = record {
  happenings = Refuses set why ∷ [];
  silent = refl;
  given = rw same given;
  may = (may, tt);
  published = kept;
  desk = desk;
  sent = sym (append-nil waited);
}

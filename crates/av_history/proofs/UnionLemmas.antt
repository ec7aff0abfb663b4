-- What catalogues have, and what two of them have together.
use Rattle.std.proofs.Common.{◌≡◌, ℕ, ◌<◌, ◌==◌, ◌⊎◌, true, false, List, [], ◌∷◌, Some, None, is_some, if◌then◌else◌, refl, sym, ap, ◌∙◌, subst, arith, inl, inr, eq-eqb, eqb-true}
use Rattle.std.specs.List.{AllByRecursion as Each}
use Rattle.std.proofs.lemmas.Bool.{ne_eqb}
use Rattle.av_service.specs.Audit.{By, Call, IsAccepted, IsCatalogue, IsServiceAudit, Publishes, ServiceEntry, respond, sets_after}
use Rattle.av_service.specs.Desk.{Desk}
use Rattle.av_sigset.specs.Publication.{Publication, latest_as, published_as}
use Rattle.av_sigset.specs.declared.signature.Pattern.{Pattern}
use Rattle.av_history.proofs.DeskLemmas.{IsSolid}
use Rattle.av_history.proofs.SceneLemmas.{Falling, published_before}
use Rattle.av_history.specs.Audits.{AreOneSets, sets_end}
use Rattle.av_history.specs.Scene.{joined, union}

pub catalogue_falls : (sets : List Publication) → IsCatalogue sets → Falling sets
catalogue_falls [] h = tt
catalogue_falls (q ∷ qs) h = (h.0, catalogue_falls qs h.2)

pub catalogue_solid : (sets : List Publication) → IsCatalogue sets → Each IsSolid sets
catalogue_solid [] h = tt
catalogue_solid (q ∷ qs) h = (h.1, catalogue_solid qs h.2)

-- ---- one publication more

pub first_published : (sets : List Publication) (v : ℕ) (ps : List Pattern) → published_as (record { version = v; patterns = ps } ∷ sets) v ≡ Some ps
unfolding published_as
first_published sets v ps = rw (eq-eqb v v refl) refl

-- a later one hides none
pub later_published : (sets : List Publication) (v : ℕ) (ps : List Pattern) (u : ℕ) (x : List Pattern) → IsCatalogue sets → latest_as sets < v → published_as sets u ≡ Some x → published_as (record { version = v; patterns = ps } ∷ sets) u ≡ Some x
unfolding published_as
later_published sets v ps u x cat later h =
    let le = published_before sets u x (catalogue_falls sets cat) h in
    rw (ne_eqb v u (λ e. absurd (omega (arith, later, le)))) h

pub is_first : (sets : List Publication) (v : ℕ) (ps : List Pattern) (u : ℕ) (x : List Pattern) → published_as (record { version = v; patterns = ps } ∷ sets) u ≡ Some x → ((u ≡ v) × (x ≡ ps)) ⊎ (published_as sets u ≡ Some x)
unfolding published_as
is_first sets v ps u x h =
    (elim (v == u) as (λ b. (v == u) ≡ b → (if b then Some ps else published_as sets u) ≡ Some x → ((u ≡ v) × (x ≡ ps)) ⊎ (published_as sets u ≡ Some x)) [
      | true ↦ λ e k. let same : ps ≡ x = cc (k) in inl (sym (eqb-true v u e), sym same)
      | false ↦ λ e k. inr k
    ]) refl h

-- a call leaves a catalogue one, and all that it has
pub catalogue_after : (sets : List Publication) (d : Desk) (call : Call) → IsCatalogue sets → IsAccepted sets d call → IsCatalogue (sets_after sets call)
catalogue_after sets d (By e) cat ok = cat
catalogue_after sets d (Publishes v ps) cat ok = (ok.later, ok.solid, cat)

pub published_after : (sets : List Publication) (d : Desk) (call : Call) (u : ℕ) (x : List Pattern) → IsCatalogue sets → IsAccepted sets d call → published_as sets u ≡ Some x → published_as (sets_after sets call) u ≡ Some x
published_after sets d (By e) u x cat ok h = h
published_after sets d (Publishes v ps) u x cat ok h = later_published sets v ps u x cat ok.later h

-- so does an audit
pub published_then : (xs : List ServiceEntry) (sets : List Publication) (d : Desk) (u : ℕ) (x : List Pattern) → IsCatalogue sets → IsServiceAudit sets d xs → published_as sets u ≡ Some x → published_as (sets_end sets xs) u ≡ Some x
published_then [] sets d u x cat audit h = h
published_then (y ∷ ys) sets d u x cat audit h =
    published_then ys (sets_after sets y.call) (respond d y.call).desk u x (catalogue_after sets d y.call cat audit.0) audit.2 (published_after sets d y.call u x cat audit.0 h)

-- ---- joined

pub joined_keeps : (sets : List Publication) (y : Publication) (u : ℕ) (x : List Pattern) → published_as sets u ≡ Some x → published_as (joined sets y) u ≡ Some x
unfolding published_as
joined_keeps sets y u x h =
    (elim (published_as sets y.version) as (λ o. published_as sets y.version ≡ o → published_as (if is_some o then sets else y ∷ sets) u ≡ Some x) [
      | None ↦ λ none. rw (ne_eqb y.version u (λ e. let both : Some x ≡ None = sym h ∙ (ap (published_as sets) (sym e) ∙ none) in absurd (cc (both)))) h
      | Some q ↦ λ there. h
    ]) refl

pub joined_has : (sets : List Publication) (y : Publication) → ((q : List Pattern) → published_as sets y.version ≡ Some q → q ≡ y.patterns) → published_as (joined sets y) y.version ≡ Some y.patterns
joined_has sets y agrees =
    (elim (published_as sets y.version) as (λ o. published_as sets y.version ≡ o → published_as (if is_some o then sets else y ∷ sets) y.version ≡ Some y.patterns) [
      | None ↦ λ none. first_published sets y.version y.patterns
      | Some q ↦ λ there. there ∙ ap Some (agrees q there)
    ]) refl

pub joined_only : (sets : List Publication) (y : Publication) (u : ℕ) (x : List Pattern) → published_as (joined sets y) u ≡ Some x → ((u ≡ y.version) × (x ≡ y.patterns)) ⊎ (published_as sets u ≡ Some x)
joined_only sets y u x h =
    (elim (published_as sets y.version) as (λ o. published_as (if is_some o then sets else y ∷ sets) u ≡ Some x → ((u ≡ y.version) × (x ≡ y.patterns)) ⊎ (published_as sets u ≡ Some x)) [
      | None ↦ λ k. is_first sets y.version y.patterns u x k
      | Some q ↦ λ k. inr k
    ]) h

pub joined_solid : (sets : List Publication) (y : Publication) → Each IsSolid sets → IsSolid y → Each IsSolid (joined sets y)
joined_solid sets y all one =
    elim (published_as sets y.version) as (λ o. Each IsSolid (if is_some o then sets else y ∷ sets)) [
      | None ↦ (one, all)
      | Some q ↦ all
    ]

-- ---- both together

pub union_first : (ones twos : List Publication) (u : ℕ) (x : List Pattern) → published_as ones u ≡ Some x → published_as (union ones twos) u ≡ Some x
union_first ones [] u x h = h
union_first ones (y ∷ ys) u x h = joined_keeps (union ones ys) y u x (union_first ones ys u x h)

pub union_only : (ones twos : List Publication) (u : ℕ) (x : List Pattern) → IsCatalogue twos → published_as (union ones twos) u ≡ Some x → (published_as ones u ≡ Some x) ⊎ (published_as twos u ≡ Some x)
union_only ones [] u x cat h = inl h
union_only ones (y ∷ ys) u x cat h =
    elim (joined_only (union ones ys) y u x h) [
      | inl same ↦ inr (subst (λ n. published_as (y ∷ ys) n ≡ Some x) (sym same.0) (first_published ys y.version y.patterns ∙ ap Some (sym same.1)))
      | inr there ↦
          elim (union_only ones ys u x cat.2 there) [
            | inl one ↦ inl one
            | inr two ↦ inr (later_published ys y.version y.patterns u x cat.2 cat.0 two)
          ]
    ]

pub union_second : (ones twos : List Publication) (u : ℕ) (x : List Pattern) → IsCatalogue twos → AreOneSets ones twos → published_as twos u ≡ Some x → published_as (union ones twos) u ≡ Some x
unfolding published_as
union_second ones [] u x cat one_sets h = absurd (cc (h))
union_second ones (y ∷ ys) u x cat one_sets h =
    elim (is_first ys y.version y.patterns u x h) [
      | inl same ↦ subst (λ n. published_as (union ones (y ∷ ys)) n ≡ Some x) (sym same.0) (joined_has (union ones ys) y agrees ∙ ap Some (sym same.1))
      | inr there ↦ joined_keeps (union ones ys) y u x (union_second ones ys u x cat.2 (λ v p q a b. one_sets v p q a (later_published ys y.version y.patterns v q cat.2 cat.0 b)) there)
    ]
  where
    agrees : (q : List Pattern) → published_as (union ones ys) y.version ≡ Some q → q ≡ y.patterns
    agrees q at =
        elim (union_only ones ys y.version q cat.2 at) [
          | inl one ↦ one_sets y.version q y.patterns one (first_published ys y.version y.patterns)
          | inr two ↦ let le = published_before ys y.version q (catalogue_falls ys cat.2) two in absurd (omega (arith, le, cat.0))
        ]

pub union_solid : (ones twos : List Publication) → Each IsSolid ones → Each IsSolid twos → Each IsSolid (union ones twos)
union_solid ones [] one two = one
union_solid ones (y ∷ ys) one two = joined_solid (union ones ys) y (union_solid ones ys one two.1) two.0

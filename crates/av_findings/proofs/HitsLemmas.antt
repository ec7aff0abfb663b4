-- What is in the list of hits, and what the whole list says.
use Rattle.std.proofs.Common.{ℕ, zero, suc, ◌≡◌, ◌+◌, ◌≤◌, List, [], ◌∷◌, slice_get, None, Some, refl, sym, ap, subst, ◌∙◌, arith, inl, inr, ◌↔◌}
use Rattle.av_base.specs.Among.{Among}
use Rattle.av_base.specs.declared.verdict.Verdict.{Verdict}
use Rattle.av_base.specs.declared.verdict.Verdict.TheVariants.{Clean, Infected}
use Rattle.av_match.proofs.Verdicts.{verdict_is}
use Rattle.av_match.specs.Match.{IsUpTo, IsVerdict, Occurs, verdict}
use Rattle.av_sigset.specs.declared.signature.Pattern.{Pattern}
use Rattle.av_findings.proofs.AloneLemmas.{alone_is, alone_some}
use Rattle.av_findings.specs.Findings.{all_verdicts, end_alone, hits_from, or_clean, with_hit}
use Rattle.av_findings.specs.Laws.{EndsFirstAt, ListsExactly}

-- ---- members of the list of hits

-- a pattern that is found alone is in the list, under its number
hit_listed : (i k : ℕ) (ps : List Pattern) (c : List ℕ) (p : Pattern) (e : ℕ) → slice_get ps k ≡ Some p → end_alone p c ≡ Some e → Among (Infected (i + k) e) (hits_from i ps c)
unfolding hits_from
hit_listed i k [] c p e at is = absurd (cc at)
hit_listed i zero (q ∷ ps) c p e at is =
    let same : q ≡ p = cc at in
    let found : end_alone q c ≡ Some e = ap (λ r. end_alone r c) same ∙ is in
    subst (λ o. Among (Infected (i + 0) e) (with_hit i o (hits_from (i + 1) ps c))) (sym found) (inl (ap (λ n. Infected n e) (omega arith)))
hit_listed i (suc k) (q ∷ ps) c p e at is =
    let more = subst (λ n. Among (Infected n e) (hits_from (i + 1) ps c)) (omega arith) (hit_listed (i + 1) k ps c p e at is) in
    elim (end_alone q c) as (λ o. Among (Infected (i + suc k) e) (with_hit i o (hits_from (i + 1) ps c))) [ None ↦ more | Some f ↦ inr more ]

-- what is in the list is a hit of a pattern that is found alone
abbrev IsHitOf : ℕ → List Pattern → List ℕ → Verdict → Type 0
IsHitOf i ps c v = (k e : ℕ) × (p : Pattern) × (v ≡ Infected (i + k) e) × (slice_get ps k ≡ Some p) × (end_alone p c ≡ Some e)

listed_hit : (i : ℕ) (ps : List Pattern) (c : List ℕ) (v : Verdict) → Among v (hits_from i ps c) → IsHitOf i ps c v
unfolding hits_from
listed_hit i [] c v a = absurd a
listed_hit i (q ∷ ps) c v a =
    (elim (end_alone q c) as (λ o. end_alone q c ≡ o → Among v (with_hit i o (hits_from (i + 1) ps c)) → IsHitOf i (q ∷ ps) c v) [
      | None ↦ λ none b. later (listed_hit (i + 1) ps c v b)
      | Some e ↦ λ is b. elim b [
        | inl same ↦ (0, e, q, same ∙ ap (λ n. Infected n e) (omega arith), refl, is)
        | inr more ↦ later (listed_hit (i + 1) ps c v more)
      ]
    ]) refl a
  where
    later : IsHitOf (i + 1) ps c v → IsHitOf i (q ∷ ps) c v
    later h = (suc h.0, h.1, h.2, h.3 ∙ ap (λ n. Infected n h.1) (omega arith), h.4, h.5)

-- ---- the list of all verdicts

-- a hit is among all verdicts exactly if it is in the list of hits
to_all : (hits : List Verdict) (v : Verdict) → Among v hits → Among v (or_clean hits)
to_all [] v a = absurd a
to_all (w ∷ hits) v a = a

from_all : (hits : List Verdict) (i e : ℕ) → Among (Infected i e) (or_clean hits) → Among (Infected i e) hits
from_all [] i e (inl same) = absurd (cc same)
from_all [] i e (inr a) = absurd a
from_all (w ∷ hits) i e a = a

first_listed : (ps : List Pattern) (c : List ℕ) (i e : ℕ) → EndsFirstAt ps c i e → Among (Infected i e) (all_verdicts ps c)
first_listed ps c i e first =
    let o = first.0 in
    let some = alone_some o.0 c e o.2 in
    let is = alone_is o.0 c some.0 some.1 in
    let up : e ≤ some.0 = first.1 some.0 (o.0, o.1, is.0) in
    let down : some.0 ≤ e = is.1 e o.2 in
    let same : some.0 ≡ e = omega arith in
    let listed = hit_listed 0 i ps c o.0 e o.1 (some.1 ∙ ap (λ n. Some n) same) in
    to_all (hits_from 0 ps c) (Infected i e) (subst (λ n. Among (Infected n e) (hits_from 0 ps c)) (omega arith) listed)

listed_first : (ps : List Pattern) (c : List ℕ) (i e : ℕ) → Among (Infected i e) (all_verdicts ps c) → EndsFirstAt ps c i e
listed_first ps c i e a =
    let h = listed_hit 0 ps c (Infected i e) (from_all (hits_from 0 ps c) i e a) in
    let number : i ≡ 0 + h.0 = cc (h.3) in
    let place : h.0 ≡ i = omega (arith, number) in
    let end : h.1 ≡ e = cc (h.3) in
    let is = alone_is h.2 c e (h.5 ∙ ap (λ n. Some n) end) in
    let at : slice_get ps i ≡ Some h.2 = subst (λ k. slice_get ps k ≡ Some h.2) place h.4 in (
      (h.2, at, is.0),
      λ f o. let same : o.0 ≡ h.2 = cc (o.1, at) in is.1 f (subst (λ q. Occurs q c f) same o.2),
    )

pub lists : ListsExactly
lists = λ ps c i e. (listed_first ps c i e, first_listed ps c i e)

-- under a clean verdict there is no hit
clean_list : (ps : List Pattern) (c : List ℕ) → IsVerdict ps c Clean → all_verdicts ps c ≡ Clean ∷ []
clean_list ps c none = alone (hits_from 0 ps c) (λ v a. listed_hit 0 ps c v a)
  where
    alone : (hits : List Verdict) → ((v : Verdict) → Among v hits → IsHitOf 0 ps c v) → or_clean hits ≡ Clean ∷ []
    alone [] all = refl
    alone (v ∷ hits) all = let h = all v (inl refl) in absurd (none h.1 h.0 (h.2, h.4, (alone_is h.2 c h.1 h.5).0))

-- the set's own verdict is among them
pub first_among : (ps : List Pattern) (c : List ℕ) → Among (verdict ps c) (all_verdicts ps c)
first_among ps c =
    (elim (verdict ps c) as (λ v. IsVerdict ps c v → Among v (all_verdicts ps c)) [
      | Clean ↦ λ none. subst (Among Clean) (sym (clean_list ps c none)) (inl refl)
      | Infected i e ↦ λ is. first_listed ps c i e (is.occurs, λ f o. up_to e i f (is.least f i o))
    ]) (verdict_is ps c)
  where
    up_to : (e i f : ℕ) → IsUpTo e i f i → e ≤ f
    up_to e i f (inl below) = omega arith
    up_to e i f (inr at) = omega (arith, at.0)

-- they are clean alone exactly if the set's own verdict is clean
pub clean_alone : (ps : List Pattern) (c : List ℕ) → (all_verdicts ps c ≡ Clean ∷ []) ↔ (verdict ps c ≡ Clean)
clean_alone ps c = (
  λ alone. one (verdict ps c) (subst (Among (verdict ps c)) alone (first_among ps c)),
  λ clean. clean_list ps c (subst (IsVerdict ps c) clean (verdict_is ps c)),
)
  where
    one : (v : Verdict) → Among v (Clean ∷ []) → v ≡ Clean
    one v (inl is) = is
    one v (inr none) = absurd none

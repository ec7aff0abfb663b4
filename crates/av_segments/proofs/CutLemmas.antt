-- The verdict of a content is the least of its verdicts before a cut, at the cut and behind it.
use Rattle.std.proofs.Common.{ℕ, zero, suc, ◌≡◌, ◌+◌, ◌-◌, ◌≤◌, true, false, ◌⊎◌, List, [], ◌∷◌, ◌++◌, length, take, drop, slice_get, Some, if◌then◌else◌, nat_le, refl, sym, ap, ◌∙◌, subst, arith, inl, inr, length-append, length-drop, drop-drop, append-nil, append_assoc, le-leb, leb-true}
use Rattle.std.proofs.lemmas.List.{take-append-le, drop-append-le, drop_at, length-take, take-append-drop}
use Rattle.std.proofs.lemmas.Bool.{and_from, or_parts, cases_order, cases_Bool}
use Rattle.av_base.specs.declared.verdict.Verdict.{Verdict}
use Rattle.av_base.specs.declared.verdict.Verdict.TheVariants.{Clean, Infected}
use Rattle.av_match.proofs.Verdicts.{verdict_is, verdict_one}
use Rattle.av_match.specs.Match.{IsUpTo, IsVerdict, Occurs, OccursAt, begins_in, verdict}
use Rattle.av_match.specs.Scanning.{AreSolid, are_bound, is_bound}
use Rattle.av_sigset.specs.Set.{HasRightLength}
use Rattle.av_sigset.specs.declared.signature.Pattern.{Pattern}
use Rattle.av_sigset.specs.declared.signature.Span.{Span}
use Rattle.av_sigset.specs.declared.signature.TheConstants.{MAX_PLACE}
use Rattle.av_segments.specs.Joining.{edge, is_up_to, joined_verdict, last, least_of, moved_on}

-- ---- patterns that may begin anywhere

-- what is not bound begins at every place
anywhere : (s : Span) (k : ℕ) → is_bound s ≡ false → begins_in s k ≡ true
anywhere s k free =
    let low : s.low ≤ 0 = grind (arith, free) in
    and_from (nat_le s.low k) _ (le-leb _ _ (omega (arith, low))) (rw (le-leb MAX_PLACE s.high (grind (arith, free))) refl)

-- what holds of all patterns holds of the one at a place
solid_at : (ps : List Pattern) (i : ℕ) (p : Pattern) → AreSolid ps → slice_get ps i ≡ Some p → HasRightLength p
solid_at [] i p all at = absurd (cc at)
solid_at (q ∷ ps) zero p all at = let same : q ≡ p = cc at in subst HasRightLength same all.0
solid_at (q ∷ ps) (suc i) p all at = solid_at ps i p all.1 at

free_at : (ps : List Pattern) (i : ℕ) (p : Pattern) → are_bound ps ≡ false → slice_get ps i ≡ Some p → is_bound p.span ≡ false
free_at [] i p free at = absurd (cc at)
free_at (q ∷ ps) zero p free at = let same : q ≡ p = cc at in subst (λ r. is_bound r.span ≡ false) same (or_parts (is_bound q.span) (are_bound ps) free).0
free_at (q ∷ ps) (suc i) p free at = free_at ps i p (or_parts (is_bound q.span) (are_bound ps) free).1 at

-- ---- a part of a content

-- a match in the part w is one in the whole, so many bytes further on
part : (n k : ℕ) (x w y : List ℕ) → k + n ≤ length w → take n (drop (length x + k) (x ++ (w ++ y))) ≡ take n (drop k w)
part n k x w y fits =
    ap (take n) (sym (drop-drop k (length x) (x ++ (w ++ y))) ∙ ap (drop k) (drop_at x (w ++ y) (length x) refl) ∙ drop-append-le k w y (omega (arith, fits)))
    ∙ take-append-le n (drop k w) y (omega (arith, fits, length-drop k w))

out_of : (p : Pattern) (x w y : List ℕ) (e : ℕ) → is_bound p.span ≡ false → Occurs p w e → Occurs p (x ++ (w ++ y)) (length x + e)
out_of p x w y e free o =
    let start : length x + e - length p.bytes ≡ length x + (e - length p.bytes) = omega (arith, o.within) in
    record {
      within = omega (arith, o.within);
      inside = omega (arith, o.inside, length-append x (w ++ y), length-append w y);
      same = ap (λ n. take (length p.bytes) (drop n (x ++ (w ++ y)))) start ∙ part (length p.bytes) (e - length p.bytes) x w y (omega (arith, o.within, o.inside)) ∙ o.same;
      begins = anywhere p.span (length x + e - length p.bytes) free;
    }

into : (p : Pattern) (x w y : List ℕ) (f : ℕ) → is_bound p.span ≡ false → Occurs p (x ++ (w ++ y)) f → length x + length p.bytes ≤ f → f ≤ length x + length w → Occurs p w (f - length x)
into p x w y f free o low high =
    let start : f - length p.bytes ≡ length x + (f - length x - length p.bytes) = omega (arith, low) in
    record {
      within = omega (arith, low);
      inside = omega (arith, high);
      same = sym (part (length p.bytes) (f - length x - length p.bytes) x w y (omega (arith, low, high))) ∙ ap (λ n. take (length p.bytes) (drop n (x ++ (w ++ y)))) (sym start) ∙ o.same;
      begins = anywhere p.span (f - length x - length p.bytes) free;
    }

-- ---- the least of some matches

-- a verdict is the least of these pairs of an end and an index, or clean if there is none
abbrev IsLeastOf : (ℕ → ℕ → Type 0) → Verdict → Type 0
IsLeastOf P Clean = (e i : ℕ) → P e i → ⊥
IsLeastOf P (Infected i e) = P e i × ((f j : ℕ) → P f j → IsUpTo e i f j)

-- the test of two ends with their indices
up_to : (e i f j : ℕ) → is_up_to e i f j ≡ true → IsUpTo e i f j
up_to e i f j h = elim (cases_order e f) [
  | inl same ↦ inr (same, grind (arith, h, same))
  | inr (inl below) ↦ inl below
  | inr (inr above) ↦ absurd (grind (arith, h, above))
]

not_up_to : (e i f j : ℕ) → is_up_to e i f j ≡ false → IsUpTo f j e i
not_up_to e i f j h = elim (cases_order f e) [
  | inl same ↦ inr (same, grind (arith, h, same))
  | inr (inl below) ↦ inl below
  | inr (inr above) ↦ absurd (grind (arith, h, above))
]

up_trans : (e i f j g k : ℕ) → IsUpTo e i f j → IsUpTo f j g k → IsUpTo e i g k
up_trans e i f j g k (inl a) (inl b) = inl (omega (arith, a, b))
up_trans e i f j g k (inl a) (inr b) = inl (omega (arith, a, b.0))
up_trans e i f j g k (inr a) (inl b) = inl (omega (arith, a.0, b))
up_trans e i f j g k (inr a) (inr b) = inr (a.0 ∙ b.0, omega (arith, a.1, b.1))

-- the lesser of two is the least of both kinds
least_two : (P Q : ℕ → ℕ → Type 0) (v w : Verdict) → IsLeastOf P v → IsLeastOf Q w → IsLeastOf (λ e i. P e i ⊎ Q e i) (least_of v w)
least_two P Q Clean Clean none free = λ e i. elim [ inl a ↦ none e i a | inr b ↦ free e i b ]
least_two P Q Clean (Infected j f) none is = (inr is.0, λ g k. elim [ inl a ↦ absurd (none g k a) | inr b ↦ is.1 g k b ])
least_two P Q (Infected i e) Clean is free = (inl is.0, λ g k. elim [ inl a ↦ is.1 g k a | inr b ↦ absurd (free g k b) ])
least_two P Q (Infected i e) (Infected j f) is are =
    (elim (is_up_to e i f j) as (λ b. is_up_to e i f j ≡ b → IsLeastOf (λ g k. P g k ⊎ Q g k) (if b then Infected i e else Infected j f)) [
      | true ↦ λ h. (inl is.0, λ g k. elim [ inl a ↦ is.1 g k a | inr b ↦ up_trans e i f j g k (up_to e i f j h) (are.1 g k b) ])
      | false ↦ λ h. (inr are.0, λ g k. elim [ inl a ↦ up_trans f j e i g k (not_up_to e i f j h) (is.1 g k a) | inr b ↦ are.1 g k b ])
    ]) refl

-- the same pairs have the same least
least_same : (P Q : ℕ → ℕ → Type 0) (v : Verdict) → ((e i : ℕ) → P e i → Q e i) → ((e i : ℕ) → Q e i → P e i) → IsLeastOf P v → IsLeastOf Q v
least_same P Q Clean to from is = λ e i b. is e i (from e i b)
least_same P Q (Infected i e) to from is = (to e i is.0, λ f j b. is.1 f j (from f j b))

-- ---- the verdict of a part

-- pattern i ends at e in the content c, and lies within the m bytes from place k on
abbrev IsWithin : List Pattern → List ℕ → ℕ → ℕ → ℕ → ℕ → Type 0
IsWithin ps c k m e i = (p : Pattern) × (slice_get ps i ≡ Some p) × Occurs p c e × (k + length p.bytes ≤ e) × (e ≤ k + m)

up_by : (k e i f j : ℕ) → k ≤ f → IsUpTo e i (f - k) j → IsUpTo (k + e) i f j
up_by k e i f j le (inl below) = inl (omega (arith, le, below))
up_by k e i f j le (inr at) = inr (omega (arith, le, at.0), at.1)

-- the verdict of a part, moved on, is the least of the matches that lie within it
part_least : (ps : List Pattern) (x w y : List ℕ) → are_bound ps ≡ false → IsLeastOf (IsWithin ps (x ++ (w ++ y)) (length x) (length w)) (moved_on (length x) (verdict ps w))
part_least ps x w y free =
    (elim (verdict ps w) as (λ v. IsVerdict ps w v → IsLeastOf (IsWithin ps (x ++ (w ++ y)) (length x) (length w)) (moved_on (length x) v)) [
      | Clean ↦ λ none e i o. none (e - length x) i (at_part e i o)
      | Infected i e ↦ λ is. (
        let o = is.occurs in
            (o.0, o.1, out_of o.0 x w y e (free_at ps i o.0 free o.1) o.2, omega (arith, o.2.within), omega (arith, o.2.inside)),
        λ f j o. up_by (length x) e i f j (omega (arith, o.3)) (is.least (f - length x) j (at_part f j o)),
      )
    ]) (verdict_is ps w)
  where
    at_part : (f j : ℕ) → IsWithin ps (x ++ (w ++ y)) (length x) (length w) f j → OccursAt ps w (f - length x) j
    at_part f j o = (o.0, o.1, into o.0 x w y f (free_at ps j o.0 free o.1) o.2 o.3 o.4)

-- the same for a part that a content has
in_part : (ps : List Pattern) (c x w y : List ℕ) (k m : ℕ) (v : Verdict) → are_bound ps ≡ false → x ++ (w ++ y) ≡ c → length x ≡ k → length w ≡ m → moved_on k (verdict ps w) ≡ v
    → IsLeastOf (IsWithin ps c k m) v
in_part ps c x w y k m v free whole at_k of_m is =
    subst (IsLeastOf (IsWithin ps c k m)) (ap (λ n. moved_on n (verdict ps w)) at_k ∙ is)
    (subst (λ n. IsLeastOf (IsWithin ps c k n) (moved_on (length x) (verdict ps w))) of_m
    (subst (λ n. IsLeastOf (IsWithin ps c n (length w)) (moved_on (length x) (verdict ps w))) at_k
    (subst (λ d. IsLeastOf (IsWithin ps d (length x) (length w)) (moved_on (length x) (verdict ps w))) whole (part_least ps x w y free))))

-- ---- a cut

-- the bytes at a cut, with what is before and behind them
seam_whole : (a b : List ℕ) → take (length a - edge) a ++ ((last edge a ++ take edge b) ++ drop edge b) ≡ a ++ b
seam_whole a b =
    ap (λ t. take (length a - edge) a ++ t) (append_assoc (last edge a) (take edge b) (drop edge b) ∙ ap (λ t. last edge a ++ t) (take-append-drop edge b))
    ∙ sym (append_assoc (take (length a - edge) a) (last edge a) b)
    ∙ ap (λ t. t ++ b) (take-append-drop (length a - edge) a)

-- a match lies before a cut, behind it or at it
somewhere : (ps : List Pattern) (a b : List ℕ) → AreSolid ps → (e i : ℕ) → OccursAt ps (a ++ b) e i
    → IsWithin ps (a ++ b) 0 (length a) e i ⊎ (IsWithin ps (a ++ b) (length a - edge) (length (last edge a ++ take edge b)) e i ⊎ IsWithin ps (a ++ b) (length a) (length b) e i)
somewhere ps a b solid e i o =
    let right = solid_at ps i o.0 solid o.1 in
    let whole = length-append a b in
    let seam = length-append (last edge a) (take edge b) in
    let before = length-drop (length a - edge) a in
    let behind = length-take edge b in
    elim (cases_Bool (nat_le e (length a))) [
      | inl up ↦ inl (o.0, o.1, o.2, omega (arith, o.2.within), (let le = leb-true _ _ up in omega (arith, le)))
      | inr on ↦ inr (elim (cases_Bool (nat_le (length a + length o.0.bytes) e)) [
        | inl far ↦ inr (o.0, o.1, o.2, leb-true _ _ far, omega (arith, o.2.inside, whole))
        | inr near ↦ inl (o.0, o.1, o.2, grind (arith, o.2.within, right.1, on), grind (arith, o.2.inside, whole, seam, before, behind, right.1, near))
      ])
    ]

-- the verdict of a whole content from those of its two stretches
pub verdicts_join : (ps : List Pattern) (a b : List ℕ) → AreSolid ps → are_bound ps ≡ false
    → joined_verdict ps (length a) (last edge a) (take edge b) (verdict ps a) (verdict ps b) ≡ verdict ps (a ++ b)
verdicts_join ps a b solid free =
    let c = a ++ b in
    let seam = last edge a ++ take edge b in
    let first = in_part ps c [] a b 0 (length a) (verdict ps a) free refl refl refl (moved_none (verdict ps a)) in
    let at_cut = in_part ps c (take (length a - edge) a) seam (drop edge b) (length a - edge) (length seam) (moved_on (length a - edge) (verdict ps seam)) free (seam_whole a b) (omega (arith, length-take (length a - edge) a)) refl refl in
    let second = in_part ps c a b [] (length a) (length b) (moved_on (length a) (verdict ps b)) free (ap (λ t. a ++ t) (append-nil b)) refl refl refl in
    let all = least_two _ _ _ _ first (least_two _ _ _ _ at_cut second) in
    let start : length a - length (last edge a) ≡ length a - edge = omega (arith, length-drop (length a - edge) a) in
    ap (λ n. least_of (verdict ps a) (least_of (moved_on n (verdict ps seam)) (moved_on (length a) (verdict ps b)))) start
    ∙ verdict_one ps c _ _ (to_verdict ps c _ (least_same _ (λ e i. OccursAt ps c e i) _ (λ e i. of_any e i) (somewhere ps a b solid) all)) (verdict_is ps c)
  where
    moved_none : (v : Verdict) → moved_on 0 v ≡ v
    moved_none Clean = refl
    moved_none (Infected i e) = ap (λ n. Infected i n) (omega arith)

    of_any : (e i : ℕ) → IsWithin ps (a ++ b) 0 (length a) e i ⊎ (IsWithin ps (a ++ b) (length a - edge) (length (last edge a ++ take edge b)) e i ⊎ IsWithin ps (a ++ b) (length a) (length b) e i)
        → OccursAt ps (a ++ b) e i
    of_any e i (inl o) = (o.0, o.1, o.2)
    of_any e i (inr (inl o)) = (o.0, o.1, o.2)
    of_any e i (inr (inr o)) = (o.0, o.1, o.2)

    to_verdict : (ps : List Pattern) (c : List ℕ) (v : Verdict) → IsLeastOf (λ e i. OccursAt ps c e i) v → IsVerdict ps c v
    to_verdict ps c Clean is = is
    to_verdict ps c (Infected i e) is = record { occurs = is.0; least = is.1 }

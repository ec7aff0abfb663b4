-- A match in a content that a filter may ask about begins no later than at the last place of a range.
use Rattle.std.proofs.Common.{◌≡◌, ℕ, zero, suc, ◌-◌, ◌≤◌, ◌||◌, nat_le, List, [], ◌∷◌, length, arith, inl, inr, subst}
use Rattle.std.specs.Prelude.{IsTrue, Some, slice_get}
use Rattle.std.specs.List.{AllByRecursion as Each}
use Rattle.std.proofs.lemmas.Bool.{and_from, and_parts, le-leb, leb-true, or_cases, or_right}
use Rattle.av_base.specs.declared.limits.TheConstants.{MAX_LENGTH}
use Rattle.av_base.specs.declared.verdict.Verdict.{Verdict}
use Rattle.av_base.specs.declared.verdict.Verdict.TheVariants.{Clean, Infected}
use Rattle.av_match.specs.Match.{IsVerdict, Occurs, OccursAt, begins_in}
use Rattle.av_promise.specs.Ranges.{IsVerdictWithin, OccursWithin, OccursWithinAt}
use Rattle.av_sigset.specs.declared.signature.Pattern.{Pattern}
use Rattle.av_sigset.specs.declared.signature.Span.{Span}
use Rattle.av_sigset.specs.declared.signature.TheConstants.{MAX_PLACE}

literal : (s : Span) (start : ℕ) → start ≤ MAX_PLACE → IsTrue (begins_in s start) → start ≤ s.high
literal s start small begins =
    elim (or_cases (nat_le MAX_PLACE s.high) (nat_le start s.high) (and_parts (nat_le s.low start) (nat_le MAX_PLACE s.high || nat_le start s.high) begins).1) [
      | inl wide ↦ omega (arith, leb-true MAX_PLACE s.high wide, small)
      | inr there ↦ leb-true start s.high there
    ]

within : (p : Pattern) (c : List ℕ) (e : ℕ) → 1 ≤ length p.bytes → length c ≤ MAX_LENGTH → Occurs p c e → OccursWithin p c e
within p c e some short o = record {
  within = o.within;
  inside = o.inside;
  same = o.same;
  from = leb-true p.span.low (e - length p.bytes) (and_parts (nat_le p.span.low (e - length p.bytes)) _ o.begins).0;
  to = literal p.span (e - length p.bytes) (omega (arith, some, short, o.within, o.inside)) o.begins;
}

occurs : (p : Pattern) (c : List ℕ) (e : ℕ) → OccursWithin p c e → Occurs p c e
occurs p c e o = record {
  within = o.within;
  inside = o.inside;
  same = o.same;
  begins = and_from (nat_le p.span.low (e - length p.bytes)) _ (le-leb p.span.low (e - length p.bytes) o.from)
      (or_right (nat_le MAX_PLACE p.span.high) (nat_le (e - length p.bytes) p.span.high) (le-leb (e - length p.bytes) p.span.high o.to));
}

has_bytes : (ps : List Pattern) (i : ℕ) (p : Pattern) → Each (λ q. 1 ≤ length q.bytes) ps → slice_get ps i ≡ Some p → 1 ≤ length p.bytes
has_bytes [] i p all at = absurd cc
has_bytes (q ∷ ps) zero p all at = let same : q ≡ p = cc in subst (λ r. 1 ≤ length r.bytes) same all.0
has_bytes (q ∷ ps) (suc i) p all at = has_bytes ps i p all.1 at

occurs_at : (ps : List Pattern) (c : List ℕ) (e i : ℕ) → OccursWithinAt ps c e i → OccursAt ps c e i
occurs_at ps c e i (p, at, o) = (p, at, occurs p c e o)

pub literally : (ps : List Pattern) (c : List ℕ) (v : Verdict) → Each (λ q. 1 ≤ length q.bytes) ps → length c ≤ MAX_LENGTH → IsVerdict ps c v → IsVerdictWithin ps c v
literally ps c Clean all short is = λ e i o. is e i (occurs_at ps c e i o)
literally ps c (Infected i e) all short is =
    let (p, at, o) = is.occurs in
    record { occurs = (p, at, within p c e (has_bytes ps i p all at) short o); least = λ f j k. is.least f j (occurs_at ps c f j k) }

-- The first match from the first place of a pattern's span on is its verdict.
use Rattle.std.proofs.Common.{ℕ, zero, suc, ◌≡◌, ◌+◌, ◌-◌, ◌<◌, ◌≤◌, ◌||◌, ◌⊎◌, true, false, List, [], ◌∷◌, length, take, drop, slice_get, Option, None, Some, nat_le, if◌then◌else◌, refl, sym, ap, subst, ◌∙◌, arith, inl, inr, le-leb, leb-true, length-drop, drop-drop}
use Rattle.std.proofs.lemmas.List.{take_rest}
use Rattle.std.proofs.lemmas.Bool.{and_parts, and_from, true≢false}
use Rattle.av_base.specs.declared.verdict.Verdict.TheVariants.{Clean, Infected}
use Rattle.av_match.proofs.Verdicts.{verdict_is, verdict_one}
use Rattle.av_match.specs.Match.{IsVerdict, Occurs, begins_in, verdict}
use Rattle.av_sigset.specs.declared.signature.Pattern.{Pattern}
use Rattle.av_sigset.specs.declared.signature.TheConstants.{MAX_PLACE}
use Rattle.memchr.proofs.lemmas.MatchLemmas.{OccursAt-part, OccursAt-from_part}
use Rattle.memchr.specs.Find.{FindsNeedle, OccursAt}
use Rattle.av_findings.specs.Findings.{end_alone, end_of}

-- ---- one pattern in a list

-- the only pattern of a list is at place 0
only : (p q : Pattern) (i : ℕ) → slice_get (p ∷ []) i ≡ Some q → (i ≡ 0) × (q ≡ p)
only p q zero at = (refl, sym (cc at))
only p q (suc i) at = absurd (cc at)

alone_clean : (p : Pattern) (c : List ℕ) → ((e : ℕ) → Occurs p c e → ⊥) → end_alone p c ≡ None
alone_clean p c free =
    let is : IsVerdict (p ∷ []) c Clean = λ e i o. free e (subst (λ q. Occurs q c e) (only p o.0 i o.1).1 o.2) in
    ap end_of (verdict_one (p ∷ []) c (verdict (p ∷ []) c) Clean (verdict_is (p ∷ []) c) is)

alone_first : (p : Pattern) (c : List ℕ) (e : ℕ) → Occurs p c e → ((f : ℕ) → Occurs p c f → e ≤ f) → end_alone p c ≡ Some e
alone_first p c e here least =
    let is : IsVerdict (p ∷ []) c (Infected 0 e) =
    record {
      occurs = (p, refl, here);
      least = λ f j o. later f j (least f (subst (λ q. Occurs q c f) (only p o.0 j o.1).1 o.2));
    } in
    ap end_of (verdict_one (p ∷ []) c (verdict (p ∷ []) c) (Infected 0 e) (verdict_is (p ∷ []) c) is)
  where
    later : (f j : ℕ) → e ≤ f → (e < f) ⊎ ((e ≡ f) × (0 ≤ j))
    later f j le = elim (Rattle.std.proofs.lemmas.Bool.cases_eq e f) [ inl same ↦ inr (same, omega arith) | inr ne ↦ inl (omega arith) ]

-- what is found is where the pattern ends first
pub alone_is : (p : Pattern) (c : List ℕ) (e : ℕ) → end_alone p c ≡ Some e → Occurs p c e × ((f : ℕ) → Occurs p c f → e ≤ f)
alone_is p c e is =
    (elim (verdict (p ∷ []) c) as (λ v. IsVerdict (p ∷ []) c v → end_of v ≡ Some e → Occurs p c e × ((f : ℕ) → Occurs p c f → e ≤ f)) [
      | Clean ↦ λ v h. absurd (cc h)
      | Infected i f ↦ λ v h.
          let same : f ≡ e = cc h in
          let o = v.occurs in (
            subst (λ n. Occurs p c n) same (subst (λ q. Occurs q c f) (only p o.0 i o.1).1 o.2),
            λ g at. from (v.least g 0 (p, refl, at)) same,
          )
    ]) (verdict_is (p ∷ []) c) is
  where
    from : {f g i : ℕ} → (f < g) ⊎ ((f ≡ g) × (i ≤ 0)) → f ≡ e → e ≤ g
    from (inl below) same = omega arith
    from (inr at) same = omega (arith, at.0)

-- a pattern that occurs ends first somewhere
pub alone_some : (p : Pattern) (c : List ℕ) (e : ℕ) → Occurs p c e → (f : ℕ) × (end_alone p c ≡ Some f)
alone_some p c e at =
    (elim (verdict (p ∷ []) c) as (λ v. IsVerdict (p ∷ []) c v → (f : ℕ) × (end_of v ≡ Some f)) [
      | Clean ↦ λ v. absurd (v e 0 (p, refl, at))
      | Infected i f ↦ λ v. (f, refl)
    ]) (verdict_is (p ∷ []) c)

-- ---- a search from the first place of the span on

-- a match begins from the first place of the span on, and there the bytes behind that place have it
starts : (p : Pattern) (c : List ℕ) (e : ℕ) → Occurs p c e → p.span.low + length p.bytes ≤ e
starts p c e o =
    let low : p.span.low ≤ e - length p.bytes = leb-true _ _ (and_parts (nat_le p.span.low (e - length p.bytes)) _ o.begins).0 in
    omega (arith, o.within)

seen : (p : Pattern) (c : List ℕ) (e : ℕ) → Occurs p c e → OccursAt (drop p.span.low c) p.bytes (e - length p.bytes - p.span.low)
seen p c e o =
    let on = starts p c e o in
    let at = e - length p.bytes - p.span.low in
    OccursAt-from_part (drop p.span.low c) p.bytes at (omega (arith, on, o.inside, length-drop p.span.low c))
    (ap (take (length p.bytes)) (drop-drop at p.span.low c ∙ ap (λ n. drop n c) (omega (arith, on))) ∙ o.same)

-- what is seen there, and begins in the span, is a match
matches : (p : Pattern) (c : List ℕ) (k : ℕ) → p.span.low ≤ length c → OccursAt (drop p.span.low c) p.bytes k → begins_in p.span (p.span.low + k) ≡ true
    → Occurs p c (p.span.low + k + length p.bytes)
matches p c k low at begins =
    let start : p.span.low + k + length p.bytes - length p.bytes ≡ p.span.low + k = omega arith in
    record {
      within = omega arith;
      inside = omega (arith, at.fits, low, length-drop p.span.low c);
      same = ap (λ n. take (length p.bytes) (drop n c)) start
          ∙ ap (take (length p.bytes)) (sym (drop-drop k p.span.low c ∙ ap (λ n. drop n c) (omega arith)))
          ∙ OccursAt-part (drop p.span.low c) p.bytes k at;
      begins = ap (begins_in p.span) start ∙ begins;
    }

-- if a later place is in the span, so is one from the span's first place on
earlier : (p : Pattern) (k b : ℕ) → p.span.low + k ≤ b → begins_in p.span b ≡ true → begins_in p.span (p.span.low + k) ≡ true
earlier p k b le begins =
    let parts = and_parts (nat_le p.span.low b) (nat_le MAX_PLACE p.span.high || nat_le b p.span.high) begins in
    and_from (nat_le p.span.low (p.span.low + k)) _ (le-leb _ _ (omega arith))
    ((elim (nat_le MAX_PLACE p.span.high) as (λ v. (v || nat_le b p.span.high) ≡ true → (v || nat_le (p.span.low + k) p.span.high) ≡ true) [
      | true ↦ λ _. refl
      | false ↦ λ h. le-leb _ _ (let high : b ≤ p.span.high = leb-true _ _ h in omega arith)
    ]) parts.1)

-- a content that ends before the span has no match
pub past_end : (p : Pattern) (c : List ℕ) → length c < p.span.low → end_alone p c ≡ None
past_end p c short = alone_clean p c (λ e o. absurd (omega (arith, starts p c e o, o.inside, short)))

-- the first that is found decides
found_end : (p : Pattern) (c : List ℕ) (k : ℕ) → p.span.low ≤ length c → FindsNeedle (drop p.span.low c) p.bytes 0 (Some k)
    → end_alone p c ≡ (if begins_in p.span (p.span.low + k) then Some (p.span.low + k + length p.bytes) else None)
found_end p c k low found =
    (elim (begins_in p.span (p.span.low + k)) as (λ b. begins_in p.span (p.span.low + k) ≡ b → end_alone p c ≡ (if b then Some (p.span.low + k + length p.bytes) else None)) [
      | true ↦ λ begins. alone_first p c (p.span.low + k + length p.bytes) (matches p c k low found.1 begins) (λ f o. omega (arith, starts p c f o, first f o))
      | false ↦ λ late. alone_clean p c (λ f o.
          let on : p.span.low + k ≤ f - length p.bytes = omega (arith, starts p c f o, first f o) in
          true≢false (sym (earlier p k (f - length p.bytes) on o.begins) ∙ late))
    ]) refl
  where
    -- no match begins before it
    first : (f : ℕ) → Occurs p c f → k ≤ f - length p.bytes - p.span.low
    first f o =
        let at = f - length p.bytes - p.span.low in
        elim (Rattle.std.proofs.lemmas.Bool.cases_order at k) [
          | inl same ↦ omega (arith, same)
          | inr (inl below) ↦ absurd (found.0.before at (omega arith) below (seen p c f o))
          | inr (inr above) ↦ omega (arith, above)
        ]

-- nothing found, no match
none_found : (p : Pattern) (c : List ℕ) → FindsNeedle (drop p.span.low c) p.bytes 0 None → end_alone p c ≡ None
none_found p c none = alone_clean p c (λ e o. let at = seen p c e o in none (e - length p.bytes - p.span.low) (omega arith) (omega (arith, at.fits)) at)

-- where a match ends that was found first from the first place of the span on
abbrev pub end_after : Pattern → Option ℕ → Option ℕ
end_after p None = None
end_after p (Some k) = if begins_in p.span (p.span.low + k) then Some (p.span.low + k + length p.bytes) else None

-- what is found from there on decides
pub search_decides : (p : Pattern) (c bytes : List ℕ) (r : Option ℕ) → p.span.low ≤ length c → bytes ≡ p.bytes
    → FindsNeedle (take (length c - p.span.low) (drop p.span.low c)) bytes 0 r → end_alone p c ≡ end_after p r
search_decides p c bytes r low same finds =
    decides r (subst (λ w. FindsNeedle (drop p.span.low c) w 0 r) same (subst (λ hay. FindsNeedle hay bytes 0 r) (take_rest c p.span.low) finds))
  where
    decides : (r : Option ℕ) → FindsNeedle (drop p.span.low c) p.bytes 0 r → end_alone p c ≡ end_after p r
    decides None none = none_found p c none
    decides (Some k) found = found_end p c k low found

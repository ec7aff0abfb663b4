-- The numbers of the sets that signatures came with.
use Rattle.std.proofs.Common.{ℕ, zero, suc, ◌≡◌, ◌<◌, ◌+◌, ◌++◌, true, false, cond, nat_lt, List, [], ◌∷◌, length, get_or, slice_get, unwrap_or, position, Option, None, Some, Ok, refl, sym, subst, arith, inl, inr, append-nil, append_assoc, length-append}
use Rattle.std.proofs.Math.ListN.{replicate}
use Rattle.std.proofs.lemmas.List.Quantifiers.{position-Some}
use Rattle.av_base.specs.Among.{Among}
use Rattle.av_sigset.specs.Set.{NumberedSet, byte_count, patterns_of}
use Rattle.av_sigset.specs.declared.signature.Signature.{Signature}
use Rattle.av_merge.proofs.LookLemmas.{filter_among, merged_parts, onward, the_end}
use Rattle.av_merge.specs.Laws.{ClashesAreTrue, HasOther}
use Rattle.av_merge.specs.declared.fault.MergeFault.{MergeFault}
use Rattle.av_merge.specs.declared.fault.MergeFault.TheVariants.{Clash, ManyBytes, ManySignatures}
use Rattle.av_merge.specs.Merge.{Merged, added_by, clash_from, clash_or, clashes, is_new, limit_with, merged_from, no_sets, or_fault}

-- the set of this number has the signature
abbrev Has : List NumberedSet → ℕ → Signature → Type 0
Has sets number s = (t : NumberedSet) × (slice_get sets number ≡ Some t) × Among s t.signatures

-- each came with the set of its number
abbrev AreOrigins : List NumberedSet → List Signature → List ℕ → Type 0
AreOrigins sets [] [] = Unit {0}
AreOrigins sets [] (o ∷ os) = ⊥
AreOrigins sets (s ∷ ss) [] = ⊥
AreOrigins sets (s ∷ ss) (o ∷ os) = Has sets o s × AreOrigins sets ss os

get_front : (sets more : List NumberedSet) (i : ℕ) (t : NumberedSet) → slice_get sets i ≡ Some t → slice_get (sets ++ more) i ≡ Some t
get_front [] more i t at = absurd (cc at)
get_front (s ∷ sets) more zero t at = at
get_front (s ∷ sets) more (suc i) t at = get_front sets more i t at

get_next : (sets : List NumberedSet) (s : NumberedSet) (i : ℕ) → length sets ≡ i → slice_get (sets ++ s ∷ []) i ≡ Some s
get_next [] s zero is = refl
get_next [] s (suc i) is = absurd (omega (arith, is))
get_next (t ∷ sets) s zero is = absurd (omega (arith, is))
get_next (t ∷ sets) s (suc i) is = get_next sets s i (omega (arith, is))

origins_front : (sets more : List NumberedSet) (ss : List Signature) (os : List ℕ) → AreOrigins sets ss os → AreOrigins (sets ++ more) ss os
origins_front sets more [] [] all = tt
origins_front sets more [] (o ∷ os) all = absurd all
origins_front sets more (s ∷ ss) [] all = absurd all
origins_front sets more (s ∷ ss) (o ∷ os) all = ((all.0.0, get_front sets more o all.0.0 all.0.1, all.0.2), origins_front sets more ss os all.1)

origins_both : (sets : List NumberedSet) (ss us : List Signature) (os qs : List ℕ) → AreOrigins sets ss os → AreOrigins sets us qs → AreOrigins sets (ss ++ us) (os ++ qs)
origins_both sets [] us [] qs all more = more
origins_both sets [] us (o ∷ os) qs all more = absurd all
origins_both sets (s ∷ ss) us [] qs all more = absurd all
origins_both sets (s ∷ ss) us (o ∷ os) qs all more = (all.0, origins_both sets ss us os qs all.1 more)

origins_new : (sets : List NumberedSet) (t : NumberedSet) (i : ℕ) (ss : List Signature) → slice_get sets i ≡ Some t → ((s : Signature) → Among s ss → Among s t.signatures) → AreOrigins sets ss (replicate (length ss) i)
origins_new sets t i [] at all = tt
origins_new sets t i (s ∷ ss) at all = ((t, at, all s (inl refl)), origins_new sets t i ss at (λ u a. all u (inr a)))

origin_at : (sets : List NumberedSet) (ss : List Signature) (os : List ℕ) (k : ℕ) (d : Signature) → AreOrigins sets ss os → k < length ss → Has sets (unwrap_or (slice_get os k) 0) (get_or ss k d)
origin_at sets [] os k d all lt = absurd (omega (arith, lt))
origin_at sets (s ∷ ss) [] k d all lt = absurd all
origin_at sets (s ∷ ss) (o ∷ os) zero d all lt = all.0
origin_at sets (s ∷ ss) (o ∷ os) (suc k) d all lt = origin_at sets ss os k d all.1 (omega (arith, lt))

origins_from : (sets before : List NumberedSet) (m n : Merged) (i : ℕ) → length before ≡ i → merged_from m i sets ≡ Ok n → AreOrigins before m.signatures m.origins → AreOrigins (before ++ sets) n.signatures n.origins
origins_from [] before m n i long is all =
    subst (λ ts. AreOrigins ts n.signatures n.origins) (sym (append-nil before)) (subst (λ (k : Merged). AreOrigins before k.signatures k.origins) (the_end m n i is) all)
origins_from (s ∷ sets) before m n i long is all =
    let on = onward m n i s sets is in
    let parts = merged_parts m on.0 i s on.1 in
    let more = added_by m.signatures s.signatures in
    let given = origins_new (before ++ s ∷ []) s i more (get_next before s i long) (λ u a. (filter_among (is_new m.signatures) s.signatures u a).0) in
    let both = origins_both (before ++ s ∷ []) m.signatures more m.origins (replicate (length more) i) (origins_front before (s ∷ []) m.signatures m.origins all) given in
    let next = subst (λ (k : Merged). AreOrigins (before ++ s ∷ []) k.signatures k.origins) (sym parts.1) both in
    subst (λ ts. AreOrigins ts n.signatures n.origins) (append_assoc before (s ∷ []) sets)
    (origins_from sets (before ++ s ∷ []) on.0 n (i + 1) (omega (arith, long, length-append before (s ∷ []))) on.2 next)

-- a clash that is found is of the signature at its place
clash_at : (sets : List NumberedSet) (m : Merged) (given : List Signature) (i index earlier : ℕ) → AreOrigins sets m.signatures m.origins → clash_from m i given ≡ Some (Clash index earlier)
    → (s : Signature) × (k : ℕ) × (index ≡ i + k) × (slice_get given k ≡ Some s) × HasOther sets earlier s
unfolding clash_from
clash_at sets m [] i index earlier all is = absurd (cc is)
clash_at sets m (s ∷ given) i index earlier all is =
    (elim (position (clashes s) m.signatures) as (λ o. position (clashes s) m.signatures ≡ o → clash_or m i o (clash_from m (i + 1) given) ≡ Some (Clash index earlier)
    → (t : Signature) × (k : ℕ) × (index ≡ i + k) × (slice_get (s ∷ given) k ≡ Some t) × HasOther sets earlier t) [
      | None ↦ λ e h.
          let rest = clash_at sets m given (i + 1) index earlier all h in
          (rest.0, suc rest.1, omega (arith, rest.2), rest.3, rest.4)
      | Some place ↦ λ e h.
          let found = position-Some (clashes s) m.signatures place s e in
          let has = origin_at sets m.signatures m.origins place s all found.0 in
          let number : i ≡ index = cc h in
          let origin : unwrap_or (slice_get m.origins place) 0 ≡ earlier = cc h in
          (s, 0, omega (arith, number), refl, (has.0, get_or m.signatures place s, subst (λ n. slice_get sets n ≡ Some has.0) origin has.1, has.2, found.1))
    ]) refl is

limit_is_none : (a b : Option MergeFault) (index earlier : ℕ) → or_fault a b ≡ Some (Clash index earlier) → (b ≡ Some (Clash index earlier) → ⊥) → a ≡ Some (Clash index earlier)
limit_is_none None b index earlier is none = absurd (none is)
limit_is_none (Some f) b index earlier is none = is

no_limit_is : (a b index earlier : ℕ) → cond (nat_lt 1024 a) (Some ManySignatures) (cond (nat_lt 16384 b) (Some ManyBytes) None) ≡ Some (Clash index earlier) → ⊥
no_limit_is a b index earlier =
    elim (nat_lt 1024 a) as (λ v. cond v (Some ManySignatures) (cond (nat_lt 16384 b) (Some ManyBytes) None) ≡ Some (Clash index earlier) → ⊥) [
      | true ↦ λ e. cc e
      | false ↦ elim (nat_lt 16384 b) as (λ v. cond v (Some ManyBytes) None ≡ Some (Clash index earlier) → ⊥) [ true ↦ λ e. cc e | false ↦ λ e. cc e ]
    ]

no_limit_clashes : (before more : List Signature) (index earlier : ℕ) → limit_with before more ≡ Some (Clash index earlier) → ⊥
no_limit_clashes before more index earlier is =
    no_limit_is (length before + length more) (byte_count (patterns_of before) + byte_count (patterns_of more)) index earlier is

pub true_clash : ClashesAreTrue
true_clash = λ sets m given index earlier is fault.
    let all = origins_from sets [] no_sets m 0 refl is tt in
    let clash = limit_is_none (clash_from m 0 given) (limit_with m.signatures (added_by m.signatures given)) index earlier fault (no_limit_clashes m.signatures (added_by m.signatures given) index earlier) in
    let at = clash_at sets m given 0 index earlier all clash in
    (at.0, subst (λ k. slice_get given k ≡ Some at.0) (omega (arith, at.2)) at.3, at.4)

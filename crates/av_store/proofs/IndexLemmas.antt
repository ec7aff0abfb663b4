use Rattle.std.proofs.Common.{ℕ, ◌≡◌, ◌<◌, ◌≤◌, ◌+◌, List, [], ◌∷◌, ◌++◌, Bool, true, false, cond, Some, None, refl, sym, ◌∙◌, ap, arith}
use Rattle.std.specs.List.{AllByRecursion}
use Rattle.std.specs.declared.cmp.Ordering.TheVariants.{Greater}
use Rattle.std.specs.Ordering.{nat_cmp}
use Rattle.std.specs.Cmp.{nat_cmp_is, eq_by_cmp_equiv}
use Rattle.std.specs.BTreeMap.{insert_entry}
use Rattle.std.proofs.lemmas.Cmp.{nat_cmp_total, nat_list_cmp_total}
use Rattle.std.proofs.lemmas.Map.Lookups.{exact_bytes}
use Rattle.std.proofs.lemmas.Map.Views.{tells_apart}
use Rattle.av_store.specs.declared.stream.Stream.{Stream}
use Rattle.av_store.specs.Content.{new_stream}
use Rattle.av_store.specs.Index.{AreApart}
use Rattle.av_store.specs.Rows.{Streams, is_number, is_same, stream_at, number_named, replaced, without}

-- ---- names

pub same_path : (a b : List ℕ) → is_same a b ≡ true → a ≡ b
same_path a b h = tells_apart exact_bytes a b h

pub same_self : (a : List ℕ) → is_same a a ≡ true
same_self a = (eq_by_cmp_equiv nat_list_cmp_total).refl a

pub same_flip : (a b : List ℕ) → is_same a b ≡ is_same b a
same_flip a b = (eq_by_cmp_equiv nat_list_cmp_total).symm a b

-- a name that no stream has is not the first one's, nor one of the others'
none_cons : (name : List ℕ) (e : ℕ × Stream) (ss : Streams) → number_named name (e ∷ ss) ≡ None → (is_same name e.1.name ≡ false) × (number_named name ss ≡ None)
none_cons name e ss h =
    (elim (is_same name e.1.name) as (λ b. is_same name e.1.name ≡ b → cond b (Some e.0) (number_named name ss) ≡ None → (is_same name e.1.name ≡ false) × (number_named name ss ≡ None)) [
      | true ↦ λ is g. absurd cc
      | false ↦ λ is g. (is, g)
    ]) refl h

-- ---- a new stream at the end

above : (n k : ℕ) → k < n → nat_cmp n k ≡ Greater
above n k h = sym (nat_cmp_is n k Greater h)

number_self : (n : ℕ) → is_number n n ≡ true
number_self n = (eq_by_cmp_equiv nat_cmp_total).refl n

pub insert_last : (es : Streams) (n : ℕ) (v : Stream) → AllByRecursion (λ s. s.0 < n) es → insert_entry nat_cmp es n v ≡ es ++ (n, v) ∷ []
insert_last [] n v h = refl
insert_last (e ∷ es) n v h = rw (above n e.0 h.0) (ap (λ x. e ∷ x) (insert_last es n v h.1))

pub without_last : (es : Streams) (n : ℕ) (v : Stream) → AllByRecursion (λ s. s.0 < n) es → without n (es ++ (n, v) ∷ []) ≡ es
without_last [] n v h = rw (number_self n) refl
without_last (e ∷ es) n v h = rw (above n e.0 h.0) (ap (λ x. e ∷ x) (without_last es n v h.1))

pub named_last : (ss : Streams) (n : ℕ) (s : Stream) (q : List ℕ) → number_named s.name ss ≡ None → number_named q (ss ++ (n, s) ∷ []) ≡ cond (is_same q s.name) (Some n) (number_named q ss)
named_last [] n s q h = refl
named_last (e ∷ ss) n s q h =
    let there = none_cons s.name e ss h in
    (elim (is_same q e.1.name) as (λ b. is_same q e.1.name ≡ b → cond b (Some e.0) (number_named q (ss ++ (n, s) ∷ [])) ≡ cond (is_same q s.name) (Some n) (cond b (Some e.0) (number_named q ss))) [
      | true ↦ λ is.
          let other : is_same q s.name ≡ false = ap (λ x. is_same x s.name) (same_path q e.1.name is) ∙ same_flip e.1.name s.name ∙ there.0 in
          rw other refl
      | false ↦ λ is. named_last ss n s q there.1
    ]) refl

pub apart_last : (ss : Streams) (n : ℕ) (s : Stream) → AreApart ss → number_named s.name ss ≡ None → AreApart (ss ++ (n, s) ∷ [])
unfolding AreApart
apart_last [] n s apart h = (refl, tt)
apart_last (e ∷ ss) n s apart h =
    let there = none_cons s.name e ss h in
    let other : is_same e.1.name s.name ≡ false = same_flip e.1.name s.name ∙ there.0 in
    (named_last ss n s e.1.name there.1 ∙ (rw other apart.0), apart_last ss n s apart.1 there.1)

pub below_last : (ss : Streams) (last : ℕ) (s : Stream) → AllByRecursion (λ e. e.0 ≤ last) ss → AllByRecursion (λ e. e.0 ≤ last + 1) (ss ++ (last + 1, s) ∷ [])
below_last [] last s h = (omega arith, tt)
below_last (e ∷ ss) last s h = let first = h.0 in (omega arith, below_last ss last s h.1)

-- ---- a stream taken away

named_there : (ss : Streams) (id : ℕ) (s : Stream) → stream_at id ss ≡ Some s → number_named s.name ss ≡ None → ⊥
named_there [] id s h none = absurd cc
named_there (e ∷ ss) id s h none =
    let there = none_cons s.name e ss none in
    (elim (is_number id e.0) as (λ b. cond b (Some e.1) (stream_at id ss) ≡ Some s → ⊥) [
      | true ↦ λ g.
          let same : e.1 ≡ s = cc in
          let is : is_same s.name e.1.name ≡ true = ap (λ (x : Stream). is_same s.name x.name) same ∙ same_self s.name in
          absurd cc
      | false ↦ λ g. named_there ss id s g there.1
    ]) h

pub named_without : (ss : Streams) (id : ℕ) (s : Stream) (q : List ℕ) → AreApart ss → stream_at id ss ≡ Some s → number_named q (without id ss) ≡ cond (is_same q s.name) None (number_named q ss)
unfolding AreApart
named_without [] id s q apart h = absurd cc
named_without (e ∷ ss) id s q apart h =
    (elim (is_number id e.0) as (λ b. cond b (Some e.1) (stream_at id ss) ≡ Some s → number_named q (cond b ss (e ∷ without id ss)) ≡ cond (is_same q s.name) None (number_named q (e ∷ ss))) [
      | true ↦ λ g.
          let same : e.1 ≡ s = cc in
          first (is_same q e.1.name) refl ∙ ap (λ b. cond b None (number_named q (e ∷ ss))) (ap (λ (x : Stream). is_same q x.name) same)
      | false ↦ λ g. rest (is_same q e.1.name) refl g (named_without ss id s q apart.1 g)
    ]) h
  where
    first : (b : Bool) → is_same q e.1.name ≡ b → number_named q ss ≡ cond b None (cond b (Some e.0) (number_named q ss))
    first true is = ap (λ x. number_named x ss) (same_path q e.1.name is) ∙ apart.0
    first false is = refl

    rest : (b : Bool) → is_same q e.1.name ≡ b → stream_at id ss ≡ Some s → number_named q (without id ss) ≡ cond (is_same q s.name) None (number_named q ss) → cond b (Some e.0) (number_named q (without id ss)) ≡ cond (is_same q s.name) None (cond b (Some e.0) (number_named q ss))
    rest true is g others =
        (elim (is_same q s.name) as (λ c. is_same q s.name ≡ c → Some e.0 ≡ cond c None (Some e.0)) [
          | true ↦ λ also. absurd (named_there ss id s g (ap (λ x. number_named x ss) (sym (same_path q s.name also) ∙ same_path q e.1.name is) ∙ apart.0))
          | false ↦ λ also. refl
        ]) refl
    rest false is g others = others

none_without : (ss : Streams) (id : ℕ) (q : List ℕ) → number_named q ss ≡ None → number_named q (without id ss) ≡ None
none_without [] id q h = refl
none_without (e ∷ ss) id q h =
    let there = none_cons q e ss h in
    (elim (is_number id e.0) as (λ b. number_named q (cond b ss (e ∷ without id ss)) ≡ None) [
      | true ↦ there.1
      | false ↦ rw (there.0) (none_without ss id q there.1)
    ])

pub apart_without : (ss : Streams) (id : ℕ) → AreApart ss → AreApart (without id ss)
unfolding AreApart
apart_without [] id apart = tt
apart_without (e ∷ ss) id apart =
    (elim (is_number id e.0) as (λ b. AreApart (cond b ss (e ∷ without id ss))) [
      | true ↦ apart.1
      | false ↦ (none_without ss id e.1.name apart.0, apart_without ss id apart.1)
    ])

pub below_without : (ss : Streams) (id last : ℕ) → AllByRecursion (λ e. e.0 ≤ last) ss → AllByRecursion (λ e. e.0 ≤ last) (without id ss)
below_without [] id last h = tt
below_without (e ∷ ss) id last h =
    (elim (is_number id e.0) as (λ b. AllByRecursion (λ e. e.0 ≤ last) (cond b ss (e ∷ without id ss))) [
      | true ↦ h.1
      | false ↦ (h.0, below_without ss id last h.1)
    ])

-- ---- a stream changed, its name kept

pub named_replaced : (ss : Streams) (id : ℕ) (s t : Stream) (q : List ℕ) → stream_at id ss ≡ Some s → t.name ≡ s.name → number_named q (replaced id t ss) ≡ number_named q ss
named_replaced [] id s t q h same = refl
named_replaced (e ∷ ss) id s t q h same =
    (elim (is_number id e.0) as (λ b. cond b (Some e.1) (stream_at id ss) ≡ Some s → number_named q (cond b ((e.0, t) ∷ ss) (e ∷ replaced id t ss)) ≡ number_named q (e ∷ ss)) [
      | true ↦ λ g.
          let is : e.1 ≡ s = cc in
          ap (λ x. cond (is_same q x) (Some e.0) (number_named q ss)) (same ∙ sym (ap (λ (x : Stream). x.name) is))
      | false ↦ λ g. ap (cond (is_same q e.1.name) (Some e.0)) (named_replaced ss id s t q g same)
    ]) h

pub apart_replaced : (ss : Streams) (id : ℕ) (s t : Stream) → stream_at id ss ≡ Some s → t.name ≡ s.name → AreApart ss → AreApart (replaced id t ss)
unfolding AreApart
apart_replaced [] id s t h same apart = tt
apart_replaced (e ∷ ss) id s t h same apart =
    (elim (is_number id e.0) as (λ b. cond b (Some e.1) (stream_at id ss) ≡ Some s → AreApart (cond b ((e.0, t) ∷ ss) (e ∷ replaced id t ss))) [
      | true ↦ λ g.
          let is : e.1 ≡ s = cc in
          (ap (λ x. number_named x ss) (same ∙ sym (ap (λ (x : Stream). x.name) is)) ∙ apart.0, apart.1)
      | false ↦ λ g. (named_replaced ss id s t e.1.name g same ∙ apart.0, apart_replaced ss id s t g same apart.1)
    ]) h

pub below_replaced : (ss : Streams) (id last : ℕ) (t : Stream) → AllByRecursion (λ e. e.0 ≤ last) ss → AllByRecursion (λ e. e.0 ≤ last) (replaced id t ss)
below_replaced [] id last t h = tt
below_replaced (e ∷ ss) id last t h =
    (elim (is_number id e.0) as (λ b. AllByRecursion (λ e. e.0 ≤ last) (cond b ((e.0, t) ∷ ss) (e ∷ replaced id t ss))) [
      | true ↦ (h.0, h.1)
      | false ↦ (h.0, below_replaced ss id last t h.1)
    ])

pub made : (name n b : List ℕ) (g : ℕ) → n ≡ name → g ≡ 1 → b ≡ [] → (let s : Stream = record { name = n; generation = g; bytes = b } in s) ≡ new_stream name
made name n b g e h f = λ i. record { name = e i; generation = h i; bytes = f i }

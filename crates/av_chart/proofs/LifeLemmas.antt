use Rattle.std.proofs.Common.{ℕ, zero, suc, ◌≡◌, ◌⊎◌, inl, inr, ⊎_elim, ◌<◌, ◌||◌, ◌++◌, Bool, true, false, cond, List, [], ◌∷◌, length, map, Option, None, Some, is_some, is_none, slice_get, slice_set, IfSome, refl, sym, ap, ◌∙◌, subst, arith, if◌then◌else◌}
use Rattle.std.proofs.lemmas.Bool.{and_from, and_parts}
use Rattle.std.specs.List.{list_any}
use Rattle.std.specs.Option.{option_map}
use Rattle.std.proofs.lemmas.List.{length-map, map-set}
use Rattle.std.proofs.lemmas.Option.{slice_get-map, slice_get_within}
use Rattle.av_base.proofs.KeyLemmas.{same_id-refl, same_id-true, same_port-refl, same_port-true}
use Rattle.av_base.specs.MessageId.{same_id}
use Rattle.av_base.specs.declared.message_id.MessageId.{MessageId}
use Rattle.av_base.specs.Port.{same_port}
use Rattle.av_base.specs.declared.port.Port.{Port}
use Rattle.av_chart.specs.Life.{IsIndexed, Life, life_of, lives_of, LivesAs, ended, ended_at, ends, ends_at, lives_as, lives_at, with_end}
use Rattle.av_chart.specs.Living.{HasNone, Index, Writes, same_life}
use Rattle.av_chart.specs.declared.life.Bar.{Bar}
use Rattle.av_chart.specs.declared.life.End.{End}

-- what an element is under a map
pub mapped : {A B : Type 0} (f : A → B) (xs : List A) (k : ℕ) (x : A) → slice_get xs k ≡ Some x → slice_get (map f xs) k ≡ Some (f x)
mapped f xs k x is = slice_get-map f xs k ∙ ap (option_map f) is

not_true : (b : Bool) → (b ≡ true → ⊥) → b ≡ false
not_true true h = absurd (h refl)
not_true false h = refl

-- where none passes, nothing changes
none_passes : (p : Life → Bool) (f : Life → Life) (bs : List Life) → ((j : ℕ) (c : Life) → slice_get bs j ≡ Some c → p c ≡ true → ⊥)
    → map (λ c. if p c then f c else c) bs ≡ bs
none_passes p f [] none = refl
none_passes p f (a ∷ bs) none =
    let first : p a ≡ false = not_true (p a) (λ passes. none 0 a refl passes) in
    let same : (if p a then f a else a) ≡ a = rw first refl in
    let rest = none_passes p f bs (λ j c at passes. none (suc j) c at passes) in
    cc

-- one element that is changed, of those that pass a test, is a map
pub set_is_map : (p : Life → Bool) (f : Life → Life) (bs : List Life) (k : ℕ) (b : Life) → slice_get bs k ≡ Some b → p b ≡ true
    → ((j : ℕ) (c : Life) → slice_get bs j ≡ Some c → p c ≡ true → j ≡ k) → slice_set bs k (f b) ≡ map (λ c. if p c then f c else c) bs
set_is_map p f [] k b is passes one = absurd (cc)
set_is_map p f (a ∷ bs) zero b is this one =
    let here : a ≡ b = cc in
    let first : (if p a then f a else a) ≡ f b = rw here (rw this refl) in
    let others : map (λ c. if p c then f c else c) bs ≡ bs = none_passes p f bs (λ j c at passes. let wrong : suc j ≡ 0 = one (suc j) c at passes in omega arith) in
    cc
set_is_map p f (a ∷ bs) (suc k) b is this one =
    let first : p a ≡ false = not_true (p a) (λ passes. let wrong : 0 ≡ suc k = one 0 a refl passes in omega arith) in
    let same : (if p a then f a else a) ≡ a = rw first refl in
    let rest = set_is_map p f bs k b is this (λ j c at passes. let next : suc j ≡ suc k = one (suc j) c at passes in omega arith) in
    cc

-- a life that has no end, at this port, of this id
record IsOne (p : Port) (id : MessageId) (c : Life) : Type 0 where
  free : is_none c.end ≡ true
  port : p ≡ c.port
  id_is : id ≡ c.id

is_one : (p : Port) (id : MessageId) (c : Life) → lives_as p id c ≡ true → IsOne p id c
is_one p id c h =
    let parts = and_parts (same_id id c.id) (lives_at p c) h in
    let rest = and_parts (is_none c.end) (same_port p c.port) parts.1 in
    record { free = rest.0; port = same_port-true p c.port rest.1; id_is = same_id-true id c.id parts.0 }

lives_own : (c : Life) → is_none c.end ≡ true → lives_as c.port c.id c ≡ true
lives_own c free = and_from (same_id c.id c.id) (lives_at c.port c) (same_id-refl c.id) (and_from (is_none c.end) (same_port c.port c.port) free (same_port-refl c.port))

lives_so : (p : Port) (id : MessageId) (c : Life) → is_none c.end ≡ true → c.port ≡ p → c.id ≡ id → lives_as p id c ≡ true
lives_so p id c free port own = subst (λ q. lives_as q id c ≡ true) port (subst (λ j. lives_as c.port j c ≡ true) own (lives_own c free))

-- and of two of them
pub life_is : (p q : Port) (id j : MessageId) → same_life p id q j ≡ true → (p ≡ q) × (id ≡ j)
life_is p q id j h = let parts = and_parts (same_port p q) (same_id id j) h in (same_port-true p q parts.0, same_id-true id j parts.1)

pub life_same : (p : Port) (id : MessageId) → same_life p id p id ≡ true
life_same p id = and_from (same_port p p) (same_id id id) (same_port-refl p) (same_id-refl id)

told_lives : (p : Port) (id : MessageId) (o : Option Life) → LivesAs p id o → (b : Life) × (o ≡ Some b) × (lives_as p id b ≡ true)
told_lives p id None h = absurd h
told_lives p id (Some b) h = (b, refl, lives_so p id b h.0 h.1 h.2)

-- whoever is found lives
pub found : (bars : List Life) (at : Index) (p : Port) (id : MessageId) (k : ℕ) → IsIndexed bars at → at p id ≡ Some k → (b : Life) × (slice_get bars k ≡ Some b) × (lives_as p id b ≡ true)
found bars at p id k i is = told_lives p id (slice_get bars k) (i.only p id k is)

-- and stands where it is found
pub stands : (bars : List Life) (at : Index) (p : Port) (id : MessageId) (j : ℕ) (c : Life) → IsIndexed bars at → slice_get bars j ≡ Some c → lives_as p id c ≡ true → at p id ≡ Some j
stands bars at p id j c i is lives =
    let own = is_one p id c lives in
    let there : at c.port c.id ≡ Some j = i.each j c is own.free in
    ap (λ q. at q id) own.port ∙ ap (at c.port) own.id_is ∙ there

-- an end of one that is found
pub ends_found : (bars : List Life) (at : Index) (p : Port) (id : MessageId) (k : ℕ) (e : End) (new : List Life) → IsIndexed bars at → at p id ≡ Some k
    → IfSome (slice_get bars k) (λ bar. new ≡ slice_set bars k (with_end e bar)) → new ≡ ends p id e bars
ends_found bars at p id k e new i is set =
    let f = found bars at p id k i is in
    let own : new ≡ slice_set bars k (with_end e f.0) = rw f.1 at set in
    own ∙ set_is_map (lives_as p id) (with_end e) bars k f.0 f.1 f.2
    (λ j c at_j lives. let there : at p id ≡ Some j = stands bars at p id j c i at_j lives in let same : Some j ≡ Some k = sym there ∙ is in cc)

pub found_within : (bars : List Life) (at : Index) (p : Port) (id : MessageId) (k : ℕ) → IsIndexed bars at → at p id ≡ Some k → k < length bars
found_within bars at p id k i is = let f = found bars at p id k i is in slice_get_within bars k f.0 f.1

-- an end of one that is not found
pub ends_absent : (bars : List Life) (at : Index) (p : Port) (id : MessageId) (e : End) → IsIndexed bars at → at p id ≡ None → bars ≡ ends p id e bars
ends_absent bars at p id e i none =
    sym (none_passes (lives_as p id) (with_end e) bars (λ j c at_j lives. let there : at p id ≡ Some j = stands bars at p id j c i at_j lives in let wrong : Some j ≡ None = sym there ∙ none in absurd (cc)))

-- what has no end after an end was not ended by it
kept : (p : Port) (id : MessageId) (e : End) (b : Life) → is_none (ended p id e b).end ≡ true → (lives_as p id b ≡ false) × (ended p id e b ≡ b)
kept p id e b none =
    let cases : (v : Bool) → lives_as p id b ≡ v → (lives_as p id b ≡ false) × (ended p id e b ≡ b) =
    λ v is. elim v as (λ v. lives_as p id b ≡ v → (lives_as p id b ≡ false) × (ended p id e b ≡ b)) [
      | true ↦ λ yes. let gone : is_none (ended p id e b).end ≡ false = rw yes refl in absurd (cc)
      | false ↦ λ no. (no, rw no refl)
    ] is
    in
    cases (lives_as p id b) refl

-- an end leaves the others where they are found
ended_each : (bars : List Life) (at new : Index) (p : Port) (id : MessageId) (e : End) → IsIndexed bars at → Writes at new p id None
    → (k : ℕ) (b : Life) (o : Option Life) → slice_get bars k ≡ o → option_map (ended p id e) o ≡ Some b → is_none b.end ≡ true → new b.port b.id ≡ Some k
ended_each bars at new p id e i so k b None is got none = absurd (cc)
ended_each bars at new p id e i so k b (Some c) is got none =
    let own : ended p id e c ≡ b = cc in
    let still : is_none (ended p id e c).end ≡ true = rw own none in
    let untouched = kept p id e c still in
    let same : c ≡ b = sym untouched.1 ∙ own in
    let free : is_none c.end ≡ true = rw same none in
    let there : at c.port c.id ≡ Some k = i.each k c is free in
    let other : same_life p id c.port c.id ≡ false =
    not_true (same_life p id c.port c.id) (λ yes. let one = life_is p c.port id c.id yes in let lives : lives_as p id c ≡ true = lives_so p id c free (sym one.0) (sym one.1) in let not_it = untouched.0 in absurd (cc))
    in
    let here : new c.port c.id ≡ Some k = so c.port c.id ∙ ap (λ v. cond v None (at c.port c.id)) other ∙ there in
    subst (λ (d : Life). new d.port d.id ≡ Some k) same here

ended_only : (p q : Port) (id j : MessageId) (e : End) (o : Option Life) → same_life p id q j ≡ false → LivesAs q j o → LivesAs q j (option_map (ended p id e) o)
ended_only p q id j e None other h = h
ended_only p q id j e (Some b) other h =
    let not_it : lives_as p id b ≡ false =
    not_true (lives_as p id b) (λ yes. let own = is_one p id b yes in let one : same_life p id q j ≡ true = subst (λ r. same_life p id r j ≡ true) (own.port ∙ h.1) (subst (λ k. same_life p id p k ≡ true) (own.id_is ∙ h.2) (life_same p id)) in absurd (cc))
    in
    let same : ended p id e b ≡ b = rw not_it refl in
    subst (λ (c : Life). (is_none c.end ≡ true) × (c.port ≡ q) × (c.id ≡ j)) (sym same) h

not_both : (v : Bool) (o : Option ℕ) (k : ℕ) → cond v None o ≡ Some k → (v ≡ false) × (o ≡ Some k)
not_both true o k got = absurd (cc)
not_both false o k got = (refl, got)

pub ended_indexed : (bars : List Life) (at new : Index) (p : Port) (id : MessageId) (e : End) → IsIndexed bars at → Writes at new p id None → IsIndexed (ends p id e bars) new
ended_indexed bars at new p id e i so =
    record {
      each = λ k b is none. ended_each bars at new p id e i so k b (slice_get bars k) refl (sym (slice_get-map (ended p id e) bars k) ∙ is) none;
      only = λ q j k is.
          let h = not_both (same_life p id q j) (at q j) k (sym (so q j) ∙ is) in
          subst (LivesAs q j) (sym (slice_get-map (ended p id e) bars k)) (ended_only p q id j e (slice_get bars k) h.0 (i.only q j k h.1));
    }

none_any : (p : Life → Bool) (bs : List Life) → ((j : ℕ) (c : Life) → slice_get bs j ≡ Some c → p c ≡ true → ⊥) → list_any p bs ≡ false
none_any p [] none = refl
none_any p (b ∷ bs) none =
    let first : p b ≡ false = not_true (p b) (λ passes. none 0 b refl passes) in
    let rest = none_any p bs (λ j c at passes. none (suc j) c at passes) in
    rw first rest

pub one_any : (p : Life → Bool) (bs : List Life) (k : ℕ) (b : Life) → slice_get bs k ≡ Some b → p b ≡ true → list_any p bs ≡ true
one_any p [] k b is passes = absurd (cc)
one_any p (a ∷ bs) zero b is passes =
    let here : a ≡ b = cc in
    rw here (rw passes refl)
one_any p (a ∷ bs) (suc k) b is passes =
    let rest = one_any p bs k b is passes in
    elim (p a) as (λ v. (v || list_any p bs) ≡ true) [ true ↦ refl | false ↦ rest ]

lives_by : (bars : List Life) (at : Index) (p : Port) (id : MessageId) → IsIndexed bars at → (o : Option ℕ) → at p id ≡ o → is_some o ≡ list_any (lives_as p id) bars
lives_by bars at p id i None is =
    sym (none_any (lives_as p id) bars (λ j c at_j lives. let there : at p id ≡ Some j = stands bars at p id j c i at_j lives in absurd (cc)))
lives_by bars at p id i (Some k) is = let f = found bars at p id k i is in sym (one_any (lives_as p id) bars k f.0 f.1 f.2)

-- whether one lives, by where it is found
pub lives_is : (bars : List Life) (at : Index) (p : Port) (id : MessageId) → IsIndexed bars at → is_some (at p id) ≡ list_any (lives_as p id) bars
lives_is bars at p id i = lives_by bars at p id i (at p id) refl

-- a place of a list with one more
pub one_more : {A : Type 0} (xs : List A) (x y : A) (k : ℕ) → slice_get (xs ++ x ∷ []) k ≡ Some y → (slice_get xs k ≡ Some y) ⊎ ((k ≡ length xs) × (x ≡ y))
one_more [] x y zero is = inr (refl, let same : x ≡ y = cc in same)
one_more [] x y (suc k) is = absurd (cc)
one_more (a ∷ xs) x y zero is = inl is
one_more (a ∷ xs) x y (suc k) is = ⊎_elim (λ h. inl h) (λ h. let next : suc k ≡ length (a ∷ xs) = omega (arith, h.0) in inr (next, h.1)) (one_more xs x y k is)

pub still_there : {A : Type 0} (xs : List A) (x y : A) (k : ℕ) → slice_get xs k ≡ Some y → slice_get (xs ++ x ∷ []) k ≡ Some y
still_there [] x y k is = absurd (cc)
still_there (a ∷ xs) x y zero is = is
still_there (a ∷ xs) x y (suc k) is = still_there xs x y k is

pub the_last : {A : Type 0} (xs : List A) (x : A) → slice_get (xs ++ x ∷ []) (length xs) ≡ Some x
the_last [] x = refl
the_last (a ∷ xs) x = the_last xs x

-- a beginning is found too
begun_only : (bars : List Life) (b : Life) (q : Port) (j : MessageId) (k : ℕ) (o : Option Life) → slice_get bars k ≡ o → LivesAs q j o → LivesAs q j (slice_get (bars ++ b ∷ []) k)
begun_only bars b q j k None is h = absurd h
begun_only bars b q j k (Some c) is h = subst (LivesAs q j) (sym (still_there bars b c k is)) h

begun_by : (bars : List Life) (at : Index) (b : Life) → IsIndexed bars at → is_none b.end ≡ true → (q : Port) (j : MessageId) (k : ℕ) (v : Bool)
    → same_life b.port b.id q j ≡ v → cond v (Some (length bars)) (at q j) ≡ Some k → LivesAs q j (slice_get (bars ++ b ∷ []) k)
begun_by bars at b i free q j k true same got =
    let place : length bars ≡ k = cc in
    let last : slice_get (bars ++ b ∷ []) k ≡ Some b = subst (λ n. slice_get (bars ++ b ∷ []) n ≡ Some b) place (the_last bars b) in
    let own = life_is b.port q b.id j same in
    let told : LivesAs q j (Some b) = (free, own.0, own.1) in
    subst (LivesAs q j) (sym last) told
begun_by bars at b i free q j k false other got = begun_only bars b q j k (slice_get bars k) refl (i.only q j k got)

pub begun_indexed : (bars : List Life) (at new : Index) (b : Life) → IsIndexed bars at → list_any (lives_as b.port b.id) bars ≡ false → is_none b.end ≡ true
    → Writes at new b.port b.id (Some (length bars)) → IsIndexed (bars ++ b ∷ []) new
begun_indexed bars at new b i apart free so =
    record {
      each = λ k c is none.
          ⊎_elim
          (λ there.
          let other : same_life b.port b.id c.port c.id ≡ false =
          not_true (same_life b.port b.id c.port c.id) (λ yes. let one = life_is b.port c.port b.id c.id yes in let lives : lives_as b.port b.id c ≡ true = lives_so b.port b.id c none (sym one.0) (sym one.1) in let any = one_any (lives_as b.port b.id) bars k c there lives in absurd (cc))
          in
          so c.port c.id ∙ ap (λ v. cond v (Some (length bars)) (at c.port c.id)) other ∙ i.each k c there none)
          (λ h.
          let own : new b.port b.id ≡ Some (length bars) = so b.port b.id ∙ ap (λ v. cond v (Some (length bars)) (at b.port b.id)) (life_same b.port b.id) in
          subst (λ (d : Life). new d.port d.id ≡ Some k) h.1 (subst (λ n. new b.port b.id ≡ Some n) (sym h.0) own))
          (one_more bars b c k is);
      only = λ q j k is. begun_by bars at b i free q j k (same_life b.port b.id q j) refl (sym (so q j) ∙ is);
    }

-- where nothing is found at a port, all of it have ended
pub all_ended : (bars : List Life) (at : Index) (p : Port) (e : End) → IsIndexed bars at → HasNone at p → bars ≡ ends_at p e bars
all_ended bars at p e i none =
    sym (none_passes (lives_at p) (with_end e) bars (λ j c at_j lives.
    let parts = and_parts (is_none c.end) (same_port p c.port) lives in
    let there : at c.port c.id ≡ Some j = i.each j c at_j parts.0 in
    let nowhere : at c.port c.id ≡ None = ap (λ q. at q c.id) (sym (same_port-true p c.port parts.1)) ∙ none c.id in
    let wrong : Some j ≡ None = sym there ∙ nowhere in
    absurd (cc)))

-- and what ends all of a port ends what had ended by it
end_twice : (p : Port) (id : MessageId) (e : End) (b : Life) (v : Bool) → lives_as p id b ≡ v → ended_at p e (ended p id e b) ≡ ended_at p e b
end_twice p id e b true lives =
    let parts = and_parts (same_id id b.id) (lives_at p b) lives in
    let now : ended p id e b ≡ with_end e b = rw lives refl in
    let by_all : ended_at p e b ≡ with_end e b = rw parts.1 refl in
    ap (ended_at p e) now ∙ sym by_all
end_twice p id e b false lives = let same : ended p id e b ≡ b = rw lives refl in ap (ended_at p e) same

pub ends_by_all : (p : Port) (id : MessageId) (e : End) (bars : List Life) → ends_at p e (ends p id e bars) ≡ ends_at p e bars
ends_by_all p id e [] = refl
ends_by_all p id e (b ∷ bars) = let first = end_twice p id e b (lives_as p id b) refl in let rest = ends_by_all p id e bars in cc

-- a place among lives is one among their bars
pub bar_within : (bars : List Bar) (at : Index) (p : Port) (id : MessageId) (k : ℕ) → IsIndexed (lives_of bars) at → at p id ≡ Some k → k < length bars
bar_within bars at p id k i is = subst (λ n. k < n) (length-map bars life_of) (found_within (lives_of bars) at p id k i is)

-- a bar that is changed, where a life is
pub set_lives : (bars : List Bar) (k : ℕ) (b : Bar) → lives_of (slice_set bars k b) ≡ slice_set (lives_of bars) k (life_of b)
set_lives bars k b = map-set life_of bars k b

pub bar_ends : (bars : List Bar) (k : ℕ) (e : End) (old new : Bar) → slice_get bars k ≡ Some old → life_of new ≡ with_end e (life_of old)
    → IfSome (slice_get (lives_of bars) k) (λ l. lives_of (slice_set bars k new) ≡ slice_set (lives_of bars) k (with_end e l))
bar_ends bars k e old new is so =
    let there : slice_get (lives_of bars) k ≡ Some (life_of old) = mapped life_of bars k old is in
    rw there (set_lives bars k new ∙ ap (λ l. slice_set (lives_of bars) k l) so)

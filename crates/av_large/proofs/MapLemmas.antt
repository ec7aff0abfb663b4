-- Contents by rising number.
use Rattle.std.proofs.Common.{◌≡◌, ℕ, ◌<◌, ◌≤◌, Bool, true, false, nat_eq, ◌||◌, List, [], ◌∷◌, ◌++◌, append_assoc, not, Option, Some, None, cond, refl, sym, ◌∙◌, ap, arith}
use Rattle.std.specs.List.{AllByRecursion as Each}
use Rattle.std.specs.List.Sorted.{IsStrictlySortedBy}
use Rattle.std.specs.Map.{keys_of}
use Rattle.std.specs.Ordering.{nat_cmp, match_ordering, is_eq}
use Rattle.std.specs.declared.cmp.Ordering.TheVariants.{Less, Equal, Greater}
use Rattle.std.proofs.lemmas.Bool.Decides.{nat_tests}
use Rattle.av_large.specs.Index.{Ascends, HasTheirs, is_of, is_one}
use Rattle.av_large.specs.State.{numbers_of, others, theirs}
use Rattle.av_large.specs.declared.content.Content.{Content}
use Rattle.av_parts.specs.Judge.{at, with, without}

pub cmp_less : (n k : ℕ) → nat_cmp n k ≡ Less → n < k
cmp_less n k e = grind (arith, nat_tests)

pub cmp_equal : (n k : ℕ) → nat_cmp n k ≡ Equal → n ≡ k
cmp_equal n k e = grind (arith, nat_tests)

pub cmp_greater : (n k : ℕ) → nat_cmp n k ≡ Greater → k < n
cmp_greater n k e = grind (arith, nat_tests)

own : (n : ℕ) → nat_cmp n n ≡ Equal
own n = grind (arith, nat_tests)

-- what was put in where nothing was is taken back
pub taken_back : {X : Type 0} (m : List (ℕ × X)) (k : ℕ) (x : X) → at m k ≡ None → without (with m k x) k ≡ m
taken_back {X} [] k x none = ap (λ o. cond (is_eq o) [] ((k, x) ∷ [])) (own k)
taken_back {X} (e ∷ es) k x none =
    (elim (nat_cmp k e.0) as (λ o. nat_cmp k e.0 ≡ o → cond (is_eq o) (Some e.1) (at es k) ≡ None → without (match_ordering o ((k, x) ∷ e ∷ es) ((e.0, x) ∷ es) (e ∷ with es k x)) k ≡ e ∷ es) [
      | Less ↦ λ c later. ap (λ o. cond (is_eq o) (e ∷ es) ((k, x) ∷ without (e ∷ es) k)) (own k)
      | Equal ↦ λ c here. absurd cc
      | Greater ↦ λ c later. ap (λ o. cond (is_eq o) (with es k x) (e ∷ without (with es k x) k)) c ∙ ap (λ r. e ∷ r) (taken_back es k x later)
    ]) refl none

-- ---- the contents of one client

-- a number that is not above those of all is none of them
absent : {X : Type 0} (n k : ℕ) (es : List (ℕ × X)) → n ≤ k → Each (λ y. nat_cmp k y ≡ Less) (keys_of es) → at es n ≡ None
absent {X} n k [] le all = refl
absent {X} n k (e ∷ es) le all =
    let above : k < e.0 = cmp_less k e.0 all.0 in
    (elim (nat_cmp n e.0) as (λ o. nat_cmp n e.0 ≡ o → cond (is_eq o) (Some e.1) (at es n) ≡ None) [
      | Less ↦ λ c. absent n k es le all.1
      | Equal ↦ λ c. let same : n ≡ e.0 = cmp_equal n e.0 c in absurd (let no : ⊥ = omega (arith, le, above, same) in no)
      | Greater ↦ λ c. absent n k es le all.1
    ]) refl

-- what holds of each content that is found holds of each
pub each_from : {X : Type 0} (P : ℕ → X → Type 0) (m : List (ℕ × X)) → Ascends m → ((k : ℕ) (x : X) → at m k ≡ Some x → P k x) → Each (λ (e : ℕ × X). P e.0 e.1) m
unfolding IsStrictlySortedBy
each_from {X} P [] up all = tt
each_from {X} P (e ∷ es) up all = (
  all e.0 e.1 (ap (λ o. cond (is_eq o) (Some e.1) (at es e.0)) (own e.0)),
  each_from P es up.1 (λ k x is. all k x (
      (elim (nat_cmp k e.0) as (λ o. nat_cmp k e.0 ≡ o → cond (is_eq o) (Some e.1) (at es k) ≡ Some x) [
        | Less ↦ λ c. is
        | Equal ↦ λ c. let same : k ≡ e.0 = cmp_equal k e.0 c in absurd (let no : None ≡ Some x = sym (absent k e.0 es (omega (arith, same)) up.0) ∙ is in let bad : ⊥ = cc in bad)
        | Greater ↦ λ c. is
      ]) refl)),
)

abbrev IsTheirs : ℕ → Content → Type 0
IsTheirs client c = nat_eq c.client client ≡ true

-- none is left
nothing_theirs : (client : ℕ) (m : List (ℕ × Content)) → Each (λ (e : ℕ × Content). IsTheirs client e.1 → ⊥) m → (theirs client m ≡ []) × (others client m ≡ m)
nothing_theirs client [] none = (refl, refl)
nothing_theirs client (e ∷ es) none =
    let rest = nothing_theirs client es none.1 in
    (elim (nat_eq e.1.client client) as (λ b. nat_eq e.1.client client ≡ b → (cond b (e ∷ theirs client es) (theirs client es) ≡ []) × (cond (not b) (e ∷ others client es) (others client es) ≡ e ∷ es)) [
      | true ↦ λ is. absurd (none.0 is)
      | false ↦ λ is. (rest.0, ap (λ r. e ∷ r) rest.1)
    ]) refl

pub none_left : (client : ℕ) (m : List (ℕ × Content)) → Ascends m → ((k : ℕ) (c : Content) → at m k ≡ Some c → IsTheirs client c → ⊥) → (theirs client m ≡ []) × (others client m ≡ m)
none_left client m up none = nothing_theirs client m (each_from (λ k c. IsTheirs client c → ⊥) m up none)

abbrev Takes : ℕ → ℕ → Content → List (ℕ × Content) → Type 0
Takes client n c m = (theirs client m ≡ (n, c) ∷ theirs client (without m n)) × (others client (without m n) ≡ others client m)

-- the first of a client's contents is taken out
first_out : (client n : ℕ) (c : Content) (m : List (ℕ × Content)) → Ascends m → at m n ≡ Some c → IsTheirs client c → Each (λ (e : ℕ × Content). IsTheirs client e.1 → n ≤ e.0) m → Takes client n c m
unfolding IsStrictlySortedBy
first_out client n c [] up is own_one least = absurd cc
first_out client n c (e ∷ es) up is own_one least =
    (elim (nat_cmp n e.0) as (λ o. nat_cmp n e.0 ≡ o → cond (is_eq o) (Some e.1) (at es n) ≡ Some c
    → (theirs client (e ∷ es) ≡ (n, c) ∷ theirs client (cond (is_eq o) es (e ∷ without es n))) × (others client (cond (is_eq o) es (e ∷ without es n)) ≡ others client (e ∷ es))) [
      | Less ↦ λ k later. let less = cmp_less n e.0 k in absurd (let no : None ≡ Some c = sym (absent n e.0 es (omega (arith, less)) up.0) ∙ later in let bad : ⊥ = cc in bad)
      | Equal ↦ λ k here.
          let number : e.0 ≡ n = sym (cmp_equal n e.0 k) in
          let value : e.1 ≡ c = cc in
          let this : nat_eq e.1.client client ≡ true = ap (λ (d : Content). nat_eq d.client client) value ∙ own_one in
          let entry : ◌≡◌ {A = ℕ × Content} e (n, c) = ap (λ k. (k, e.1)) number ∙ ap (λ v. (n, v)) value in
          (ap (λ b. cond b (e ∷ theirs client es) (theirs client es)) this ∙ ap (λ f. f ∷ theirs client es) entry, sym (ap (λ b. cond (not b) (e ∷ others client es) (others client es)) this))
      | Greater ↦ λ k later.
          let greater = cmp_greater n e.0 k in
          let rest = first_out client n c es up.1 later own_one least.1 in
          (elim (nat_eq e.1.client client) as (λ b. nat_eq e.1.client client ≡ b
          → (cond b (e ∷ theirs client es) (theirs client es) ≡ (n, c) ∷ cond b (e ∷ theirs client (without es n)) (theirs client (without es n)))
          × (cond (not b) (e ∷ others client (without es n)) (others client (without es n)) ≡ cond (not b) (e ∷ others client es) (others client es))) [
            | true ↦ λ it. let no : ⊥ = omega (arith, least.0 it, greater) in absurd no
            | false ↦ λ it. (rest.0, ap (λ r. e ∷ r) rest.1)
          ]) refl
    ]) refl is

pub takes_first : (client n : ℕ) (c : Content) (m : List (ℕ × Content)) → Ascends m → at m n ≡ Some c → IsTheirs client c → ((k : ℕ) (d : Content) → at m k ≡ Some d → IsTheirs client d → n ≤ k) → Takes client n c m
takes_first client n c m up is own_one least = first_out client n c m up is own_one (each_from (λ k d. IsTheirs client d → n ≤ k) m up least)

-- the same behind an entry that stays
behind : {X : Type 0} (n k : ℕ) (x : X) (e : ℕ × X) (es : List (ℕ × X)) → (n ≡ e.0 → ⊥) → (at (without es n) k ≡ Some x → (k ≡ n → ⊥) × (at es k ≡ Some x))
    → at (e ∷ without es n) k ≡ Some x → (k ≡ n → ⊥) × (at (e ∷ es) k ≡ Some x)
behind {X} n k x e es differs rest is =
    (elim (nat_cmp k e.0) as (λ o. nat_cmp k e.0 ≡ o → cond (is_eq o) (Some e.1) (at (without es n) k) ≡ Some x → (k ≡ n → ⊥) × (cond (is_eq o) (Some e.1) (at es k) ≡ Some x)) [
      | Less ↦ λ c later. rest later
      | Equal ↦ λ c here. (λ same. differs (sym same ∙ cmp_equal k e.0 c), here)
      | Greater ↦ λ c later. rest later
    ]) refl is

-- what is found after one was taken out is another, and was there
pub found_without : {X : Type 0} (n k : ℕ) (x : X) (m : List (ℕ × X)) → Ascends m → at (without m n) k ≡ Some x → (k ≡ n → ⊥) × (at m k ≡ Some x)
unfolding IsStrictlySortedBy
found_without {X} n k x [] up is = absurd cc
found_without {X} n k x (e ∷ es) up is =
    (elim (nat_cmp n e.0) as (λ o. nat_cmp n e.0 ≡ o → at (cond (is_eq o) es (e ∷ without es n)) k ≡ Some x → (k ≡ n → ⊥) × (at (e ∷ es) k ≡ Some x)) [
      | Less ↦ λ c later. behind n k x e es (λ same. let no : ⊥ = omega (arith, same, cmp_less n e.0 c) in no) (found_without n k x es up.1) later
      | Equal ↦ λ c later.
          let same : n ≡ e.0 = cmp_equal n e.0 c in
          (elim (nat_cmp k e.0) as (λ o. nat_cmp k e.0 ≡ o → (k ≡ n → ⊥) × (cond (is_eq o) (Some e.1) (at es k) ≡ Some x)) [
            | Less ↦ λ d. (λ it. let no : ⊥ = omega (arith, it, same, cmp_less k e.0 d) in no, later)
            | Equal ↦ λ d.
                let here : k ≡ e.0 = cmp_equal k e.0 d in
                absurd (let no : ◌≡◌ {A = Option X} None (Some x) = sym (absent k e.0 es (omega (arith, here)) up.0) ∙ later in let bad : ⊥ = cc in bad)
            | Greater ↦ λ d. (λ it. let no : ⊥ = omega (arith, it, same, cmp_greater k e.0 d) in no, later)
          ]) refl
      | Greater ↦ λ c later. behind n k x e es (λ same. let no : ⊥ = omega (arith, same, cmp_greater n e.0 c) in no) (found_without n k x es up.1) later
    ]) refl is

-- another number than the first is one of the rest
other_one : (k n : ℕ) (rest : List ℕ) → is_one k (n ∷ rest) ≡ true → (k ≡ n → ⊥) → is_one k rest ≡ true
other_one k n rest is differs =
    (elim (nat_cmp k n) as (λ o. nat_cmp k n ≡ o → (is_eq o || is_one k rest) ≡ true → is_one k rest ≡ true) [
      | Less ↦ λ c it. it
      | Equal ↦ λ c it. absurd (differs (cmp_equal k n c))
      | Greater ↦ λ c it. it
    ]) refl is

-- what was told of a client's contents, and of those that are left, after the first of its numbers was looked at
abbrev pub TakesOne : ℕ → ℕ → List ℕ → List (ℕ × Content) → List ℕ → Bool → Type 0
TakesOne client n rest m d b =
    (cond b (d ++ n ∷ []) d ++ numbers_of (theirs client (cond b (without m n) m)) ≡ d ++ numbers_of (theirs client m))
    × (others client (cond b (without m n) m) ≡ others client m) × HasTheirs client (cond b (without m n) m) rest

pub takes_one : (client n : ℕ) (rest : List ℕ) (m : List (ℕ × Content)) (d : List ℕ) → Ascends m → HasTheirs client m (n ∷ rest) → ((k : ℕ) → is_one k (n ∷ rest) ≡ true → n ≤ k)
    → TakesOne client n rest m d (is_of client (at m n))
takes_one client n rest m d up has least =
    (elim (at m n) as (λ o. at m n ≡ o → TakesOne client n rest m d (is_of client o)) [
      | None ↦ λ is. (
        refl,
        refl,
        λ k e found its. other_one k n rest (has k e found its) (λ same.
            let no : ◌≡◌ {A = Option Content} None (Some e) = sym is ∙ ap (at m) (sym same) ∙ found in
            let bad : ⊥ = cc in bad),
      )
      | Some c ↦ λ is. (elim (nat_eq c.client client) as (λ b. nat_eq c.client client ≡ b → TakesOne client n rest m d b) [
        | true ↦ λ its_own.
            let t = takes_first client n c m up is its_own (λ k e found its. least k (has k e found its)) in (
              append_assoc d (n ∷ []) (numbers_of (theirs client (without m n))) ∙ ap (λ r. d ++ r) (sym (ap numbers_of t.0)),
              t.1,
              λ k e found its. let f = found_without n k e m up found in other_one k n rest (has k e f.1 its) f.0,
            )
        | false ↦ λ its_not. (
          refl,
          refl,
          λ k e found its. other_one k n rest (has k e found its) (λ same.
              let it : ◌≡◌ {A = Option Content} (Some c) (Some e) = sym is ∙ ap (at m) (sym same) ∙ found in
              let content : c ≡ e = cc in
              let no : false ≡ true = sym its_not ∙ ap (λ (x : Content). nat_eq x.client client) content ∙ its in
              let bad : ⊥ = cc in bad),
        )
      ]) refl
    ]) refl

-- what is found among the contents of other clients was there, and is another's
pub found_other : (client n : ℕ) (c : Content) (m : List (ℕ × Content)) → Ascends m → at (others client m) n ≡ Some c → (at m n ≡ Some c) × (nat_eq c.client client ≡ false)
unfolding IsStrictlySortedBy
found_other client n c [] up is = absurd cc
found_other client n c (e ∷ es) up is =
    (elim (nat_eq e.1.client client) as (λ b. nat_eq e.1.client client ≡ b → at (cond (not b) (e ∷ others client es) (others client es)) n ≡ Some c → (at (e ∷ es) n ≡ Some c) × (nat_eq c.client client ≡ false)) [
      | true ↦ λ its later.
          let f = found_other client n c es up.1 later in (
            (elim (nat_cmp n e.0) as (λ o. nat_cmp n e.0 ≡ o → cond (is_eq o) (Some e.1) (at es n) ≡ Some c) [
              | Less ↦ λ d. f.0
              | Equal ↦ λ d.
                  let here : n ≡ e.0 = cmp_equal n e.0 d in
                  absurd (let no : ◌≡◌ {A = Option Content} None (Some c) = sym (absent n e.0 es (omega (arith, here)) up.0) ∙ f.0 in let bad : ⊥ = cc in bad)
              | Greater ↦ λ d. f.0
            ]) refl,
            f.1,
          )
      | false ↦ λ its later. (elim (nat_cmp n e.0) as (λ o. nat_cmp n e.0 ≡ o → cond (is_eq o) (Some e.1) (at (others client es) n) ≡ Some c → (cond (is_eq o) (Some e.1) (at es n) ≡ Some c) × (nat_eq c.client client ≡ false)) [
        | Less ↦ λ d more. found_other client n c es up.1 more
        | Equal ↦ λ d here. let value : e.1 ≡ c = cc in (here, ap (λ (x : Content). nat_eq x.client client) (sym value) ∙ its)
        | Greater ↦ λ d more. found_other client n c es up.1 more
      ]) refl later
    ]) refl is

-- ---- looking up

-- two numbers are the same, or not
pub by_number : {P : Type 0} (k n : ℕ) → (k ≡ n → P) → ((k ≡ n → ⊥) → P) → P
by_number {P} k n same differs =
    (elim (nat_cmp k n) as (λ o. nat_cmp k n ≡ o → P) [
      | Less ↦ λ c. differs (λ it. let no : ⊥ = omega (arith, it, cmp_less k n c) in no)
      | Equal ↦ λ c. same (cmp_equal k n c)
      | Greater ↦ λ c. differs (λ it. let no : ⊥ = omega (arith, it, cmp_greater k n c) in no)
    ]) refl

-- an entry of another number is passed over
pub passed : {X : Type 0} (k n : ℕ) (x : X) (rest : Option X) → (k ≡ n → ⊥) → cond (is_eq (nat_cmp k n)) (Some x) rest ≡ rest
passed {X} k n x rest differs =
    (elim (nat_cmp k n) as (λ o. nat_cmp k n ≡ o → cond (is_eq o) (Some x) rest ≡ rest) [ Less ↦ λ c. refl | Equal ↦ λ c. absurd (differs (cmp_equal k n c)) | Greater ↦ λ c. refl ]) refl

pub here_with : {X : Type 0} (n : ℕ) (x : X) (m : List (ℕ × X)) → at (with m n x) n ≡ Some x
here_with {X} n x [] = ap (λ o. cond (is_eq o) (Some x) None) (own n)
here_with {X} n x (e ∷ es) =
    (elim (nat_cmp n e.0) as (λ o. nat_cmp n e.0 ≡ o → at (match_ordering o ((n, x) ∷ e ∷ es) ((e.0, x) ∷ es) (e ∷ with es n x)) n ≡ Some x) [
      | Less ↦ λ c. ap (λ o. cond (is_eq o) (Some x) (at (e ∷ es) n)) (own n)
      | Equal ↦ λ c. ap (λ o. cond (is_eq o) (Some x) (at es n)) c
      | Greater ↦ λ c. ap (λ o. cond (is_eq o) (Some e.1) (at (with es n x) n)) c ∙ here_with n x es
    ]) refl

pub other_with : {X : Type 0} (k n : ℕ) (x : X) (m : List (ℕ × X)) → (k ≡ n → ⊥) → at (with m n x) k ≡ at m k
other_with {X} k n x [] differs = passed k n x None differs
other_with {X} k n x (e ∷ es) differs =
    (elim (nat_cmp n e.0) as (λ o. nat_cmp n e.0 ≡ o → at (match_ordering o ((n, x) ∷ e ∷ es) ((e.0, x) ∷ es) (e ∷ with es n x)) k ≡ at (e ∷ es) k) [
      | Less ↦ λ c. passed k n x (at (e ∷ es) k) differs
      | Equal ↦ λ c.
          let other : k ≡ e.0 → ⊥ = λ it. differs (it ∙ sym (cmp_equal n e.0 c)) in
          passed k e.0 x (at es k) other ∙ sym (passed k e.0 e.1 (at es k) other)
      | Greater ↦ λ c. ap (λ r. cond (is_eq (nat_cmp k e.0)) (Some e.1) r) (other_with k n x es differs)
    ]) refl

pub other_without : {X : Type 0} (k n : ℕ) (m : List (ℕ × X)) → (k ≡ n → ⊥) → at (without m n) k ≡ at m k
other_without {X} k n [] differs = refl
other_without {X} k n (e ∷ es) differs =
    (elim (nat_cmp n e.0) as (λ o. nat_cmp n e.0 ≡ o → at (cond (is_eq o) es (e ∷ without es n)) k ≡ at (e ∷ es) k) [
      | Less ↦ λ c. ap (λ r. cond (is_eq (nat_cmp k e.0)) (Some e.1) r) (other_without k n es differs)
      | Equal ↦ λ c. sym (passed k e.0 e.1 (at es k) (λ it. differs (it ∙ sym (cmp_equal n e.0 c))))
      | Greater ↦ λ c. ap (λ r. cond (is_eq (nat_cmp k e.0)) (Some e.1) r) (other_without k n es differs)
    ]) refl

-- ---- numbers go on rising

pub less_than : (k n : ℕ) → k < n → nat_cmp k n ≡ Less
less_than k n lt = grind (arith, nat_tests)

each_above : {X : Type 0} (k n : ℕ) (es : List (ℕ × X)) → k < n → Each (λ y. nat_cmp n y ≡ Less) (keys_of es) → Each (λ y. nat_cmp k y ≡ Less) (keys_of es)
each_above {X} k n [] lt all = tt
each_above {X} k n (e ∷ es) lt all = (less_than k e.0 (let le : k < e.0 = omega (arith, lt, cmp_less n e.0 all.0) in le), each_above k n es lt all.1)

each_with : {X : Type 0} (k n : ℕ) (x : X) (es : List (ℕ × X)) → nat_cmp k n ≡ Less → Each (λ y. nat_cmp k y ≡ Less) (keys_of es) → Each (λ y. nat_cmp k y ≡ Less) (keys_of (with es n x))
each_with {X} k n x [] lt all = (lt, tt)
each_with {X} k n x (e ∷ es) lt all =
    elim (nat_cmp n e.0) as (λ o. Each (λ y. nat_cmp k y ≡ Less) (keys_of (match_ordering o ((n, x) ∷ e ∷ es) ((e.0, x) ∷ es) (e ∷ with es n x)))) [
      | Less ↦ (lt, all)
      | Equal ↦ (all.0, all.1)
      | Greater ↦ (all.0, each_with k n x es lt all.1)
    ]

each_without : {X : Type 0} (k n : ℕ) (es : List (ℕ × X)) → Each (λ y. nat_cmp k y ≡ Less) (keys_of es) → Each (λ y. nat_cmp k y ≡ Less) (keys_of (without es n))
each_without {X} k n [] all = tt
each_without {X} k n (e ∷ es) all =
    elim (nat_cmp n e.0) as (λ o. Each (λ y. nat_cmp k y ≡ Less) (keys_of (cond (is_eq o) es (e ∷ without es n)))) [
      | Less ↦ (all.0, each_without k n es all.1)
      | Equal ↦ all.1
      | Greater ↦ (all.0, each_without k n es all.1)
    ]

pub ascends_with : {X : Type 0} (n : ℕ) (x : X) (m : List (ℕ × X)) → Ascends m → Ascends (with m n x)
unfolding IsStrictlySortedBy
ascends_with {X} n x [] up = (tt, tt)
ascends_with {X} n x (e ∷ es) up =
    (elim (nat_cmp n e.0) as (λ o. nat_cmp n e.0 ≡ o → Ascends (match_ordering o ((n, x) ∷ e ∷ es) ((e.0, x) ∷ es) (e ∷ with es n x))) [
      | Less ↦ λ c. ((c, each_above n e.0 es (cmp_less n e.0 c) up.0), up)
      | Equal ↦ λ c. (up.0, up.1)
      | Greater ↦ λ c. (each_with e.0 n x es (less_than e.0 n (cmp_greater n e.0 c)) up.0, ascends_with n x es up.1)
    ]) refl

pub ascends_without : {X : Type 0} (n : ℕ) (m : List (ℕ × X)) → Ascends m → Ascends (without m n)
unfolding IsStrictlySortedBy
ascends_without {X} n [] up = tt
ascends_without {X} n (e ∷ es) up =
    elim (nat_cmp n e.0) as (λ o. Ascends (cond (is_eq o) es (e ∷ without es n))) [
      | Less ↦ (each_without e.0 n es up.0, ascends_without n es up.1)
      | Equal ↦ up.1
      | Greater ↦ (each_without e.0 n es up.0, ascends_without n es up.1)
    ]

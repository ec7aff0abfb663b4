-- How what is known of streams follows the counted contexts.
use Rattle.std.proofs.Common.{◌≡◌, ◌≢◌, ℕ, ◌+◌, ◌-◌, ◌<◌, ◌≤◌, ◌==◌, Bool, true, false, List, Option, Some, None, IfSome, IsSome, IsSomeAnd, unwrap_or, cond, Result, Ok, Err, IfOk, refl, sym, ap, subst, ◌∙◌, inl, inr, arith}
use Rattle.std.specs.Option.{option_and_then, option_map}
use Rattle.std.specs.Ordering.{nat_cmp}
use Rattle.std.specs.BTreeMap.{is_at}
use Rattle.std.proofs.lemmas.Bool.{cases_eq, eqb-true}
use Rattle.std.proofs.lemmas.Bool.Decides.{nat_tests}
use Rattle.std.proofs.lemmas.Map.Entries.{sum_by-remove_entry}
use Rattle.av_base.specs.Answers.{Answers}
use Rattle.av_base.specs.declared.refusal.Refusal.{Refusal}
use Rattle.av_base.specs.declared.refusal.Refusal.TheVariants.{Fault, NoMemory}
use Rattle.av_context.specs.declared.context.Context.{Context}
use Rattle.av_context.specs.declared.context_fault.ContextFault.{ContextFault}
use Rattle.av_context.specs.declared.context_fault.ContextFault.TheVariants.{NotFound, RefsSpent}
use Rattle.av_context.specs.declared.context_ref.Set.TheVariants.{Attached}
use Rattle.av_context.specs.declared.context_state.ContextState.{ContextState}
use Rattle.av_context.specs.Context.{fresh, referred, attached, released, detached, with_state}
use Rattle.av_context.specs.Contexts.{Contexts, at, with, without, set_at, change, attachments_to, CountsAgree, IsHeld, IsSound, PutsAt}
use Rattle.av_context.specs.Calls.{delete, delete_at, set_keep, keep_at, state_at, get_at, refer, refer_at, get, is_spent, set_state, release, attach}
use Rattle.av_numbered.specs.Numbered.{IsAscending}
use Rattle.av_filter_table.specs.StreamContexts.{Known, known, known_at, known_of, AreAttached, given_back, let_loose, held_of}
use Rattle.av_filter_table.proofs.ChainLemmas.{apart-test}
use Rattle.av_numbered.proofs.MapLemmas.{not_there, if_some, if_some_at, none_some, some_same, at-with, at-with_other, with-ascends, at-without, at-without_other, without-ascends, at-joined, joined-ascends, joined-puts, same_map}

-- a map with what is at a number changed, there and elsewhere
pub at-change : {X : Type 0} (f : X → Option X) (m : List (ℕ × X)) (k : ℕ) → IsAscending m → at (change f m k) k ≡ option_and_then f (at m k)
at-change {X} f m k up = by_case (at m k) refl
  where
    by_slot : (x : X) (o : Option X) → f x ≡ o → at (set_at m k (f x)) k ≡ f x
    by_slot x None is = ap (λ o. at (set_at m k o) k) is ∙ (at-without m k up ∙ sym is)
    by_slot x (Some y) is = ap (λ o. at (set_at m k o) k) is ∙ (at-with m k y ∙ sym is)

    by_case : (o : Option X) → at m k ≡ o → at (change f m k) k ≡ option_and_then f (at m k)
    by_case None none = rw (none) none
    by_case (Some x) some = rw (some) (by_slot x (f x) refl)

pub at-change_other : {X : Type 0} (f : X → Option X) (m : List (ℕ × X)) (k j : ℕ) → j ≢ k → at (change f m k) j ≡ at m j
at-change_other {X} f m k j apart = by_case (at m k) refl
  where
    by_slot : (o : Option X) → at (set_at m k o) j ≡ at m j
    by_slot None = at-without_other m k j apart
    by_slot (Some y) = at-with_other m k j y apart

    by_case : (o : Option X) → at m k ≡ o → at (change f m k) j ≡ at m j
    by_case None none = rw (none) refl
    by_case (Some x) some = rw (some) (by_slot (f x))

-- what one attachment adds to the count of k
abbrev weight : ℕ → ℕ → ℕ
weight k key = cond (key == k) 1 0

weight-same : (k : ℕ) → weight k k ≡ 1
weight-same k = grind (arith, nat_tests)

-- an attachment counts
some-attached : (a : List (ℕ × ℕ)) (s k : ℕ) → at a s ≡ Some k → 1 ≤ attachments_to a k
some-attached a s k found =
    let sum = subst (λ o. attachments_to (without a s) k + unwrap_or (option_map (weight k) o) 0 ≡ attachments_to a k) found (sum_by-remove_entry (weight k) (is_at (nat_cmp s)) a) in
    let one = weight-same k in
    omega arith

two-attached : (a : List (ℕ × ℕ)) (s j k : ℕ) → j ≢ s → at a s ≡ Some k → at a j ≡ Some k → 2 ≤ attachments_to a k
two-attached a s j k apart found again =
    let sum = subst (λ o. attachments_to (without a s) k + unwrap_or (option_map (weight k) o) 0 ≡ attachments_to a k) found (sum_by-remove_entry (weight k) (is_at (nat_cmp s)) a) in
    let one = weight-same k in
    let more = some-attached (without a s) j k (at-without_other a s j apart ∙ again) in
    omega arith

module _ (t : Contexts) (w : AreAttached t) where
  -- the context of an attachment is there, and is attached once
  attached-one : (s k : ℕ) → at t.attachments s ≡ Some k → attachments_to t.attachments k ≡ 1
  attached-one s k found = by_case (at t.contexts k) refl
    where
      by_case : (o : Option Context) → at t.contexts k ≡ o → attachments_to t.attachments k ≡ 1
      by_case None none =
          let zero : attachments_to t.attachments k ≡ 0 = subst (λ o. CountsAgree o (attachments_to t.attachments k)) none (w.sound.counted k) in
          let more = some-attached t.attachments s k found in
          absurd (omega arith)
      by_case (Some c) some =
          let agrees = subst (λ o. CountsAgree o (attachments_to t.attachments k)) some (w.sound.counted k) in
          sym agrees.0 ∙ if_some_at (λ x. x.attached ≡ 1) (at t.contexts k) c (w.once k) some

  -- no two streams have one context
  pub streams-apart : (s j k : ℕ) → at t.attachments s ≡ Some k → at t.attachments j ≡ Some k → s ≡ j
  streams-apart s j k found again = elim (cases_eq j s) [
    | inl same ↦ sym same
    | inr apart ↦
        let one = attached-one s k found in
        let two = two-attached t.attachments s j k apart found again in
        absurd (omega arith)
  ]

  -- a key with no context is attached to no stream
  pub none-attached : (s k : ℕ) → at t.contexts k ≡ None → at t.attachments s ≢ Some k
  none-attached s k none found =
      let zero : attachments_to t.attachments k ≡ 0 = subst (λ o. CountsAgree o (attachments_to t.attachments k)) none (w.sound.counted k) in
      let more = some-attached t.attachments s k found in
      absurd (omega arith)

  pub at-known : (s : ℕ) → at (known_of t) s ≡ option_and_then (known_at t.contexts) (at t.attachments s)
  at-known s = at-joined t.attachments (known_at t.contexts) s w.sound.attachments_ascend

  pub known-ascends : IsAscending (known_of t)
  known-ascends = joined-ascends t.attachments (known_at t.contexts) w.sound.attachments_ascend

  -- one context and its attachment change
  pub known-puts : (t' : Contexts) (s k : ℕ) (slot : Option Known) → IsAscending t'.attachments
      → option_and_then (known_at t'.contexts) (at t'.attachments s) ≡ slot
      → ((j : ℕ) → j ≢ k → at t'.contexts j ≡ at t.contexts j)
      → ((j : ℕ) → j ≢ s → at t'.attachments j ≡ at t.attachments j)
      → ((j : ℕ) → j ≢ s → at t.attachments j ≢ Some k)
      → PutsAt (known_of t) (known_of t') s slot
  known-puts t' s k slot up here contexts streams free =
      joined-puts t.attachments t'.attachments (known_at t.contexts) (known_at t'.contexts) s slot w.sound.attachments_ascend up here
      (λ j apart. ap (option_and_then (known_at t'.contexts)) (streams j apart) ∙ by_case j apart (at t.attachments j) refl)
    where
      by_case : (j : ℕ) → j ≢ s → (o : Option ℕ) → at t.attachments j ≡ o → option_and_then (known_at t'.contexts) o ≡ option_and_then (known_at t.contexts) o
      by_case j apart None found = refl
      by_case j apart (Some i) found = ap (option_map (known i)) (contexts i (λ same. free j apart (found ∙ ap Some same)))

pub change-ascends : {X : Type 0} (f : X → Option X) (m : List (ℕ × X)) (k : ℕ) → IsAscending m → IsAscending (change f m k)
change-ascends {X} f m k up = by_case (at m k) refl
  where
    by_slot : (o : Option X) → IsAscending (set_at m k o)
    by_slot None = without-ascends m k up
    by_slot (Some y) = with-ascends m k y up

    by_case : (o : Option X) → at m k ≡ o → IsAscending (change f m k)
    by_case None none = rw (none) up
    by_case (Some x) some = rw (some) (by_slot (f x))

-- the state of a stream's context
pub state-known : (t : Contexts) (o : Option ℕ) → option_and_then (λ k. state_at t k) o ≡ option_map (λ m. m.state) (option_and_then (known_at t.contexts) o)
state-known t None = refl
state-known t (Some k) = by_case (at t.contexts k)
  where
    by_case : (o : Option Context) → option_map (λ c. c.state) o ≡ option_map (λ m. m.state) (option_map (known k) o)
    by_case None = refl
    by_case (Some c) = refl

-- what is known of a stream, in parts
pub record Parts (t : Contexts) (s : ℕ) (m : Known) : Type 0 where
  pub context : Context
  pub attachment : at t.attachments s ≡ Some m.key
  pub found : at t.contexts m.key ≡ Some context
  pub is : m ≡ known m.key context
  pub one : context.attached ≡ 1
  pub counted : context.attached ≤ context.references

module _ (t : Contexts) (w : AreAttached t) where
  pub context-of : (s k : ℕ) → at t.attachments s ≡ Some k → (c : Context) × (at t.contexts k ≡ Some c) × (c.attached ≡ 1) × (c.attached ≤ c.references)
  context-of s k found = by_case (at t.contexts k) refl
    where
      by_case : (o : Option Context) → at t.contexts k ≡ o → (c : Context) × (at t.contexts k ≡ Some c) × (c.attached ≡ 1) × (c.attached ≤ c.references)
      by_case None none = absurd (none-attached t w s k none found)
      by_case (Some c) some =
          let agrees = subst (λ o. CountsAgree o (attachments_to t.attachments k)) some (w.sound.counted k) in
          (c, some, if_some_at (λ x. x.attached ≡ 1) (at t.contexts k) c (w.once k) some, agrees.1)

  pub known-parts : (s : ℕ) (m : Known) → at (known_of t) s ≡ Some m → Parts t s m
  known-parts s m is = by_case (at t.attachments s) refl
    where
      by_case : (o : Option ℕ) → at t.attachments s ≡ o → Parts t s m
      by_case None none = none_some (sym (at-known t w s ∙ ap (option_and_then (known_at t.contexts)) none) ∙ is)
      by_case (Some k) found =
          let c = context-of s k found in
          let m_is : known k c.0 ≡ m = some_same (known k c.0) m (sym (at-known t w s ∙ (ap (option_and_then (known_at t.contexts)) found ∙ ap (option_map (known k)) c.1)) ∙ is) in
          let key : k ≡ m.key = ap (λ x. x.key) m_is in
          record {
            context = c.0;
            attachment = found ∙ ap Some key;
            found = ap (at t.contexts) (sym key) ∙ c.1;
            is = sym m_is ∙ ap (λ j. known j c.0) key;
            one = c.2;
            counted = c.3;
          }

  -- the context of a stream changes, and stays attached once
  pub changed-known : (f : Context → Option Context) (s k : ℕ) (c c' : Context) (m : Known) (t' : Contexts) → at t.attachments s ≡ Some k → at t.contexts k ≡ Some c → f c ≡ Some c' → m ≡ known k c'
      → t' ≡ record t { contexts = change f t.contexts k } → PutsAt (known_of t) (known_of t') s (Some m)
  changed-known f s k c c' m t' found here is m_is t_is =
      let at_k : at (change f t.contexts k) k ≡ Some c' = at-change f t.contexts k w.sound.contexts_ascend ∙ (ap (option_and_then f) here ∙ is) in
      subst (λ u. PutsAt (known_of t) (known_of u) s (Some m)) (sym t_is)
      (known-puts t w (record t { contexts = change f t.contexts k }) s k (Some m) w.sound.attachments_ascend
      (ap (option_and_then (known_at (change f t.contexts k))) found ∙ (ap (option_map (known k)) at_k ∙ ap Some (sym m_is)))
      (λ j apart. at-change_other f t.contexts k j apart)
      (λ j apart. refl)
      (λ j apart at_j. apart (streams-apart t w j s k at_j found)))

  pub changed-once : (f : Context → Option Context) (k : ℕ) (c c' : Context) (t' : Contexts) → at t.contexts k ≡ Some c → f c ≡ Some c' → c'.attached ≡ 1 → t' ≡ record t { contexts = change f t.contexts k } → IsSound t' → AreAttached t'
  changed-once f k c c' t' here is one t_is sound = record {
    sound = sound;
    once = λ j. if_some (λ x. x.attached ≡ 1) (at t'.contexts j) (λ x at_j.
        let at_j' : at (change f t.contexts k) j ≡ Some x = sym (ap (λ u. at u.contexts j) t_is) ∙ at_j in
        elim (cases_eq j k) [
          | inl same ↦ subst (λ y. y.attached ≡ 1) (some_same c' x (sym (at-change f t.contexts k w.sound.contexts_ascend ∙ (ap (option_and_then f) here ∙ is)) ∙ (ap (at (change f t.contexts k)) (sym same) ∙ at_j'))) one
          | inr apart ↦ if_some_at (λ y. y.attached ≡ 1) (at t.contexts j) x (w.once j) (sym (at-change_other f t.contexts k j apart) ∙ at_j')
        ]);
  }

-- two changes of one context are one
pub change-twice : {X : Type 0} (f g : X → Option X) (m : List (ℕ × X)) (k : ℕ) (x y : X) → IsAscending m → at m k ≡ Some x → f x ≡ Some y → change g (change f m k) k ≡ change (λ z. option_and_then g (f z)) m k
change-twice f g m k x y up here is =
    same_map (change g (change f m k) k) (change (λ z. option_and_then g (f z)) m k) (change-ascends g (change f m k) k (change-ascends f m k up)) (change-ascends (λ z. option_and_then g (f z)) m k up)
    (λ j. elim (cases_eq j k) [
      | inl same ↦ ap (at (change g (change f m k) k)) same ∙ (at-change g (change f m k) k (change-ascends f m k up) ∙ (ap (option_and_then g) (at-change f m k up ∙ ap (option_and_then f) here)
          ∙ sym (ap (at (change (λ z. option_and_then g (f z)) m k)) same ∙ (at-change (λ z. option_and_then g (f z)) m k up ∙ ap (option_and_then (λ z. option_and_then g (f z))) here))))
      | inr apart ↦ at-change_other g (change f m k) k j apart ∙ (at-change_other f m k j apart ∙ sym (at-change_other (λ z. option_and_then g (f z)) m k j apart))
    ])

-- a reference to what is attached
pub got : (t t' : Contexts) (s k : ℕ) → get t s ≡ Ok (k, t') → (at t.attachments s ≡ Some k) × (t' ≡ refer t k)
got t t' s k is = by_case (at t.attachments s) refl
  where
    ok_parts : (a b : ℕ × Contexts) → ◌≡◌ {A = Result (ℕ × Contexts) ContextFault} (Ok a) (Ok b) → a ≡ b
    ok_parts a b e = cc

    by_spent : (j : ℕ) (b : Bool) → is_spent (at t.contexts j) ≡ b → refer_at t j ≡ Ok (k, t') → (j ≡ k) × (t' ≡ refer t j)
    by_spent j true h e = absurd (cc)
    by_spent j false h e =
        let pair = ok_parts (j, refer t j) (k, t') (sym (ap (λ b. cond b (Err RefsSpent) (Ok (j, refer t j))) h) ∙ e) in
        (ap (λ p. p.0) pair, sym (ap (λ p. p.1) pair))

    by_case : (o : Option ℕ) → at t.attachments s ≡ o → (at t.attachments s ≡ Some k) × (t' ≡ refer t k)
    by_case None none = absurd (cc)
    by_case (Some j) found =
        let parts = by_spent j (is_spent (at t.contexts j)) refl (sym (ap (get_at t) found) ∙ is) in
        (found ∙ ap Some parts.0, parts.1 ∙ ap (refer t) parts.0)

pub not-found : (t : Contexts) (s : ℕ) → get t s ≡ Err NotFound → at t.attachments s ≡ None
not-found t s is = by_case (at t.attachments s) refl
  where
    by_spent : (j : ℕ) (b : Bool) → is_spent (at t.contexts j) ≡ b → refer_at t j ≡ Err NotFound → ⊥
    by_spent j true h e = let f : ◌≡◌ {A = Result (ℕ × Contexts) ContextFault} (Err RefsSpent) (Err NotFound) = sym (ap (λ b. cond b (Err RefsSpent) (Ok (j, refer t j))) h) ∙ e in absurd (cc)
    by_spent j false h e = let f : ◌≡◌ {A = Result (ℕ × Contexts) ContextFault} (Ok (j, refer t j)) (Err NotFound) = sym (ap (λ b. cond b (Err RefsSpent) (Ok (j, refer t j))) h) ∙ e in absurd (cc)

    by_case : (o : Option ℕ) → at t.attachments s ≡ o → at t.attachments s ≡ None
    by_case None none = none
    by_case (Some j) found = absurd (by_spent j (is_spent (at t.contexts j)) refl (sym (ap (get_at t) found) ∙ is))

-- a context that was given one reference more, or one less, in this state
abbrev pub held_again : ContextState → Context → Option Context
held_again state c = Some (with_state state (referred c))

abbrev pub let_go : ContextState → Context → Option Context
let_go state c = released (with_state state c)

pub record Holds (t t' : Contexts) (s k : ℕ) (state : ContextState) : Type 0 where
  pub puts : PutsAt (known_of t) (known_of t') s (Some (record { key = k; state = state; held = held_of (at (known_of t) s) + 1 }))
  pub same : IfSome (at (known_of t) s) (λ m. m.key ≡ k)
  pub once : IsSound t' → AreAttached t'

pub holds : (t t1 t' : Contexts) (s k : ℕ) (state : ContextState) → AreAttached t → get t s ≡ Ok (k, t1) → t' ≡ set_state t1 k state → Holds t t' s k state
holds t t1 t' s k state w is is' =
    let parts = got t t1 s k is in
    let c = context-of t w s k parts.0 in
    let t_is : t' ≡ record t { contexts = change (held_again state) t.contexts k } =
    is' ∙ (ap (λ u. set_state u k state) parts.1 ∙ (λ i. record { contexts = change-twice (λ x. Some (referred x)) (λ x. Some (with_state state x)) t.contexts k c.0 (referred c.0) w.sound.contexts_ascend c.1 refl i; attachments = t.attachments })) in
    let known_s : at (known_of t) s ≡ Some (known k c.0) = at-known t w s ∙ (ap (option_and_then (known_at t.contexts)) parts.0 ∙ ap (option_map (known k)) c.1) in
    let counted : c.0.attached ≤ c.0.references = c.3 in
    let more : c.0.references - c.0.attached + 1 ≡ c.0.references + 1 - c.0.attached = omega arith in
    record {
      puts = changed-known t w (held_again state) s k c.0 (with_state state (referred c.0)) (record { key = k; state = state; held = held_of (at (known_of t) s) + 1 }) t' parts.0 c.1 refl
          (ap (λ o. record { key = k; state = state; held = held_of o + 1 }) known_s ∙ (λ i. record { key = k; state = state; held = more i })) t_is;
      same = if_some (λ m. m.key ≡ k) (at (known_of t) s) (λ m at_s. ap (λ x. x.key) (some_same m (known k c.0) (sym at_s ∙ known_s)));
      once = changed-once t w (held_again state) k c.0 (with_state state (referred c.0)) t' c.1 refl c.2 t_is;
    }

pub still-held : (t t1 : Contexts) (s k : ℕ) → AreAttached t → get t s ≡ Ok (k, t1) → IsHeld t1 k
still-held t t1 s k w is =
    let parts = got t t1 s k is in
    let c = context-of t w s k parts.0 in
    let here : at t1.contexts k ≡ Some (referred c.0) = ap (λ u. at u.contexts k) parts.1 ∙ (at-change (λ x. Some (referred x)) t.contexts k w.sound.contexts_ascend ∙ ap (option_and_then (λ x. Some (referred x))) c.1) in
    let counted : c.0.attached ≤ c.0.references = c.3 in
    let less : c.0.attached < c.0.references + 1 = omega arith in
    subst (λ o. IsSomeAnd o (λ x. x.attached < x.references)) (sym here) less

pub never-spent : (t : Contexts) (s : ℕ) → AreAttached t → held_of (at (known_of t) s) < 9223372036854775808 → get t s ≡ Err RefsSpent → ⊥
never-spent t s w few is = by_case (at t.attachments s) refl
  where
    by_spent : (j : ℕ) → at t.attachments s ≡ Some j → (b : Bool) → is_spent (at t.contexts j) ≡ b → refer_at t j ≡ Err RefsSpent → ⊥
    by_spent j found false h e = let f : ◌≡◌ {A = Result (ℕ × Contexts) ContextFault} (Ok (j, refer t j)) (Err RefsSpent) = sym (ap (λ b. cond b (Err RefsSpent) (Ok (j, refer t j))) h) ∙ e in absurd (cc)
    by_spent j found true h e =
        let c = context-of t w s j found in
        let known_s : at (known_of t) s ≡ Some (known j c.0) = at-known t w s ∙ (ap (option_and_then (known_at t.contexts)) found ∙ ap (option_map (known j)) c.1) in
        let few' : c.0.references - c.0.attached < 9223372036854775808 = subst (λ o. held_of o < 9223372036854775808) known_s few in
        let most : c.0.references ≡ 18446744073709551615 = eqb-true c.0.references 18446744073709551615 (sym (ap is_spent c.1) ∙ h) in
        let one : c.0.attached ≡ 1 = c.2 in
        omega arith

    by_case : (o : Option ℕ) → at t.attachments s ≡ o → ⊥
    by_case None none = let f : ◌≡◌ {A = Result (ℕ × Contexts) ContextFault} (Err NotFound) (Err RefsSpent) = sym (ap (get_at t) none) ∙ is in absurd (cc)
    by_case (Some j) found = by_spent j found (is_spent (at t.contexts j)) refl (sym (ap (get_at t) found) ∙ is)

pub record GivesBack (t t' : Contexts) (s : ℕ) (state : ContextState) : Type 0 where
  pub puts : PutsAt (known_of t) (known_of t') s (option_map (given_back state) (at (known_of t) s))
  pub once : IsSound t' → AreAttached t'

pub is-held : (t : Contexts) (s k : ℕ) → AreAttached t → IsSomeAnd (at (known_of t) s) (λ m. (m.key ≡ k) × (1 ≤ m.held)) → IsHeld t k
is-held t s k w holds_k = by_case (at (known_of t) s) refl holds_k
  where
    by_case : (o : Option Known) → at (known_of t) s ≡ o → IsSomeAnd o (λ m. (m.key ≡ k) × (1 ≤ m.held)) → IsHeld t k
    by_case None none h = absurd h
    by_case (Some m) found h =
        let parts = known-parts t w s m found in
        let held : m.held ≡ parts.context.references - parts.context.attached = ap (λ x. x.held) parts.is in
        let some : 1 ≤ m.held = h.1 in
        let less : parts.context.attached < parts.context.references = omega arith in
        subst (λ o. IsSomeAnd o (λ x. x.attached < x.references)) (sym (ap (at t.contexts) (sym h.0) ∙ parts.found)) less

pub held-in_state : (t : Contexts) (k : ℕ) (state : ContextState) → IsAscending t.contexts → IsHeld t k → IsHeld (set_state t k state) k
held-in_state t k state up held = by_case (at t.contexts k) refl held
  where
    by_case : (o : Option Context) → at t.contexts k ≡ o → IsSomeAnd o (λ x. x.attached < x.references) → IsHeld (set_state t k state) k
    by_case None none h = absurd h
    by_case (Some c) found h =
        subst (λ o. IsSomeAnd o (λ x. x.attached < x.references)) (sym (at-change (λ x. Some (with_state state x)) t.contexts k up ∙ ap (option_and_then (λ x. Some (with_state state x))) found)) h

pub gives_back : (t t' : Contexts) (s k : ℕ) (state : ContextState) → AreAttached t → IsSomeAnd (at (known_of t) s) (λ m. (m.key ≡ k) × (1 ≤ m.held)) → t' ≡ release (set_state t k state) k → GivesBack t t' s state
gives_back t t' s k state w holds_k is = by_case (at (known_of t) s) refl holds_k
  where
    by_case : (o : Option Known) → at (known_of t) s ≡ o → IsSomeAnd o (λ m. (m.key ≡ k) × (1 ≤ m.held)) → GivesBack t t' s state
    by_case None none h = absurd h
    by_case (Some m) found h =
        let parts = known-parts t w s m found in
        let c = parts.context in
        let held : m.held ≡ c.references - c.attached = ap (λ x. x.held) parts.is in
        let some : 1 ≤ m.held = h.1 in
        let one : c.attached ≡ 1 = parts.one in
        let key : m.key ≡ k = h.0 in
        let here : at t.contexts k ≡ Some c = ap (at t.contexts) (sym key) ∙ parts.found in
        let more : (c.references == 1) ≡ false = apart-test c.references 1 (λ e. let e' : c.references ≡ 1 = e in absurd (omega arith)) in
        let left : Context = record { state = state; references = c.references - 1; attached = c.attached } in
        let step : let_go state c ≡ Some left = ap (λ b. cond b None (Some left)) more in
        let t_is : t' ≡ record t { contexts = change (let_go state) t.contexts k } =
        is ∙ (λ i. record { contexts = change-twice (λ x. Some (with_state state x)) released t.contexts k c (with_state state c) w.sound.contexts_ascend here refl i; attachments = t.attachments }) in
        let less : m.held - 1 ≡ c.references - 1 - c.attached = omega arith in
        record {
          puts = subst (λ o. PutsAt (known_of t) (known_of t') s (option_map (given_back state) o)) (sym found)
              (changed-known t w (let_go state) s k c left (given_back state m) t' (parts.attachment ∙ ap Some key) here step (λ i. record { key = key i; state = state; held = less i }) t_is);
          once = changed-once t w (let_go state) k c left t' here step one t_is;
        }

-- a context that is made and attached
pub record Made (t t1 : Contexts) (s k : ℕ) (state : ContextState) : Type 0 where
  pub here : at t1.contexts k ≡ Some (fresh state)
  pub held : IsHeld t1 k
  pub keeps : set_keep t1 s k ≡ Ok (Attached, attach t1 s k)
  pub puts : PutsAt (known_of t) (known_of (attach t1 s k)) s (Some (record { key = k; state = state; held = 1 }))
  pub once : IsSound (attach t1 s k) → AreAttached (attach t1 s k)
  pub back : release t1 k ≡ t

pub made : (t t1 : Contexts) (s k : ℕ) (state : ContextState) → AreAttached t → at t.attachments s ≡ None → at t.contexts k ≡ None → t1 ≡ record t { contexts = with t.contexts k (fresh state) } → Made t t1 s k state
made t t1 s k state w none free is = subst (λ u. Made t u s k state) (sym is) first
  where
    first : Made t (record t { contexts = with t.contexts k (fresh state) }) s k state
    first =
        let here : at (with t.contexts k (fresh state)) k ≡ Some (fresh state) = at-with t.contexts k (fresh state) in
        let up = with-ascends t.contexts k (fresh state) w.sound.contexts_ascend in
        let at_k : at (change (λ c. Some (attached c)) (with t.contexts k (fresh state)) k) k ≡ Some (attached (fresh state)) =
        at-change (λ c. Some (attached c)) (with t.contexts k (fresh state)) k up ∙ ap (option_and_then (λ c. Some (attached c))) here in
        let other : (j : ℕ) → j ≢ k → at (change (λ c. Some (attached c)) (with t.contexts k (fresh state)) k) j ≡ at t.contexts j =
        λ j apart. at-change_other (λ c. Some (attached c)) (with t.contexts k (fresh state)) k j apart ∙ at-with_other t.contexts k j (fresh state) apart in
        record {
          here = here;
          held = subst (λ o. IsSomeAnd o (λ x. x.attached < x.references)) (sym here) (omega arith);
          keeps = ap (keep_at (record t { contexts = with t.contexts k (fresh state) }) s k) none ∙ ap (λ b. cond b (Err RefsSpent) (Ok (Attached, attach (record t { contexts = with t.contexts k (fresh state) }) s k))) (ap is_spent here);
          puts = known-puts t w (attach (record t { contexts = with t.contexts k (fresh state) }) s k) s k (Some (record { key = k; state = state; held = 1 })) (with-ascends t.attachments s k w.sound.attachments_ascend)
              (ap (option_and_then (known_at (change (λ c. Some (attached c)) (with t.contexts k (fresh state)) k))) (at-with t.attachments s k) ∙ ap (option_map (known k)) at_k)
              other
              (λ j apart. at-with_other t.attachments s j k apart)
              (λ j apart. none-attached t w j k free);
          once = λ sound. record {
            sound = sound;
            once = λ j. if_some (λ x. x.attached ≡ 1) (at (change (λ c. Some (attached c)) (with t.contexts k (fresh state)) k) j) (λ x at_j. elim (cases_eq j k) [
              | inl same ↦ ap (λ y. y.attached) (sym (some_same (attached (fresh state)) x (sym at_k ∙ (ap (at (change (λ c. Some (attached c)) (with t.contexts k (fresh state)) k)) (sym same) ∙ at_j))))
              | inr apart ↦ if_some_at (λ y. y.attached ≡ 1) (at t.contexts j) x (w.once j) (sym (other j apart) ∙ at_j)
            ]);
          };
          back = λ i. record {
            contexts = same_map (change released (with t.contexts k (fresh state)) k) t.contexts (change-ascends released (with t.contexts k (fresh state)) k up) w.sound.contexts_ascend (λ j. elim (cases_eq j k) [
              | inl same ↦ ap (at (change released (with t.contexts k (fresh state)) k)) same ∙ (at-change released (with t.contexts k (fresh state)) k up ∙ (ap (option_and_then released) here ∙ (sym free ∙ ap (at t.contexts) (sym same))))
              | inr apart ↦ at-change_other released (with t.contexts k (fresh state)) k j apart ∙ at-with_other t.contexts k j (fresh state) apart
            ]) i;
            attachments = t.attachments;
          };
        }

-- what a refused call leaves, and what an accepted one gives
pub refused-same : {A F : Type 0} (old new : Contexts) (e : Refusal F) (wanted : Result (A × Contexts) F) → Answers old new (Err e) wanted → new ≡ old
refused-same old new (Fault f) wanted answers = answers.1
refused-same old new NoMemory wanted answers = answers.1

ok_same : {A F : Type 0} (a b : A) → ◌≡◌ {A = Result A F} (Ok a) (Ok b) → a ≡ b
ok_same a b e = cc

pub same-kept : {A F : Type 0} (a b : A) (t u : Contexts) (o : Result (A × Contexts) F) → o ≡ Ok (a, t) → o ≡ Ok (b, u) → t ≡ u
same-kept {A} {F} a b t u o first second =
    let both : ◌≡◌ {A = Result (A × Contexts) F} (Ok (a, t)) (Ok (b, u)) = sym first ∙ second in
    ap (λ p. p.1) (ok_same (a, t) (b, u) both)

pub none-known : (t : Contexts) (s : ℕ) → AreAttached t → at t.attachments s ≡ None → at (known_of t) s ≡ None
none-known t s w none = at-known t w s ∙ ap (option_and_then (known_at t.contexts)) none

-- a stream that has a context gets a reference to it
pub is-given : (t : Contexts) (s : ℕ) (fault : ContextFault) → AreAttached t → IsSome (at (known_of t) s) → held_of (at (known_of t) s) < 9223372036854775808 → get t s ≡ Err fault → ⊥
is-given t s NotFound w there few is = not_there (at (known_of t) s) (none-known t s w (not-found t s is)) there
is-given t s RefsSpent w there few is = never-spent t s w few is

pub if_ok_any : {A E : Type 0} (P : A → Type 0) (r : Result A E) → ((x : A) → P x) → IfOk r P
if_ok_any P (Ok x) all = all x
if_ok_any P (Err e) all = tt

-- a context whose last references go
pub record Forgets (t t' : Contexts) (s : ℕ) : Type 0 where
  pub puts : PutsAt (known_of t) (known_of t') s None
  pub once : IsSound t' → AreAttached t'

pub held-one : (t : Contexts) (s k : ℕ) → AreAttached t → IsSomeAnd (at (known_of t) s) (λ m. (m.key ≡ k) × (m.held ≡ 1)) → IsSomeAnd (at (known_of t) s) (λ m. (m.key ≡ k) × (1 ≤ m.held))
held-one t s k w holds_k = by_case (at (known_of t) s) holds_k
  where
    by_case : (o : Option Known) → IsSomeAnd o (λ m. (m.key ≡ k) × (m.held ≡ 1)) → IsSomeAnd o (λ m. (m.key ≡ k) × (1 ≤ m.held))
    by_case None h = h
    by_case (Some m) h = (h.0, let one : m.held ≡ 1 = h.1 in omega arith)

-- the stream still has its context
pub still-attached : (t t1 : Contexts) (s k : ℕ) → AreAttached t → IsSomeAnd (at (known_of t) s) (λ m. (m.key ≡ k) × (m.held ≡ 1)) → t1 ≡ release t k → delete t1 s ≡ Ok (record { contexts = change detached (change released t.contexts k) k; attachments = without t.attachments s })
still-attached t t1 s k w holds_k is = by_case (at (known_of t) s) refl holds_k
  where
    by_case : (o : Option Known) → at (known_of t) s ≡ o → IsSomeAnd o (λ m. (m.key ≡ k) × (m.held ≡ 1)) → delete t1 s ≡ Ok (record { contexts = change detached (change released t.contexts k) k; attachments = without t.attachments s })
    by_case None none h = absurd h
    by_case (Some m) found h =
        let parts = known-parts t w s m found in
        ap (λ u. delete u s) is ∙ ap (delete_at (release t k) s) (parts.attachment ∙ ap Some h.0)

pub forgets : (t t' : Contexts) (s k : ℕ) → AreAttached t → IsSomeAnd (at (known_of t) s) (λ m. (m.key ≡ k) × (m.held ≡ 1)) → t' ≡ record { contexts = change detached (change released t.contexts k) k; attachments = without t.attachments s } → Forgets t t' s
forgets t t' s k w holds_k is = by_case (at (known_of t) s) refl holds_k
  where
    by_case : (o : Option Known) → at (known_of t) s ≡ o → IsSomeAnd o (λ m. (m.key ≡ k) × (m.held ≡ 1)) → Forgets t t' s
    by_case None none h = absurd h
    by_case (Some m) found h =
        let parts = known-parts t w s m found in
        let c = parts.context in
        let held : m.held ≡ c.references - c.attached = ap (λ x. x.held) parts.is in
        let only : m.held ≡ 1 = h.1 in
        let one : c.attached ≡ 1 = parts.one in
        let two : c.references ≡ 2 = let counted = parts.counted in omega arith in
        let here : at t.contexts k ≡ Some c = ap (at t.contexts) (sym h.0) ∙ parts.found in
        let left : Context = record { state = c.state; references = c.references - 1; attached = c.attached } in
        let more : (c.references == 1) ≡ false = ap (λ n. n == 1) two in
        let last : (c.references - 1 == 1) ≡ true = ap (λ n. n - 1 == 1) two in
        let up : IsAscending (change released t.contexts k) = change-ascends released t.contexts k w.sound.contexts_ascend in
        let at_k : at (change detached (change released t.contexts k) k) k ≡ None =
        at-change detached (change released t.contexts k) k up
        ∙ (ap (option_and_then detached) (at-change released t.contexts k w.sound.contexts_ascend ∙ (ap (option_and_then released) here ∙ ap (λ b. cond b None (Some left)) more))
        ∙ ap (λ b. cond b None (Some (record { state = c.state; references = c.references - 1 - 1; attached = c.attached - 1 }))) last) in
        let other : (j : ℕ) → j ≢ k → at (change detached (change released t.contexts k) k) j ≡ at t.contexts j =
        λ j apart. at-change_other detached (change released t.contexts k) k j apart ∙ at-change_other released t.contexts k j apart in
        let attachment : at t.attachments s ≡ Some k = parts.attachment ∙ ap Some h.0 in
        let after : Contexts = record { contexts = change detached (change released t.contexts k) k; attachments = without t.attachments s } in
        record {
          puts = subst (λ u. PutsAt (known_of t) (known_of u) s None) (sym is)
              (known-puts t w after s k None (without-ascends t.attachments s w.sound.attachments_ascend)
              (ap (option_and_then (known_at after.contexts)) (at-without t.attachments s w.sound.attachments_ascend))
              other
              (λ j apart. at-without_other t.attachments s j apart)
              (λ j apart at_j. apart (streams-apart t w j s k at_j attachment)));
          once = λ sound. record {
            sound = sound;
            once = λ j. if_some (λ x. x.attached ≡ 1) (at t'.contexts j) (λ x at_j.
                let at_j' : at after.contexts j ≡ Some x = sym (ap (λ u. at u.contexts j) is) ∙ at_j in
                elim (cases_eq j k) [
                  | inl same ↦ none_some (sym at_k ∙ (ap (at after.contexts) (sym same) ∙ at_j'))
                  | inr apart ↦ if_some_at (λ y. y.attached ≡ 1) (at t.contexts j) x (w.once j) (sym (other j apart) ∙ at_j')
                ]);
          };
        }

pub ok_is : {A F : Type 0} (a b : A) → ◌≡◌ {A = Result A F} (Ok a) (Ok b) → a ≡ b
ok_is a b e = cc

pub err_not_ok : {A F P : Type 0} (a : A) (f : F) → ◌≡◌ {A = Result A F} (Ok a) (Err f) → P
err_not_ok a f e = absurd (cc)

-- a reference comes back, and the state stays
pub record Loosens (t t' : Contexts) (s : ℕ) : Type 0 where
  pub puts : PutsAt (known_of t) (known_of t') s (option_map let_loose (at (known_of t) s))
  pub once : IsSound t' → AreAttached t'

pub loosens : (t t' : Contexts) (s k : ℕ) → AreAttached t → IsSomeAnd (at (known_of t) s) (λ m. (m.key ≡ k) × (1 ≤ m.held)) → t' ≡ release t k → Loosens t t' s
loosens t t' s k w holds_k is = by_case (at (known_of t) s) refl holds_k
  where
    by_case : (o : Option Known) → at (known_of t) s ≡ o → IsSomeAnd o (λ m. (m.key ≡ k) × (1 ≤ m.held)) → Loosens t t' s
    by_case None none h = absurd h
    by_case (Some m) found h =
        let parts = known-parts t w s m found in
        let c = parts.context in
        let held : m.held ≡ c.references - c.attached = ap (λ x. x.held) parts.is in
        let some : 1 ≤ m.held = h.1 in
        let one : c.attached ≡ 1 = parts.one in
        let key : m.key ≡ k = h.0 in
        let here : at t.contexts k ≡ Some c = ap (at t.contexts) (sym key) ∙ parts.found in
        let more : (c.references == 1) ≡ false = apart-test c.references 1 (λ e. let e' : c.references ≡ 1 = e in absurd (omega arith)) in
        let left : Context = record { state = c.state; references = c.references - 1; attached = c.attached } in
        let step : released c ≡ Some left = ap (λ b. cond b None (Some left)) more in
        let less : m.held - 1 ≡ c.references - 1 - c.attached = omega arith in
        let state : m.state ≡ c.state = ap (λ x. x.state) parts.is in
        record {
          puts = subst (λ o. PutsAt (known_of t) (known_of t') s (option_map let_loose o)) (sym found)
              (changed-known t w released s k c left (let_loose m) t' (parts.attachment ∙ ap Some key) here step (λ i. record { key = key i; state = state i; held = less i }) is);
          once = changed-once t w released k c left t' here step one is;
        }

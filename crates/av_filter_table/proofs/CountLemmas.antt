-- A table in which each context is attached once has as many contexts as attachments.
use Rattle.std.proofs.Common.{◌≡◌, ◌≢◌, ℕ, ◌+◌, ◌==◌, length, List, [], ◌∷◌, is_some, Option, Some, None, cond, refl, sym, ap, subst, ◌∙◌, inl, inr, arith}
use Rattle.std.specs.Map.{values_of}
use Rattle.std.specs.Option.{option_map}
use Rattle.std.proofs.lemmas.Bool.{cases_eq}
use Rattle.std.proofs.lemmas.Bool.Decides.{nat_tests}
use Rattle.std.proofs.lemmas.List.Sums.{sum_by-cons}
use Rattle.av_context.specs.declared.context.Context.{Context}
use Rattle.av_context.specs.Contexts.{Contexts, at, without, attachments_to, CountsAgree}
use Rattle.av_filter_table.proofs.RoomLemmas.{length-without}
use Rattle.av_numbered.specs.Numbered.{IsAscending}
use Rattle.av_filter_table.specs.StreamContexts.{known, known_at, known_of, AreAttached}
use Rattle.av_filter_table.proofs.ContextLemmas.{context-of}
use Rattle.av_numbered.proofs.MapLemmas.{if_some_at, is_there, at-same, at-without, at-without_other, without-ascends}
use Rattle.av_numbered.proofs.BoundedLemmas.{length-joined}

abbrev is_key : ℕ → ℕ → ℕ
is_key k key = cond (key == k) 1 0

pub count-cons : (e : ℕ × ℕ) (a : List (ℕ × ℕ)) (k : ℕ) → is_key k e.1 + attachments_to a k ≡ attachments_to (e ∷ a) k
count-cons e a k = sym (sum_by-cons (is_key k) e.1 (values_of a))

zero-one : {P : Type 0} (n : ℕ) → n ≡ 0 → n ≡ 1 → P
zero-one n zero one = absurd (omega arith)

-- each context is counted once
abbrev AreCountedOnce : {X : Type 0} → List (ℕ × X) → List (ℕ × ℕ) → Type 0
AreCountedOnce m a = (k : ℕ) → attachments_to a k ≡ cond (is_some (at m k)) 1 0

as-many : {X : Type 0} (m : List (ℕ × X)) (a : List (ℕ × ℕ)) → IsAscending m → AreCountedOnce m a → length m ≡ length a
as-many [] [] up once = refl
as-many (d ∷ m) [] up once =
    zero-one (attachments_to [] d.0) refl (once d.0 ∙ ap (λ o. cond (is_some o) 1 0) (at-same m d.0 d.1))
as-many {X} m (e ∷ a) up once = by_case (λ n. as-many n a) (at m e.1) refl
  where
    here : is_key e.1 e.1 ≡ 1
    here = grind (arith, nat_tests)

    by_case : ((n : List (ℕ × X)) → IsAscending n → AreCountedOnce n a → length n ≡ length a) → (o : Option X) → at m e.1 ≡ o → length m ≡ length (e ∷ a)
    by_case rest None none =
        let zero : is_key e.1 e.1 + attachments_to a e.1 ≡ 0 = count-cons e a e.1 ∙ (once e.1 ∙ ap (λ o. cond (is_some o) 1 0) none) in
        let h = here in
        absurd (omega arith)
    by_case rest (Some x) some =
        let count : is_key e.1 e.1 + attachments_to a e.1 ≡ 1 = count-cons e a e.1 ∙ (once e.1 ∙ ap (λ o. cond (is_some o) 1 0) some) in
        let h = here in
        let fewer : length (without m e.1) ≡ length a = rest (without m e.1) (without-ascends m e.1 up) (λ k. elim (cases_eq k e.1) [
          | inl same ↦
              let zero : attachments_to a e.1 ≡ 0 = omega arith in
              ap (attachments_to a) same ∙ (zero ∙ sym (ap (λ j. cond (is_some (at (without m e.1) j)) 1 0) same ∙ ap (λ o. cond (is_some o) 1 0) (at-without m e.1 up)))
          | inr apart ↦
              let other : is_key k e.1 ≡ 0 = not-key e.1 k (λ s. apart (sym s)) in
              let all : is_key k e.1 + attachments_to a k ≡ cond (is_some (at m k)) 1 0 = count-cons e a k ∙ once k in
              let left : attachments_to a k ≡ cond (is_some (at m k)) 1 0 = omega arith in
              left ∙ sym (ap (λ o. cond (is_some o) 1 0) (at-without_other m e.1 k apart))
        ]) in
        let more = length-without m e.1 x some in
        omega arith
      where
        not-key : (key k : ℕ) → key ≢ k → is_key k key ≡ 0
        not-key key k apart = grind (arith, nat_tests)

counted-once : (t : Contexts) → AreAttached t → AreCountedOnce t.contexts t.attachments
counted-once t w k = by_case (at t.contexts k) refl
  where
    by_case : (o : Option Context) → at t.contexts k ≡ o → attachments_to t.attachments k ≡ cond (is_some (at t.contexts k)) 1 0
    by_case None none = subst (λ o. CountsAgree o (attachments_to t.attachments k)) none (w.sound.counted k) ∙ sym (ap (λ o. cond (is_some o) 1 0) none)
    by_case (Some c) some =
        let agrees = subst (λ o. CountsAgree o (attachments_to t.attachments k)) some (w.sound.counted k) in
        sym agrees.0 ∙ (if_some_at (λ x. x.attached ≡ 1) (at t.contexts k) c (w.once k) some ∙ sym (ap (λ o. cond (is_some o) 1 0) some))

-- how many streams have a context
pub length-known : (t : Contexts) → AreAttached t → length t.contexts ≡ length (known_of t)
length-known t w =
    as-many t.contexts t.attachments w.sound.contexts_ascend (counted-once t w)
    ∙ sym (length-joined (known_at t.contexts) t.attachments w.sound.attachments_ascend (λ n k found. let c = context-of t w n k found in is_there (known_at t.contexts k) (known k c.0) (ap (option_map (known k)) c.1)))

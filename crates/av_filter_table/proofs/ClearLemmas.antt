-- Where no reference is out and every attachment ends, no context is left.
use Rattle.std.proofs.Common.{◌≡◌, ℕ, ◌+◌, ◌-◌, ◌≤◌, ◌==◌, Bool, true, false, length, List, [], ◌∷◌, Option, Some, None, cond, refl, sym, ap, subst, ◌∙◌, arith}
use Rattle.std.specs.Option.{option_and_then, option_map}
use Rattle.std.proofs.lemmas.Bool.{eq-eqb, eqb-true}
use Rattle.av_context.specs.declared.context.Context.{Context}
use Rattle.av_context.specs.Context.{loosened}
use Rattle.av_context.specs.Contexts.{Contexts, at, attachments_to, CountsAgree}
use Rattle.av_numbered.specs.Numbered.{IsAscending}
use Rattle.av_filter_table.specs.StreamContexts.{known, known_at, known_of, AreAttached, held_of}
use Rattle.av_filter_table.proofs.ContextLemmas.{at-known}
use Rattle.av_filter_table.proofs.CountLemmas.{count-cons}
use Rattle.av_numbered.proofs.MapLemmas.{if_some_at, none_some, at-same, tail-ascends}
use Rattle.av_filter_table.proofs.WalkLemmas.{at-later}

-- what is attached somewhere is attached to a stream
attached-by : (a : List (ℕ × ℕ)) (k : ℕ) → IsAscending a → 1 ≤ attachments_to a k → (s : ℕ) × (at a s ≡ Some k)
attached-by [] k up some = let none : attachments_to [] k ≡ 0 = refl in absurd (omega arith)
attached-by (d ∷ a) k up some = go (d.1 == k) refl (attached-by a k (tail-ascends d a up))
  where
    go : (b : Bool) → (d.1 == k) ≡ b → (1 ≤ attachments_to a k → (s : ℕ) × (at a s ≡ Some k)) → (s : ℕ) × (at (d ∷ a) s ≡ Some k)
    go true h rest = (d.0, at-same a d.0 d.1 ∙ ap Some (eqb-true d.1 k h))
    go false h rest =
        let other : attachments_to (d ∷ a) k ≡ 0 + attachments_to a k = sym (count-cons d a k) ∙ ap (λ b. cond b 1 0 + attachments_to a k) h in
        let tail = rest (omega arith) in
        (tail.0, at-later d a tail.0 k up tail.1)

module _ (t : Contexts) (w : AreAttached t) (free : (s : ℕ) → held_of (at (known_of t) s) ≡ 0) where
  all-loose : (k : ℕ) → option_and_then loosened (at t.contexts k) ≡ None
  all-loose k = by_case (at t.contexts k) refl
    where
      by_case : (o : Option Context) → at t.contexts k ≡ o → option_and_then loosened o ≡ None
      by_case None none = refl
      by_case (Some c) some =
          let agrees = subst (λ o. CountsAgree o (attachments_to t.attachments k)) some (w.sound.counted k) in
          let count : c.attached ≡ attachments_to t.attachments k = agrees.0 in
          let one : c.attached ≡ 1 = if_some_at (λ x. x.attached ≡ 1) (at t.contexts k) c (w.once k) some in
          let by = attached-by t.attachments k w.sound.attachments_ascend (omega arith) in
          let here = at-known t w by.0 ∙ (ap (option_and_then (known_at t.contexts)) by.1 ∙ ap (option_map (known k)) some) in
          let none_out : c.references - c.attached ≡ 0 = sym (ap held_of here) ∙ free by.0 in
          let counted : c.attached ≤ c.references = agrees.1 in
          let same : c.references ≡ c.attached = omega arith in
          ap (λ b. cond b None (Some (record { state = c.state; references = c.references - c.attached; attached = 0 }))) (eq-eqb c.references c.attached same)

  pub none-left : (left : List (ℕ × Context)) → ((k : ℕ) → at left k ≡ option_and_then loosened (at t.contexts k)) → length left ≡ 0
  none-left [] each = refl
  none-left (d ∷ left) each = none_some (sym (each d.0 ∙ all-loose d.0) ∙ at-same left d.0 d.1)

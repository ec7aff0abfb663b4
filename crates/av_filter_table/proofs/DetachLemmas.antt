-- How what is known of streams follows where a stream's context goes that no reference is out to.
use Rattle.std.proofs.Common.{◌≡◌, ℕ, ◌-◌, ◌≤◌, ◌==◌, true, Option, Some, None, cond, Result, Ok, Err, refl, sym, ap, subst, ◌∙◌, inl, inr, arith}
use Rattle.std.specs.Option.{option_and_then, option_map}
use Rattle.std.proofs.lemmas.Bool.{cases_eq}
use Rattle.av_base.specs.Answers.{StepsAtOnce}
use Rattle.av_context.specs.declared.context.Context.{Context}
use Rattle.av_context.specs.declared.context_fault.ContextFault.{ContextFault}
use Rattle.av_context.specs.Context.{detached}
use Rattle.av_context.specs.Contexts.{Contexts, at, without, change, PutsAt}
use Rattle.av_context.specs.Calls.{delete, delete_at}
use Rattle.av_filter_table.specs.StreamContexts.{known, known_at, known_of, AreAttached, held_of}
use Rattle.av_filter_table.proofs.ContextLemmas.{at-change, at-change_other, at-known, context-of, known-ascends, known-puts, none-known, streams-apart, Forgets, ok_is, err_not_ok}
use Rattle.av_numbered.proofs.MapLemmas.{if_some, if_some_at, none_some, puts_at, at-without, at-without_other, without-ascends}

abbrev without_stream : Contexts → ℕ → ℕ → Contexts
without_stream t s k = record { contexts = change detached t.contexts k; attachments = without t.attachments s }

stays : (t t' : Contexts) (s : ℕ) (r : Result (Unit {0}) ContextFault) → StepsAtOnce t t' r (delete_at t s None) → t' ≡ t
stays t t' s (Ok done) steps = err_not_ok _ _ (sym steps)
stays t t' s (Err f) steps = steps.1

goes : (t t' : Contexts) (s k : ℕ) (r : Result (Unit {0}) ContextFault) → StepsAtOnce t t' r (delete_at t s (Some k)) → t' ≡ without_stream t s k
goes t t' s k (Ok done) steps = sym (ok_is {F = ContextFault} (without_stream t s k) t' steps)
goes t t' s k (Err f) steps = err_not_ok _ _ steps.0

pub detaches : (t t' : Contexts) (s : ℕ) (r : Result (Unit {0}) ContextFault) → AreAttached t → held_of (at (known_of t) s) ≡ 0 → StepsAtOnce t t' r (delete t s) → Forgets t t' s
detaches t t' s r w zero steps = by_case (at t.attachments s) refl
  where
    by_case : (o : Option ℕ) → at t.attachments s ≡ o → Forgets t t' s
    by_case None none =
        let is : t' ≡ t = stays t t' s r (subst (λ o. StepsAtOnce t t' r (delete_at t s o)) none steps) in
        let up = known-ascends t w in
        record {
          puts = subst (λ u. PutsAt (known_of t) (known_of u) s None) (sym is) (puts_at (known_of t) (known_of t) s None up up (none-known t s w none) (λ j apart. refl));
          once = λ sound. subst AreAttached (sym is) w;
        }
    by_case (Some k) found =
        let is : t' ≡ without_stream t s k = goes t t' s k r (subst (λ o. StepsAtOnce t t' r (delete_at t s o)) found steps) in
        let c = context-of t w s k found in
        let known_s : at (known_of t) s ≡ Some (known k c.0) = at-known t w s ∙ (ap (option_and_then (known_at t.contexts)) found ∙ ap (option_map (known k)) c.1) in
        let none_out : c.0.references - c.0.attached ≡ 0 = sym (ap held_of known_s) ∙ zero in
        let one : c.0.attached ≡ 1 = c.2 in
        let counted : c.0.attached ≤ c.0.references = c.3 in
        let only : c.0.references ≡ 1 = omega arith in
        let last : (c.0.references == 1) ≡ true = ap (λ n. n == 1) only in
        let less : Context = record { state = c.0.state; references = c.0.references - 1; attached = c.0.attached - 1 } in
        let at_k : at (change detached t.contexts k) k ≡ None =
        at-change detached t.contexts k w.sound.contexts_ascend ∙ (ap (option_and_then detached) c.1 ∙ ap (λ b. cond b None (Some less)) last) in
        let after : Contexts = without_stream t s k in
        record {
          puts = subst (λ u. PutsAt (known_of t) (known_of u) s None) (sym is)
              (known-puts t w after s k None (without-ascends t.attachments s w.sound.attachments_ascend)
              (ap (option_and_then (known_at after.contexts)) (at-without t.attachments s w.sound.attachments_ascend))
              (λ j apart. at-change_other detached t.contexts k j apart)
              (λ j apart. at-without_other t.attachments s j apart)
              (λ j apart at_j. apart (streams-apart t w j s k at_j found)));
          once = λ sound. record {
            sound = sound;
            once = λ j. if_some (λ x. x.attached ≡ 1) (at t'.contexts j) (λ x at_j.
                let at_j' : at after.contexts j ≡ Some x = sym (ap (λ u. at u.contexts j) is) ∙ at_j in
                elim (cases_eq j k) [
                  | inl same ↦ none_some (sym at_k ∙ (ap (at after.contexts) (sym same) ∙ at_j'))
                  | inr apart ↦ if_some_at (λ y. y.attached ≡ 1) (at t.contexts j) x (w.once j) (sym (at-change_other detached t.contexts k j apart) ∙ at_j')
                ]);
          };
        }

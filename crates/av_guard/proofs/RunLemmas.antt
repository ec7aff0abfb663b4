-- Each call of a guard, as events of its filter.
use Rattle.std.proofs.Common.{◌≡◌, ℕ, ◌+◌, true, false, cond, List, [], ◌∷◌, ◌++◌, Some, None, Result, Ok, Err, refl, arith, ap, ◌∙◌, sym, subst}
use Rattle.std.proofs.lemmas.Bool.Decides.{nat_tests}
use Rattle.std.specs.BTreeMap.{is_at}
use Rattle.std.specs.List.{AllByRecursion as Each}
use Rattle.std.specs.Option.{option_map}
use Rattle.std.specs.Ordering.{is_eq, nat_cmp}
use Rattle.std.specs.Prelude.{IsOk}
use Rattle.std.specs.Result.{result_err}
use Rattle.av_context.specs.Contexts.{at, without as without_at}
use Rattle.av_context.specs.declared.context_state.ContextState.{ContextState}
use Rattle.av_filter.proofs.BoundLemmas.{leads_to}
use Rattle.av_filter.specs.Changing.{changed_volume, changes, removed}
use Rattle.av_filter.specs.Conduct.{Changes, filter_refusal, filter_step}
use Rattle.av_filter.specs.Fit.{Fits, IsThere as IsThereAt}
use Rattle.av_filter.specs.Reaction.{Reaction, only}
use Rattle.av_filter.specs.declared.fault.FilterFault.TheVariants as filter_fault
use Rattle.av_filter.specs.declared.note.Note.TheVariants.{Quiet}
use Rattle.av_filter_table.specs.Table.{Table, question_of}
use Rattle.av_guard.proofs.CountLemmas.{without_none}
use Rattle.av_filter.proofs.StoringLemmas.{at_last, created_as, created_is, no_question, removable, undone}
use Rattle.av_filter.specs.Storing.{created, stored, stream_with}
use Rattle.av_store.specs.Content.{new_stream}
use Rattle.av_store.specs.Files.{Change, Create, Remove, Write}
use Rattle.av_store.specs.Rows.{Streams, stream_at}
use Rattle.av_store.specs.Seen.{change_of, kept_or}
use Rattle.av_store.specs.Store.{Store, create_of, remove_of, write_of}
use Rattle.av_store.specs.declared.fault.StoreFault.{StoreFault}
use Rattle.av_store.specs.declared.stream.Stream.{Stream}

-- a stream can be created
pub record Made (v : Store) (name : List ℕ) : Type 0 where
  pub id : ℕ
  pub volume : Store
  pub ok : create_of v name ≡ Ok (id, volume)

pub made_of : (v : Store) (name : List ℕ) → result_err (create_of v name) ≡ None → Made v name
made_of v name none = go (create_of v name) refl none
  where
    go : (r : Result (ℕ × Store) StoreFault) → create_of v name ≡ r → result_err r ≡ None → Made v name
    go (Ok p) e n = record { id = p.0; volume = p.1; ok = e }
    go (Err f) e n = absurd cc

-- the content is there, so the write was not refused
pub write_taken : (t : Table) (v : Store) (name c : List ℕ) (m : Made v name) → stream_at (v.last + 1) v.streams ≡ None → (stored t v name c).volume.streams ≡ v.streams ++ (v.last + 1, stream_with name c) ∷ []
    → filter_refusal (created t v name).table (created t v name).volume (Changes (Write (v.last + 1) 0 c)) ≡ None
unfolding filter_refusal change_of
write_taken t v name c m away there =
    let s = v.last + 1 in
    let w = m.volume in
    let ch : Change = Write s 0 c in
    let first : filter_step t v (Changes (Create name)) ≡ only t w Quiet = created_is t v w name m.id m.ok in
    let left : (kept_or w (write_of w s 0 c)).streams ≡ v.streams ++ (s, stream_with name c) ∷ [] =
    sym (ap (λ (u : Store). u.streams) (leads_to t w (Changes ch))) ∙ sym (ap (λ (r : Reaction). (filter_step r.table r.volume (Changes ch)).volume.streams) first) ∙ there in
    subst (λ (r : Reaction). filter_refusal r.table r.volume (Changes ch) ≡ None) (sym first) (go w (created_as v w name m.id m.ok).whole (write_of w s 0 c) left)
  where
    go : (w : Store) → w ≡ record v { streams = v.streams ++ (v.last + 1, new_stream name) ∷ []; last = v.last + 1 } → (r : Result Store StoreFault) → (kept_or w r).streams ≡ v.streams ++ (v.last + 1, stream_with name c) ∷ [] → option_map filter_fault.Store (result_err r) ≡ None
    go w is (Ok u) e = refl
    go w is (Err f) e =
        let two : Some (new_stream name) ≡ Some (stream_with name c) =
        sym (at_last v.streams (v.last + 1) (new_stream name) away) ∙ sym (ap (λ (u : Store). stream_at (v.last + 1) u.streams) is) ∙ ap (λ ss. stream_at (v.last + 1) ss) e ∙ at_last v.streams (v.last + 1) (stream_with name c) away in
        let same : new_stream name ≡ stream_with name c = cc in
        let wrong : ◌≡◌ {A = ℕ} 1 2 = ap (λ (x : Stream). x.generation) same in
        absurd cc

same_key : (k n : ℕ) → is_eq (nat_cmp k n) ≡ true → k ≡ n
same_key k n is = grind (arith, nat_tests, is)

-- a stream that is not there has no context
no_context : (cs : List (ℕ × ContextState)) (ss : Streams) (s : ℕ) → Each (λ c. IsThereAt ss c.0) cs → stream_at s ss ≡ None → at cs s ≡ None
no_context [] ss s all away = refl
no_context (e ∷ es) ss s all away =
    (elim (is_at (nat_cmp s) e.0) as (λ b. is_eq (nat_cmp s e.0) ≡ b → cond b (Some e.1) (at es s) ≡ None) [
      | true ↦ λ is. let here : stream_at s ss ≡ Some all.0.0 = ap (λ n. stream_at n ss) (same_key s e.0 is) ∙ all.0.1 in let bad : None ≡ Some all.0.0 = sym away ∙ here in absurd cc
      | false ↦ λ is. no_context es ss s all.1 away
    ]) refl

-- a stream that was created is removed, and a number is spent
pub undone_step : (t : Table) (v : Store) (name : List ℕ) (m : Made v name) → Fits t v → stream_at (v.last + 1) v.streams ≡ None
    → (filter_refusal t m.volume (Changes (Remove (v.last + 1))) ≡ None) × (filter_step t m.volume (Changes (Remove (v.last + 1))) ≡ only t (record v { last = v.last + 1 }) Quiet)
unfolding filter_refusal filter_step changes change_of removed
undone_step t v name m fits away =
    let s = v.last + 1 in
    let w = m.volume in
    let number : m.id ≡ s = (created_as v w name m.id m.ok).number in
    let goes : IsOk (remove_of w s) = subst (λ n. IsOk (remove_of w n)) number (removable v w name m.id away m.ok) in
    let done : (u : Store) × (remove_of w s ≡ Ok u) = taken (remove_of w s) refl goes in
    let volume : done.0 ≡ record v { last = v.last + 1 } = undone v w name m.id done.0 away m.ok (subst (λ n. remove_of w n ≡ Ok done.0) (sym number) done.1) in
    let none : question_of s t.questions ≡ None = no_question t v s fits away in
    let gone : without_at t.contexts s ≡ t.contexts = without_none t.contexts s (no_context t.contexts v.streams s fits.there away) in (
      ap (λ r. option_map filter_fault.Store (result_err r)) done.1,
      ap (λ o. removed t (changed_volume w (Remove s)) s o) none
          ∙ ap (λ cs. only (record t { contexts = cs }) (changed_volume w (Remove s)) Quiet) gone
          ∙ ap (λ r. only t (kept_or w r) Quiet) done.1
          ∙ ap (λ u. only t u Quiet) volume,
    )
  where
    taken : (r : Result Store StoreFault) → remove_of m.volume (v.last + 1) ≡ r → IsOk r → (u : Store) × (remove_of m.volume (v.last + 1) ≡ Ok u)
    taken (Ok u) e ok = (u, e)
    taken (Err f) e ok = absurd cc

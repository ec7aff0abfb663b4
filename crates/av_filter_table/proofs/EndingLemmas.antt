-- How the table follows where contexts go and where all questions end.
use Rattle.std.proofs.Common.{◌≡◌, ◌≢◌, ℕ, ◌&&◌, ◌||◌, not, suc, length, List, [], ◌∷◌, ◌++◌, Some, None, map, refl, sym, ap, subst, ◌∙◌, inl, inr}
use Rattle.std.specs.List.{list_any}
use Rattle.std.specs.List.Sorted.{IsStrictlySortedBy}
use Rattle.std.specs.Ordering.{nat_cmp}
use Rattle.std.proofs.lemmas.Bool.{cases_eq}
use Rattle.std.proofs.lemmas.Map.Made.{keys_of-map_values}
use Rattle.av_context.specs.Contexts.{at, with, without, set_at, PutsAt}
use Rattle.av_context.specs.declared.context_state.ContextState.{ContextState}
use Rattle.av_context.specs.declared.context_state.ContextState.TheVariants.{Modified, Scanning}
use Rattle.av_filter_table.specs.Asking.{is_held, lost_contexts}
use Rattle.av_filter_table.specs.Chains.{Questions, Opens, essences, is_left, is_spent}
use Rattle.av_filter_table.specs.FilterTable.{id_of, held_of, IsConsistent, IsUnasked}
use Rattle.av_numbered.specs.Numbered.{IsAscending}
use Rattle.av_filter_table.specs.StreamContexts.{Known, states, held_of as held_out}
use Rattle.av_filter_table.specs.Table.{Table}
use Rattle.av_filter_table.specs.declared.question.Question.{Question}
use Rattle.av_numbered.proofs.MapLemmas.{if_some, if_some_at}
use Rattle.av_filter_table.proofs.TableLemmas.{test-boot, states-without}
use Rattle.av_pend.specs.Waiting.{Waiting}

-- an open with a rescan left, by id and by number
pub any-held : (boot n : ℕ) (xs : List (ℕ × Waiting)) → list_any (is_left n) xs ≡ list_any (is_held (id_of boot n)) (map (held_of boot) xs)
any-held boot n [] = refl
any-held boot n (x ∷ xs) =
    (λ i. (sym (test-boot boot x.0 n) i && not (is_spent x)) || list_any (is_left n) xs)
    ∙ ap (λ b. is_held (id_of boot n) (held_of boot x) || b) (any-held boot n xs)

-- a context that no question holds goes
pub record Forgot (boot sequence : ℕ) (q : Questions) (p : Opens) (k k' : List (ℕ × Known)) (stream : ℕ) : Type 0 where
  pub consistent : IsConsistent boot sequence q p k'
  pub contexts : states k' ≡ without (states k) stream

pub forgot : (boot sequence : ℕ) (q : Questions) (p : Opens) (k k' : List (ℕ × Known)) (stream : ℕ) → IsConsistent boot sequence q p k → IsUnasked stream (essences q) → PutsAt k k' stream None → Forgot boot sequence q p k k' stream
forgot boot sequence q p k k' stream consistent unasked gone = record {
  consistent = record {
    chained = consistent.chained;
    numbered = consistent.numbered;
    counted = consistent.counted;
    asked = consistent.asked;
    unasked = consistent.unasked;
    scanned = λ m. if_some (λ y. at k' y.0 ≡ Some (record { key = y.1.1; state = Scanning (id_of boot m); held = 1 })) (at (essences q) m) (λ y at_m.
        gone.others y.0 (if_some_at (λ z. z.0 ≢ stream) (at (essences q) m) y (unasked m) at_m)
        ∙ if_some_at (λ z. at k z.0 ≡ Some (record { key = z.1.1; state = Scanning (id_of boot m); held = 1 })) (at (essences q) m) y (consistent.scanned m) at_m);
    free = λ s none. elim (cases_eq s stream) [
      | inl same ↦ ap (λ j. held_out (at k' j)) same ∙ ap held_out gone.here
      | inr apart ↦ ap held_out (gone.others s apart) ∙ consistent.free s none
    ];
  };
  contexts = ap states gone.whole ∙ states-without stream k;
}

pub states-ascend : (k : List (ℕ × Known)) → IsAscending k → IsAscending (states k)
states-ascend k up = subst (IsStrictlySortedBy nat_cmp) (sym (keys_of-map_values (λ x. x.state) k)) up

-- the last of all questions may end first
lost-last : (qs : List Question) (q : Question) (contexts : List (ℕ × ContextState)) → lost_contexts qs (set_at contexts q.stream (Some Modified)) ≡ lost_contexts (qs ++ q ∷ []) contexts
unfolding lost_contexts
lost-last [] q contexts = refl
lost-last (r ∷ qs) q contexts = ap (λ c. with c r.stream Modified) (lost-last qs q contexts)

pub length-states : (k : List (ℕ × Known)) → length (states k) ≡ length k
length-states [] = refl
length-states (d ∷ k) = ap suc (length-states k)

-- all questions of a table end
abbrev pub all_lost : Table → Table
all_lost t = record t { contexts = lost_contexts t.questions t.contexts; questions = [] }

pub lose-last : (t t' : Table) (q : Question) → t.questions ≡ t'.questions ++ q ∷ [] → t' ≡ record t { contexts = set_at t.contexts q.stream (Some Modified); questions = t'.questions } → all_lost t' ≡ all_lost t
lose-last t t' q last is =
    let contexts : lost_contexts t'.questions t'.contexts ≡ lost_contexts t.questions t.contexts =
    ap (λ u. lost_contexts t'.questions u.contexts) is ∙ (lost-last t'.questions q t.contexts ∙ ap (λ qs. lost_contexts qs t.contexts) (sym last)) in
    ap {B = Table} (λ u. record u { contexts = lost_contexts t'.questions t'.contexts; questions = [] }) is
    ∙ ap {B = Table} (λ c. record t { contexts = c; questions = [] }) contexts

pub lost-none : (t : Table) → t.questions ≡ [] → t ≡ all_lost t
unfolding lost_contexts
lost-none t none = ap {B = Table} (λ qs. record t { questions = qs }) none ∙ sym (ap {B = Table} (λ qs. record t { contexts = lost_contexts qs t.contexts; questions = [] }) none)

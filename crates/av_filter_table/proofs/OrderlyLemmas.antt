-- A table whose rows are consistent is orderly.
use Rattle.std.proofs.Common.{◌≡◌, ◌≢◌, ℕ, ◌<◌, ◌≤◌, List, [], ◌∷◌, Option, Some, refl, sym, ap, subst, ◌∙◌, arith}
use Rattle.std.specs.List.{AllByRecursion as Each}
use Rattle.std.specs.Map.{keys_of}
use Rattle.std.specs.Option.{option_map}
use Rattle.av_base.specs.declared.message_id.MessageId.{MessageId}
use Rattle.av_context.specs.Contexts.{at}
use Rattle.av_context.specs.declared.context_state.ContextState.{ContextState}
use Rattle.av_context.specs.declared.context_state.ContextState.TheVariants.{Modified, Scanning, Judged}
use Rattle.av_numbered.proofs.MapLemmas.{at-apart, at-same, some_same}
use Rattle.av_filter_table.proofs.TableLemmas.{known-at, rising, states-at}
use Rattle.av_filter_table.specs.Chains.{Opens, Questions, essence}
use Rattle.av_filter_table.specs.FilterTable.{IsConsistent, IsRising, asked_of, id_of, questions_of}
use Rattle.av_numbered.specs.Numbered.{IsAscending}
use Rattle.av_filter_table.specs.Orderly.{AreApart, AreInOrder, IsGiven, IsScanned, Rises}
use Rattle.av_filter_table.specs.StreamContexts.{Known, states}
use Rattle.av_filter_table.specs.Table.{context_of}
use Rattle.av_filter_table.specs.declared.asked.Asked.{Asked}
use Rattle.av_filter_table.specs.declared.question.Question.{Question}

-- contexts by rising streams
rising_states : (k : List (ℕ × Known)) → IsRising (keys_of k) → Rises (states k)
unfolding Rises
rising_states [] up = tt
rising_states (d ∷ k) up = (behind k up.0, rising_states k up.1)
  where
    behind : (m : List (ℕ × Known)) → Each (λ n. d.0 < n) (keys_of m) → Each (λ x. d.0 < x.0) (states m)
    behind [] above = tt
    behind (e ∷ m) above = (above.0, behind m above.1)

pub rises : (k : List (ℕ × Known)) → IsAscending k → Rises (states k)
rises k up = rising_states k (rising (keys_of k) up)

-- questions with numbers of this boot
pub given : (boot sequence : ℕ) (q : Questions) → Each (λ n. 1 ≤ n) (keys_of q) → Each (λ n. n ≤ sequence) (keys_of q) → Each (IsGiven boot sequence) (questions_of boot q)
given boot sequence [] low high = tt
given boot sequence (d ∷ q) low high = (record { boot_is = refl; low = low.0; high = high.0 }, given boot sequence q low.1 high.1)

-- which rise
rising_questions : (boot : ℕ) (q : Questions) → IsRising (keys_of q) → AreInOrder (questions_of boot q)
rising_questions boot [] up = tt
rising_questions boot (d ∷ q) up = (behind q up.0, rising_questions boot q up.1)
  where
    behind : (m : Questions) → Each (λ n. d.0 < n) (keys_of m) → Each (λ (k : Question). d.0 < k.id.seq) (questions_of boot m)
    behind [] above = tt
    behind (e ∷ m) above = (above.0, behind m above.1)

pub order : (boot : ℕ) (q : Questions) → IsAscending q → AreInOrder (questions_of boot q)
order boot q up = rising_questions boot q (rising (keys_of q) up)

-- a row that is found at its number
abbrev IsFound : Questions → ℕ × (Asked × ℕ) → Type 0
IsFound q d = at q d.0 ≡ Some d.1

-- each row of a rising map is found at its number
all_found : (q : Questions) → IsRising (keys_of q) → Each (IsFound q) q
all_found [] up = tt
all_found (d ∷ q) up = (at-same q d.0 d.1, behind q up.0 (all_found q up.1))
  where
    behind : (m : Questions) → Each (λ n. d.0 < n) (keys_of m) → Each (IsFound q) m → Each (IsFound (d ∷ q)) m
    behind [] above found = tt
    behind (e ∷ m) above found =
        let less : d.0 < e.0 = above.0 in
        (at-apart q d.0 e.0 d.1 (λ same. omega arith) ∙ found.0, behind m above.1 found.1)

-- the context of each question's stream is being scanned by it
pub scanned : (boot sequence : ℕ) (q : Questions) (p : Opens) (k : List (ℕ × Known)) → IsConsistent boot sequence q p k → IsAscending q → Each (IsScanned (states k)) (questions_of boot q)
scanned boot sequence q p k consistent up = each q (all_found q (rising (keys_of q) up))
  where
    one : (d : ℕ × (Asked × ℕ)) → IsFound q d → IsScanned (states k) (asked_of boot (d.0, essence d.1))
    one d found =
        sym (states-at k d.1.0.stream) ∙ ap (option_map (λ (x : Known). x.state)) (known-at boot sequence d.0 q p k d.1.0 d.1.1 consistent found)

    each : (m : Questions) → Each (IsFound q) m → Each (IsScanned (states k)) (questions_of boot m)
    each [] found = tt
    each (d ∷ m) found = (one d found.0, each m found.1)

-- the number that a context names
abbrev seq_of : ContextState → ℕ
seq_of Modified = 0
seq_of (Scanning id) = id.seq
seq_of (Judged v r) = 0

-- so no two questions are of one stream
pub apart : (contexts : List (ℕ × ContextState)) (qs : List Question) → AreInOrder qs → Each (IsScanned contexts) qs → AreApart qs
apart contexts [] up all = tt
apart contexts (q ∷ qs) up all = (behind qs up.0 all.1, apart contexts qs up.1 all.1)
  where
    behind : (ks : List Question) → Each (λ k. q.id.seq < k.id.seq) ks → Each (IsScanned contexts) ks → Each (λ k. k.stream ≢ q.stream) ks
    behind [] above also = tt
    behind (k ∷ ks) above also =
        let less : q.id.seq < k.id.seq = above.0 in (
          λ same.
              let states_same : ◌≡◌ {A = ContextState} (Scanning q.id) (Scanning k.id) = some_same _ _ (sym all.0 ∙ (ap (context_of contexts) (sym same) ∙ also.0)) in
              let is : q.id.seq ≡ k.id.seq = ap seq_of states_same in
              absurd (omega arith),
          behind ks above.1 also.1,
        )

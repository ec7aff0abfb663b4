-- How the rows stand for the filter's table.
use Rattle.std.specs.Prelude.{◌≡◌, ◌≢◌, ℕ, ◌≤◌, ◌<◌, List, [], ◌∷◌, length, Some, IfSome, map}
use Rattle.std.specs.List.{AllByRecursion}
use Rattle.std.specs.Map.{keys_of}
use Rattle.av_base.specs.declared.limits.LimitValues.{LimitValues}
use Rattle.av_base.specs.declared.message_id.MessageId.{MessageId}
use Rattle.av_context.specs.Contexts.{at}
use Rattle.av_context.specs.declared.context_state.ContextState.TheVariants.{Scanning}
use Rattle.av_filter_table.specs.StreamContexts.{Known, held_of as held_out}
use Rattle.av_filter_table.specs.declared.asked.Asked.{Asked}
use Rattle.av_filter_table.specs.declared.pended.Pended.{Pended}
use Rattle.av_filter_table.specs.declared.question.Question.{Question}
use Rattle.av_filter_table.specs.Chains.{Questions, Opens, Essence, AreChained, essences, plains, of}
use Rattle.av_pend.specs.Waiting.{Waiting}

-- the id of a number
abbrev pub id_of : ℕ → ℕ → MessageId
id_of boot n = record { boot = boot; seq = n }

-- the question of a row, by its number in a boot
abbrev pub question_in : ℕ → ℕ → Asked → Question
question_in boot n x = record { id = id_of boot n; port = x.port; stream = x.stream; generation = x.generation }

-- a question as the table has it, and a held open
abbrev pub asked_of : ℕ → ℕ × Essence → Question
asked_of boot e = record { id = id_of boot e.0; port = e.1.1.0.1; stream = e.1.0; generation = e.1.1.0.0 }

-- a held open as the table has it, with the id of its question
abbrev pub held_of : ℕ → ℕ × Waiting → Pended
held_of boot x = record { question = id_of boot x.0; held = x.1 }

-- the questions and the held opens as the table has them
abbrev pub questions_of : ℕ → Questions → List Question
questions_of boot q = map (asked_of boot) (essences q)

-- the held opens, in the order of their places, with the ids of their questions
abbrev pub pended_of : ℕ → Opens → List Pended
pended_of boot p = map (held_of boot) (plains p)

-- each held open stands at its own number
abbrev pub number_of : ℕ × Waiting → ℕ
number_of x = x.1.open_id

-- each held open stands at its own number
abbrev pub AreNumbered : Opens → Type 0
AreNumbered p = keys_of p ≡ map number_of (plains p)

-- the context of a question's stream is being scanned by it, and its reference is the only one that is out
abbrev pub AreScanned : ℕ → List (ℕ × Essence) → List (ℕ × Known) → Type 0
AreScanned boot es k =
    (n : ℕ) → IfSome (at es n) (λ y. at k y.0 ≡ Some (record { key = y.1.1; state = Scanning (id_of boot n); held = 1 }))

-- no question is of this stream
abbrev pub IsUnasked : ℕ → List (ℕ × Essence) → Type 0
IsUnasked s es = (n : ℕ) → IfSome (at es n) (λ y. y.0 ≢ s)

-- what holds of the rows between calls: chains are chains, each open stands at its number, no question is below 1 or above the
-- last one given and no open waits for one above that, each question holds its stream's context, and no other reference is out
pub record IsConsistent (boot sequence : ℕ) (q : Questions) (p : Opens) (k : List (ℕ × Known)) : Type 0 where
  pub chained : AreChained q p
  pub numbered : AreNumbered p
  pub counted : AllByRecursion (λ n. 1 ≤ n) (keys_of q)
  pub asked : AllByRecursion (λ n. n ≤ sequence) (keys_of q)
  pub unasked : (n : ℕ) → sequence < n → of n (plains p) ≡ []
  pub scanned : AreScanned boot (essences q) k
  pub free : (s : ℕ) → IsUnasked s (essences q) → held_out (at k s) ≡ 0

-- what holds of a table between calls: its rows are consistent, it was mounted, its questions are no more than its limits allow,
-- and its cache has their size
pub record IsSound (boot sequence capacity : ℕ) (limits : LimitValues) (q : Questions) (p : Opens)
    (k : List (ℕ × Known)) : Type 0 where
  pub rows : IsConsistent boot sequence q p k
  pub mounted : 1 ≤ boot
  pub few : length q ≤ limits.questions
  pub sized : capacity ≡ limits.cache

-- each number is below those behind it
abbrev pub IsRising : List ℕ → Type 0
IsRising [] = Unit {0}
IsRising (n ∷ ns) = AllByRecursion (λ k. n < k) ns × IsRising ns

-- the numbers of the held opens
abbrev pub open_numbers : List Pended → List ℕ
open_numbers ps = map (λ p. p.held.open_id) ps

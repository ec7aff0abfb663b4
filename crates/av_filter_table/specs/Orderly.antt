-- What holds of every filter's table, amid an event too.
use Rattle.std.specs.Prelude.{ℕ, ◌≡◌, ◌≢◌, ◌<◌, ◌≤◌, List, [], ◌∷◌, Some}
use Rattle.std.specs.List.{AllByRecursion}
use Rattle.av_context.specs.declared.context_state.ContextState.{ContextState}
use Rattle.av_context.specs.declared.context_state.ContextState.TheVariants.{Scanning}
use Rattle.av_filter_table.specs.Table.{Table, context_of}
use Rattle.av_filter_table.specs.declared.question.Question.{Question}

-- the keys of a map rise
unfoldable pub Rises : {X : Type 0} → List (ℕ × X) → Type 0
Rises [] = Unit {0}
Rises (e ∷ m) = AllByRecursion (λ x. e.0 < x.0) m × Rises m

-- the id of a question was given in this boot, up to this sequence
pub record IsGiven (boot sequence : ℕ) (q : Question) : Type 0 where
  pub boot_is : q.id.boot ≡ boot
  pub low : 1 ≤ q.id.seq
  pub high : q.id.seq ≤ sequence

-- one question a stream
abbrev pub AreApart : List Question → Type 0
AreApart [] = Unit {0}
AreApart (q ∷ qs) = AllByRecursion (λ k. k.stream ≢ q.stream) qs × AreApart qs

-- a later question has a greater number
abbrev pub AreInOrder : List Question → Type 0
AreInOrder [] = Unit {0}
AreInOrder (q ∷ qs) = AllByRecursion (λ k. q.id.seq < k.id.seq) qs × AreInOrder qs

-- its stream is being scanned by it
abbrev pub IsScanned : List (ℕ × ContextState) → Question → Type 0
IsScanned contexts q = context_of contexts q.stream ≡ Some (Scanning q.id)

-- A table is orderly: its contexts stand by rising streams; its questions have numbers of this boot that rise, one question a
-- stream; and the context of each question's stream is being scanned by it.
pub record IsOrderly (t : Table) : Type 0 where
  pub rises : Rises t.contexts
  pub given : AllByRecursion (IsGiven t.boot t.sequence) t.questions
  pub order : AreInOrder t.questions
  pub apart : AreApart t.questions
  pub scanned : AllByRecursion (IsScanned t.contexts) t.questions

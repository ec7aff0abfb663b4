-- When a filter's table is coherent, and when it fits a volume.
use Rattle.std.specs.Prelude.{ℕ, ◌≡◌, ◌≤◌, true, List, None, Some}
use Rattle.std.specs.List.{AllByRecursion}
use Rattle.av_base.specs.declared.limits.LimitValues.{LimitValues}
use Rattle.av_base.specs.declared.mode.Mode.{Mode}
use Rattle.av_filter.specs.Conduct.{FilterEvent, filter_refusal, filter_step}
use Rattle.av_filter_table.specs.Orderly.{IsOrderly}
use Rattle.av_filter_table.specs.Table.{Table, mounted, question_at}
use Rattle.av_filter_table.specs.declared.pended.Pended.{Pended}
use Rattle.av_filter_table.specs.declared.question.Question.{Question}
use Rattle.av_filter_table.specs.Ports.{is_open}
use Rattle.av_store.specs.Rows.{Streams, stream_at}
use Rattle.av_store.specs.Store.{Store}
use Rattle.av_store.specs.declared.stream.Stream.{Stream}

-- the question that an open waits for runs, and is of the open's stream
pub record IsAsked (qs : List Question) (p : Pended) : Type 0 where
  pub question : Question
  pub runs : question_at p.question qs ≡ Some question
  pub stream : question.stream ≡ p.held.stream

-- A table is coherent: it is orderly, and each open waits for a question of its stream, with a least that is not above the floor.
-- Each filter's table is, between events.
pub record IsCoherent (t : Table) : Type 0 where
  pub orderly : IsOrderly t
  pub asked : AllByRecursion (IsAsked t.questions) t.pended
  pub leasts : AllByRecursion (λ p. p.held.least ≤ t.floor) t.pended

-- each question runs on a port that is connected: so it is of each filter's table, between events
abbrev pub RunOnOpen : Table → Type 0
RunOnOpen t = AllByRecursion (λ q. is_open q.port t.connected ≡ true) t.questions

-- a stream is there
abbrev pub IsThere : Streams → ℕ → Type 0
IsThere ss s = (x : Stream) × (stream_at s ss ≡ Some x)

-- a question is of the present generation of a stream that is there
abbrev pub IsPresent : Streams → Question → Type 0
IsPresent ss q = (x : Stream) × (stream_at q.stream ss ≡ Some x) × (q.generation ≡ x.generation)

-- A table fits a volume: the boots agree; each context and each question is of a stream that is there, a question of its present
-- generation; and the number of each open was taken.
pub record Fits (t : Table) (v : Store) : Type 0 where
  pub boots : t.boot ≡ v.boot
  pub there : AllByRecursion (λ c. IsThere v.streams c.0) t.contexts
  pub present : AllByRecursion (IsPresent v.streams) t.questions
  pub taken : AllByRecursion (λ p. p.held.open_id ≤ v.opens) t.pended

-- a coherent table fits a volume
pub record Stands (t : Table) (v : Store) : Type 0 where
  pub coherent : IsCoherent t
  pub fits : Fits t v

-- each event that is not refused leaves a coherent table that fits, and a filter just mounted has one
pub record KeepsFit : Type 0 where
  pub mounts : (mode : Mode) (limits : LimitValues) (v : Store) → Stands (mounted mode limits v.boot) v
  pub events : (t : Table) (v : Store) (e : FilterEvent) → Stands t v → filter_refusal t v e ≡ None
      → Stands (filter_step t v e).table (filter_step t v e).volume

-- each event that is not refused leaves the questions on connected ports, and a filter just mounted has no question
abbrev pub KeepsPorts : Type 0
KeepsPorts = (t : Table) (v : Store) (e : FilterEvent) → RunOnOpen t → filter_refusal t v e ≡ None → RunOnOpen (filter_step t v e).table

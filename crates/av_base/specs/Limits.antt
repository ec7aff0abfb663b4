use Rattle.std.specs.Prelude.{ℕ, ◌≤◌, ◌==◌, List, [], ◌∷◌, Result, Ok, Err, if◌then◌else◌, nat_lt}
use Rattle.std.specs.List.{AllByRecursion}
use Rattle.av_base.specs.declared.limits.LimitValues.{LimitValues}
use Rattle.av_base.specs.declared.limits.LimitFault.{LimitFault}
use Rattle.av_base.specs.declared.limits.LimitFault.TheVariants.{LimitZero, LimitTooLarge}
use Rattle.av_base.specs.declared.limits.LimitField.{LimitField}
use Rattle.av_base.specs.declared.limits.TheConstants.{MAX_AUDIT, MAX_CACHE, MAX_CHUNK, MAX_GENERATION, MAX_JOBS, MAX_LENGTH, MAX_PENDED, MAX_QUESTIONS, MAX_STREAMS}
use Rattle.av_base.specs.declared.limits.LimitField.TheVariants.{Streams, Length, Generation, Questions, Pended, Jobs, Cache, Chunk, Audit}

-- the greatest value of each field
abbrev pub greatest_values : LimitValues
greatest_values =
    record {
      streams = MAX_STREAMS;
      length = MAX_LENGTH;
      generation = MAX_GENERATION;
      questions = MAX_QUESTIONS;
      pended = MAX_PENDED;
      jobs = MAX_JOBS;
      cache = MAX_CACHE;
      chunk = MAX_CHUNK;
      audit = MAX_AUDIT;
    }

-- the fields in the order in which they are judged, each with its value and its greatest value
abbrev pub fields_of : LimitValues → List (LimitField × ℕ × ℕ)
fields_of v =
    (Streams, v.streams, greatest_values.streams) ∷
    (Length, v.length, greatest_values.length) ∷
    (Generation, v.generation, greatest_values.generation) ∷
    (Questions, v.questions, greatest_values.questions) ∷
    (Pended, v.pended, greatest_values.pended) ∷
    (Jobs, v.jobs, greatest_values.jobs) ∷
    (Cache, v.cache, greatest_values.cache) ∷
    (Chunk, v.chunk, greatest_values.chunk) ∷
    (Audit, v.audit, greatest_values.audit) ∷ []

-- each limit is 1 or more, and at most its greatest value
abbrev pub AreInRange : LimitValues → Type 0
AreInRange v = AllByRecursion (λ f. (1 ≤ f.1) × (f.1 ≤ f.2)) (fields_of v)

-- one field: 0 comes before too large
abbrev pub field_checked : LimitField → ℕ → ℕ → Result (Unit {0}) LimitFault
field_checked which value greatest =
    if value == 0 then Err (LimitZero which) else
    (if nat_lt greatest value then Err (LimitTooLarge which) else Ok tt)

-- one result after another, the first fault wins
abbrev pub then_check : {A : Type 0} → Result (Unit {0}) LimitFault → Result A LimitFault → Result A LimitFault
then_check (Ok x) r = r
then_check (Err e) r = Err e

-- the values, where each of these fields is in its range; else the first fault
abbrev pub judged : List (LimitField × ℕ × ℕ) → LimitValues → Result LimitValues LimitFault
judged [] v = Ok v
judged (f ∷ fs) v = then_check (field_checked f.0 f.1 f.2) (judged fs v)

-- the fields in order, the first fault wins
abbrev pub checked : LimitValues → Result LimitValues LimitFault
checked v = judged (fields_of v) v

-- the values with another one in one field
abbrev pub with_field : LimitField → ℕ → LimitValues → LimitValues
with_field Streams n v = record v { streams = n }
with_field Length n v = record v { length = n }
with_field Generation n v = record v { generation = n }
with_field Questions n v = record v { questions = n }
with_field Pended n v = record v { pended = n }
with_field Jobs n v = record v { jobs = n }
with_field Cache n v = record v { cache = n }
with_field Chunk n v = record v { chunk = n }
with_field Audit n v = record v { audit = n }

-- A content becomes a stream of the volume: the stream is created, and written once.
use Rattle.std.specs.Prelude.{◌≡◌, ℕ, ◌+◌, List, [], ◌∷◌, ◌++◌, None, Result, Ok, Err, IsOk}
use Rattle.av_base.specs.declared.refusal.Refusal.{Refusal}
use Rattle.av_base.specs.declared.refusal.Refusal.TheVariants.{Fault, NoMemory}
use Rattle.av_filter.specs.Conduct.{Changes, filter_refusal, filter_step}
use Rattle.av_filter.specs.Reaction.{Reaction}
use Rattle.av_filter_table.specs.Table.{Table}
use Rattle.av_store.specs.Files.{Create, Write}
use Rattle.av_store.specs.Store.{Store, create_of, write_of}
use Rattle.av_store.specs.declared.fault.StoreFault.{StoreFault}
use Rattle.av_store.specs.declared.stream.Stream.{Stream}

-- what the filter does as a stream is created
abbrev pub created : Table → Store → List ℕ → Reaction
created t v name = filter_step t v (Changes (Create name))

-- and as it is then written, from its front
abbrev pub stored : Table → Store → List ℕ → List ℕ → Reaction
stored t v name c = filter_step (created t v name).table (created t v name).volume (Changes (Write (v.last + 1) 0 c))

-- the stream that has a content: it was written once
abbrev pub stream_with : List ℕ → List ℕ → Stream
stream_with name c = record { name = name; generation = 2; bytes = c }

-- Both changes are made: one stream more is there, with this content, of which the filter knows no more than that it was written.
-- Nothing is answered, and nothing is sent.
pub record IsStored (t : Table) (v : Store) (name c : List ℕ) (t' : Table) (v' : Store) : Type 0 where
  pub creates : filter_refusal t v (Changes (Create name)) ≡ None
  pub writes : filter_refusal (created t v name).table (created t v name).volume (Changes (Write (v.last + 1) 0 c)) ≡ None
  pub table : t' ≡ (stored t v name c).table
  pub volume : v' ≡ (stored t v name c).volume
  pub streams : v'.streams ≡ v.streams ++ (v.last + 1, stream_with name c) ∷ []
  pub pended : t'.pended ≡ t.pended
  pub opens : v'.opens ≡ v.opens
  pub answers : (stored t v name c).answers ≡ []
  pub messages : (stored t v name c).messages ≡ []

-- nothing has changed, or the number of a stream is spent
pub data IsUnkept (t : Table) (v : Store) (t' : Table) (v' : Store) : Type 0 where
  Same : t' ≡ t → v' ≡ v → IsUnkept t v t' v'
  Spent : t' ≡ t → v' ≡ record v { last = v.last + 1 } → IsUnkept t v t' v'

-- a write from the front of a stream that was just created, where it was
abbrev pub written_then : List ℕ → Result (ℕ × Store) StoreFault → Result Store StoreFault
written_then c (Ok r) = write_of r.1 r.0 0 c
written_then c (Err f) = Err f

-- why a content is not kept: the fault of its creation, or else of its write; memory is refused only where it can be created
abbrev pub IsWhy : Store → List ℕ → List ℕ → Refusal StoreFault → Type 0
IsWhy v name c (Fault f) = written_then c (create_of v name) ≡ Err f
IsWhy v name c NoMemory = IsOk (create_of v name)

-- a fault is that of the write
abbrev pub IsFaultOf : Refusal StoreFault → Result Store StoreFault → Type 0
IsFaultOf (Fault f) wanted = wanted ≡ Err f
IsFaultOf NoMemory wanted = Unit {0}

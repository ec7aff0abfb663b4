-- The streams of a volume, as they are kept, against the list of all files.
use Rattle.std.specs.Prelude.{ℕ, suc, ◌+◌, ◌≤◌, ◌≡◌, List, [], ◌∷◌, length, Option, Some, None, Result, Ok, Err, if◌then◌else◌}
use Rattle.std.specs.Option.{option_map, unwrap_or}
use Rattle.av_base.specs.declared.limits.LimitValues.{LimitValues}
use Rattle.av_store.specs.declared.stream.Stream.{Stream}
use Rattle.av_store.specs.declared.fault.StoreFault.{StoreFault}
use Rattle.av_store.specs.Files.{Change, File, Create, Write, Cut, Remove, files_after, file_of, number_of, change_refusal}
use Rattle.av_store.specs.Rows.{Streams, stream_at, number_named}
use Rattle.av_store.specs.Store.{Store, empty_store, create_of, write_of, cut_of, remove_of}
use Rattle.av_base.specs.Refused.{unless}

-- a file as a stream of the volume
abbrev pub stream_of : File → Stream
stream_of f = record { name = f.name; generation = f.generation; bytes = f.bytes }

-- the files that are there, with their numbers, the first being k
unfoldable pub seen_from : ℕ → List File → Streams
seen_from k [] = []
seen_from k (f ∷ fs) = if f.here then (k, stream_of f) ∷ seen_from (suc k) fs else seen_from (suc k) fs

-- the files that are there, numbered from 1
abbrev pub seen : List File → Streams
seen fs = seen_from 1 fs

-- the volume keeps what these files say
pub record Keeps (v : Store) (fs : List File) : Type 0 where
  pub streams : v.streams ≡ seen fs
  pub last : v.last ≡ length fs

-- the volume alone of what a call gives
abbrev pub volume_of : {A : Type 0} → Result (A × Store) StoreFault → Result Store StoreFault
volume_of (Ok p) = Ok p.1
volume_of (Err e) = Err e

-- the volume after a change, or the fault
unfoldable pub change_of : Store → Change → Result Store StoreFault
change_of v (Create name) = volume_of (create_of v name)
change_of v (Write s o b) = write_of v s o b
change_of v (Cut s n) = cut_of v s n
change_of v (Remove s) = remove_of v s

-- the volume after a change, or as it was where the change was refused
abbrev pub kept_or : Store → Result Store StoreFault → Store
kept_or v (Ok w) = w
kept_or v (Err e) = v

-- the volume after changes in turn, those that are refused passed over
unfoldable pub run_of : Store → List Change → Store
run_of v [] = v
run_of v (c ∷ cs) = run_of (kept_or v (change_of v c)) cs

-- the files after a change, or as they were where it is refused
abbrev pub files_or : List File → Option StoreFault → List File → List File
files_or fs None gs = gs
files_or fs (Some e) gs = fs

-- the files after the same changes
unfoldable pub files_run : LimitValues → List File → List Change → List File
files_run limits fs [] = fs
files_run limits fs (c ∷ cs) = files_run limits (files_or fs (change_refusal limits fs c) (files_after fs c)) cs

-- A volume that keeps what the files say goes on to do so, is refused what they are refused, and is read as they are.
pub record Follows : Type 0 where
  pub changes : (v : Store) (fs : List File) (c : Change) → Keeps v fs
      → change_of v c
      ≡ unless (change_refusal v.limits fs c) (record v { streams = seen (files_after fs c); last = length (files_after fs c) })
  pub reads : (v : Store) (fs : List File) (s : ℕ) → Keeps v fs → stream_at s v.streams ≡ option_map stream_of (file_of fs s)
  pub names : (v : Store) (fs : List File) (name : List ℕ) → Keeps v fs
      → unwrap_or (number_named name v.streams) 0 ≡ number_of name fs
  pub starts : (number : ℕ) (limits : LimitValues) → Keeps (empty_store number limits) []
  pub runs : (v : Store) (fs : List File) (cs : List Change) → Keeps v fs → Keeps (run_of v cs) (files_run v.limits fs cs)

-- No number is given twice: a new stream's number is above the last, and is the last from then on, which no change makes less.
pub record NumbersRise : Type 0 where
  pub fresh : (v w : Store) (name : List ℕ) (id : ℕ) → create_of v name ≡ Ok (id, w) → (id ≡ v.last + 1) × (w.last ≡ id)
  pub rises : (v w : Store) (c : Change) → change_of v c ≡ Ok w → v.last ≤ w.last

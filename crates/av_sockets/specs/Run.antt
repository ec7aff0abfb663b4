-- What happened to the filter of a run: events that it accepted, one after another, and what it answered.
use Rattle.std.specs.Prelude.{ℕ, ◌≡◌, List, [], ◌∷◌, ◌++◌, Option, None, Some}
use Rattle.std.specs.List.{AllByRecursion as Each}
use Rattle.av_base.specs.Among.{Among}
use Rattle.av_base.specs.Limits.{greatest_values}
use Rattle.av_base.specs.declared.mode.Mode.TheVariants.{FailClosed}
use Rattle.av_engines.specs.FilterEnd.{IsAt}
use Rattle.av_engines.specs.Watching.{all_happened, unled}
use Rattle.av_files.specs.Volume.{stream_of_file}
use Rattle.av_files.specs.declared.opened.Opened.{Opened}
use Rattle.av_files.specs.declared.streams.TheConstants.{VOLUME}
use Rattle.av_filter.specs.Conduct.{FilterEvent, booted, filter_refusal, filter_step}
use Rattle.av_filter.specs.Mount.{Mount}
use Rattle.av_filter_table.specs.Table.{Table, mounted}
use Rattle.av_pend.specs.declared.answer.Answer.{Answer}
use Rattle.av_pend.specs.declared.answer.Answer.TheVariants.{Granted}
use Rattle.av_store.specs.Rows.{Streams, number_named, stream_at}
use Rattle.av_store.specs.Store.{Store, empty_store}
use Rattle.av_store.specs.declared.stream.Stream.{Stream}

-- none of these events is refused where those before it led
abbrev pub AreAccepted : Table → Store → List FilterEvent → Type 0
AreAccepted t v [] = Unit {0}
AreAccepted t v (e ∷ es) =
    (filter_refusal t v e ≡ None) × AreAccepted (filter_step t v e).table (filter_step t v e).volume es

-- Events led a mounted filter from one state to another, by the filter's conduct, and these are the answers of all of them.
pub record Leads (m m' : Mount) (answers : List Answer) : Type 0 where
  pub events : List FilterEvent
  pub accepted : AreAccepted m.table m.volume events
  pub at : IsAt (all_happened (unled m.table m.volume []) events) m'.table m'.volume answers

-- the same of opens, which change no stream, where these answers were kept behind others
pub record LeadsOn (m : Mount) (kept : List Answer) (m' : Mount) (keeps : List Answer) : Type 0 where
  pub given : List Answer
  pub leads : Leads m m' given
  pub behind : keeps ≡ kept ++ given
  pub still : m'.volume.streams ≡ m.volume.streams

-- the same of removals, where it does not matter which answers were given: each stream that is there was there
pub record LeadsLate (m m' : Mount) : Type 0 where
  pub late : List Answer
  pub leads : Leads m m' late
  pub fewer : Each (λ s. Among s m.volume.streams) m'.volume.streams

-- the same of a file that became a stream, whose content was written once
pub record Adds (m m' : Mount) (name content : List ℕ) : Type 0 where
  pub leads : Leads m m' []
  pub number : ℕ
  pub added : m'.volume.streams ≡ m.volume.streams ++ (number, stream_of_file (record { name = name; content = content })) ∷ []

-- a file of this content, which was read, became a stream
abbrev pub AddsRead : Mount → Mount → List ℕ → Option (List ℕ) → Type 0
AddsRead m m' name None = ⊥
AddsRead m m' name (Some content) = Adds m m' name content

-- where a run begins: a fail-closed filter on a volume of no stream, which it was mounted on first
abbrev pub first : Mount
first = record { table = mounted FailClosed greatest_values 1; volume = booted (empty_store VOLUME greatest_values) }

-- each of these streams has a content that was read for its name
abbrev pub AreOfContents : (List ℕ → List ℕ → Type 0) → Streams → Type 0
AreOfContents has_content ss = Each (λ s. has_content s.1.name s.1.bytes) ss

-- one of these streams has this name and this content
abbrev pub IsContentIn : Streams → List ℕ → List ℕ → Type 0
IsContentIn ss name content = (number : ℕ) × (s : Stream) × (stream_at number ss ≡ Some s) × (s.name ≡ name) × (s.bytes ≡ content)

-- the stream that a grant names has the file's name in the volume, is of the generation that the grant names, and its content is one that
-- was read for that name
pub record IsItsStream (has_content : List ℕ → List ℕ → Type 0) (v : Store) (name : List ℕ) (stream generation : ℕ) : Type 0 where
  pub named : number_named name v.streams ≡ Some stream
  pub content : Stream
  pub there : stream_at stream v.streams ≡ Some content
  pub generation_is : generation ≡ content.generation
  pub read : has_content name content.bytes

-- what a file was told: a grant is of its stream
abbrev pub IsOfItsStream : (List ℕ → List ℕ → Type 0) → Store → List ℕ → Answer → Type 0
IsOfItsStream has_content v name (Granted n least s g version) = IsItsStream has_content v name s g
IsOfItsStream has_content v name _ = Unit {0}

-- so is each of these
abbrev pub AreOfTheirStreams : (List ℕ → List ℕ → Type 0) → Store → List Opened → Type 0
AreOfTheirStreams has_content v os = Each (λ o. IsOfItsStream has_content v o.name.now o.answer) os

-- A volume that is made of files which were read.
use Rattle.std.specs.Prelude.{ℕ, ◌≡◌, ◌+◌, List, [], ◌∷◌, ◌++◌, length, map, Option, Some, None, if◌then◌else◌}
use Rattle.std.specs.Option.{option_copied}
use Rattle.av_base.specs.Limits.{greatest_values}
use Rattle.av_files.specs.declared.scanner.Input.{Input}
use Rattle.av_files.specs.declared.streams.TheConstants.{VOLUME}
use Rattle.av_store.specs.Rows.{Streams, is_same}
use Rattle.av_store.specs.Store.{Store, empty_store}
use Rattle.av_store.specs.declared.stream.Stream.{Stream}

-- a file that was read: its name, and the bytes that came as its content
pub record FileRead : Type 0 where
  pub name : List ℕ
  pub content : List ℕ

-- the stream of a file: generation 1 when it was created under the name, generation 2 since the content was written, once
abbrev pub stream_of_file : FileRead → Stream
stream_of_file file = record { name = file.name; generation = 2; bytes = file.content }

-- a stream for each file, in their order, numbered from here on
abbrev pub streams_from : ℕ → List FileRead → Streams
streams_from number [] = []
streams_from number (file ∷ files) = (number, stream_of_file file) ∷ streams_from (number + 1) files

-- the volume of these files: a stream for each, numbered from 1, and no other
abbrev pub volume_of_files : List FileRead → Store
volume_of_files files = record (empty_store VOLUME greatest_values) { last = length files; streams = streams_from 1 files }

-- the content of the file of this name, of the first one if several have it
abbrev pub content_named : List ℕ → List FileRead → Option (List ℕ)
content_named name [] = None
content_named name (file ∷ files) = if is_same name file.name then Some file.content else content_named name files

-- the volume of some files becomes that of these and one more, of this name and content
abbrev pub AddsFile : Store → Store → List ℕ → Option (List ℕ) → Type 0
AddsFile old new name None = ⊥
AddsFile old new name (Some content) = (files : List FileRead) → old ≡ volume_of_files files → new ≡ volume_of_files (files ++ record { name = name; content = content } ∷ [])

-- the name of an input, and its content where it was read
abbrev pub given_of : Input → List ℕ × Option (List ℕ)
given_of input = (input.name.now, option_copied input.content)

-- these inputs were read, each as the file of its name and content
abbrev pub AreRead : List Input → List FileRead → Type 0
AreRead inputs files = map given_of inputs ≡ map (λ f. (f.name, Some f.content)) files

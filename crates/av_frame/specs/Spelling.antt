use Rattle.std.specs.Prelude.{ℕ, ◌≡◌, ◌+◌, List, [], ◌∷◌, ◌++◌, length}
use Rattle.std.specs.Int.{w32, w64, to_be_bytes}
use Rattle.av_base.specs.Port.{port_number}
use Rattle.av_base.specs.declared.message_id.MessageId.{MessageId}
use Rattle.av_base.specs.declared.port.Port.{Port}
use Rattle.av_base.specs.declared.verdict.Verdict.TheVariants.{Clean, Infected}
use Rattle.av_frame.specs.declared.outcome.Outcome.{Outcome}
use Rattle.av_frame.specs.declared.outcome.Outcome.TheVariants.{Judged, Failed}
use Rattle.av_frame.specs.declared.message.Body.{Body}
use Rattle.av_frame.specs.declared.message.Body.TheVariants.{Scan, Chunk, NoChunk, Abort, Hello, Read, Reply, Updated}
use Rattle.av_frame.specs.declared.sizes.TheConstants.{CHUNK_HEADER, CLEAN_SIZE, FAILED_SIZE, HEAD_SIZE, HELLO_SIZE, INFECTED_SIZE, NO_CHUNK_SIZE, READ_SIZE, SCAN_SIZE, UPDATED_SIZE}
use Rattle.av_frame.specs.Cause.{no_chunk_number, fail_number}
use Rattle.av_frame.specs.Message.{IsLetter, Letter}

-- a number of eight bytes and one of four bytes, the highest byte first
unfoldable pub field8 : ℕ → List ℕ
field8 n = to_be_bytes w64 n

-- a number in four bytes, the highest first
unfoldable pub field4 : ℕ → List ℕ
field4 n = to_be_bytes w32 n

-- the two numbers of an id
abbrev pub id_fields : MessageId → List ℕ
id_fields id = field8 id.boot ++ field8 id.seq

-- an outcome: its status and what follows it
abbrev pub outcome_fields : Outcome → List ℕ
outcome_fields (Judged version Clean) = 0 ∷ field8 version
outcome_fields (Judged version (Infected index end_at)) = 1 ∷ (field8 version ++ field4 index ++ field8 end_at)
outcome_fields (Failed cause) = 2 ∷ fail_number cause ∷ []

-- the fields of a message behind its kind and its port, in their order, and the number of its kind
abbrev pub fields : Body → List ℕ
fields (Scan id stream generation size) = id_fields id ++ field8 stream ++ field8 generation ++ field8 size
fields (Chunk id offset bytes) = id_fields id ++ field8 offset ++ bytes
fields (NoChunk id offset cause) = id_fields id ++ field8 offset ++ no_chunk_number cause ∷ []
fields (Abort id) = id_fields id
fields (Hello volume version) = field8 volume ++ field8 version
fields (Read id offset count) = id_fields id ++ field8 offset ++ field4 count
fields (Reply id outcome) = id_fields id ++ outcome_fields outcome
fields (Updated version) = field8 version

-- the number of the kind of these fields
abbrev pub kind_of : Body → ℕ
kind_of (Scan id stream generation size) = 1
kind_of (Chunk id offset bytes) = 2
kind_of (NoChunk id offset cause) = 3
kind_of (Abort id) = 4
kind_of (Hello volume version) = 5
kind_of (Read id offset count) = 6
kind_of (Reply id outcome) = 7
kind_of (Updated version) = 8

-- these fields at this port, spelled
abbrev pub spelled_at : Port → Body → List ℕ
spelled_at port body = kind_of body ∷ port_number port ∷ fields body

-- the one spelling of a message: its kind, its port, and its fields in their order
abbrev pub spelling : Letter → List ℕ
spelling m = spelled_at m.port m.body

-- a body spells a message
abbrev pub Spells : List ℕ → Letter → Type 0
Spells bytes m = IsLetter m × (bytes ≡ spelling m)

-- how many bytes spell an outcome
abbrev pub outcome_size : Outcome → ℕ
outcome_size (Judged version Clean) = CLEAN_SIZE
outcome_size (Judged version (Infected index end_at)) = INFECTED_SIZE
outcome_size (Failed cause) = FAILED_SIZE

-- how many bytes spell a message of these fields, its kind and its port among them
abbrev pub size_of : Body → ℕ
size_of (Scan id stream generation size) = SCAN_SIZE
size_of (Chunk id offset bytes) = CHUNK_HEADER + length bytes
size_of (NoChunk id offset cause) = NO_CHUNK_SIZE
size_of (Abort id) = HEAD_SIZE
size_of (Hello volume version) = HELLO_SIZE
size_of (Read id offset count) = READ_SIZE
size_of (Reply id outcome) = HEAD_SIZE + outcome_size outcome
size_of (Updated version) = UPDATED_SIZE

-- a frame: the body's length in four bytes, then the body
abbrev pub frame : Letter → List ℕ
frame m = field4 (length (spelling m)) ++ spelling m

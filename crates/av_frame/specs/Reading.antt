use Rattle.std.specs.Prelude.{ℕ, ◌+◌, ◌==◌, ◌||◌, ◌&&◌, Bool, List, length, take, drop, Option, None, Some, Result, Ok, Err, nat_lt, slice_index, if◌then◌else◌, not}
use Rattle.std.specs.Int.{w32, w64, from_be_bytes}
use Rattle.av_base.specs.Port.{port_of}
use Rattle.av_base.specs.declared.message_id.MessageId.{MessageId}
use Rattle.av_base.specs.declared.port.Port.{Port}
use Rattle.av_base.specs.declared.verdict.Verdict.TheVariants.{Clean, Infected}
use Rattle.av_frame.specs.declared.cause.NoChunkCause.{NoChunkCause}
use Rattle.av_frame.specs.declared.cause.FailCause.{FailCause}
use Rattle.av_frame.specs.declared.fault.FrameFault.{FrameFault}
use Rattle.av_frame.specs.declared.fault.FrameFault.TheVariants as fault
use Rattle.av_frame.specs.declared.outcome.Outcome.TheVariants.{Judged, Failed}
use Rattle.av_frame.specs.declared.message.Body.{Body}
use Rattle.av_frame.specs.declared.message.Body.TheVariants.{Scan, Chunk, NoChunk, Abort, Hello, Read, Reply, Updated}
use Rattle.av_frame.specs.declared.sizes.TheConstants.{CHUNK_HEADER, CLEAN_SIZE, FAILED_SIZE, HEAD_SIZE, HELLO_SIZE, INFECTED_SIZE, MAX_BODY, NO_CHUNK_SIZE, READ_SIZE, SCAN_SIZE, UPDATED_SIZE}
use Rattle.av_frame.specs.Cause.{no_chunk_cause, fail_cause}
use Rattle.av_frame.specs.Message.{in_range, Letter, via}

-- the numbers in eight and in four bytes at a place
abbrev pub number8 : List ℕ → ℕ → ℕ
number8 bytes at = from_be_bytes w64 (take 8 (drop at bytes))

-- the number of four bytes from a place on
abbrev pub number4 : List ℕ → ℕ → ℕ
number4 bytes at = from_be_bytes w32 (take 4 (drop at bytes))

-- the id of a question, behind the kind
abbrev pub id_at : List ℕ → MessageId
id_at bytes = record { boot = number8 bytes 2; seq = number8 bytes 10 }

-- the port of a body, behind the kind, if its number is one
abbrev pub port_at : List ℕ → Option Port
port_at bytes = port_of (slice_index bytes 1)

-- a message at this port, where the port and each field are in their ranges
unfoldable pub checked : Option Port → Body → Result Letter FrameFault
checked None m = Err fault.Range
checked (Some port) m = if in_range m then Ok (via port m) else Err fault.Range

-- the message that a body of each kind gives, read field by field, or the fault of its shape or of a range
unfoldable pub scan_of : List ℕ → Result Letter FrameFault
scan_of body =
    if length body == SCAN_SIZE then checked (port_at body) (Scan (id_at body) (number8 body 18) (number8 body 26) (number8 body 34))
    else Err fault.Shape

-- a Chunk, or its fault
unfoldable pub chunk_of : List ℕ → Result Letter FrameFault
chunk_of body =
    if nat_lt CHUNK_HEADER (length body) then checked (port_at body) (Chunk (id_at body) (number8 body 18) (drop CHUNK_HEADER body))
    else Err fault.Shape

-- a NoChunk with a cause that its number names, or Range
abbrev pub no_chunk_with : Option Port → MessageId → ℕ → Option NoChunkCause → Result Letter FrameFault
no_chunk_with port id offset None = Err fault.Range
no_chunk_with port id offset (Some cause) = checked port (NoChunk id offset cause)

-- a NoChunk, or its fault
unfoldable pub no_chunk_of : List ℕ → Result Letter FrameFault
no_chunk_of body =
    if length body == NO_CHUNK_SIZE then no_chunk_with (port_at body) (id_at body) (number8 body 18) (no_chunk_cause (slice_index body 26))
    else Err fault.Shape

-- an Abort, or its fault
unfoldable pub abort_of : List ℕ → Result Letter FrameFault
abort_of body = if length body == HEAD_SIZE then checked (port_at body) (Abort (id_at body)) else Err fault.Shape

-- a Hello, or its fault
unfoldable pub hello_of : List ℕ → Result Letter FrameFault
hello_of body = if length body == HELLO_SIZE then checked (port_at body) (Hello (number8 body 2) (number8 body 10)) else Err fault.Shape

-- a Read, or its fault
unfoldable pub read_of : List ℕ → Result Letter FrameFault
read_of body =
    if length body == READ_SIZE then checked (port_at body) (Read (id_at body) (number8 body 18) (number4 body 26))
    else Err fault.Shape

-- a Reply of the verdict clean, or its fault
unfoldable pub clean_of : List ℕ → Result Letter FrameFault
clean_of body =
    if length body == HEAD_SIZE + CLEAN_SIZE then checked (port_at body) (Reply (id_at body) (Judged (number8 body 19) Clean))
    else Err fault.Shape

-- a Reply of the verdict infected, or its fault
unfoldable pub infected_of : List ℕ → Result Letter FrameFault
infected_of body =
    if length body == HEAD_SIZE + INFECTED_SIZE
    then checked (port_at body) (Reply (id_at body) (Judged (number8 body 19) (Infected (number4 body 27) (number8 body 31))))
    else Err fault.Shape

-- a failed reply with a cause that its number names, or Range
abbrev pub failed_with : Option Port → MessageId → Option FailCause → Result Letter FrameFault
failed_with port id None = Err fault.Range
failed_with port id (Some cause) = checked port (Reply id (Failed cause))

-- a Reply of a scan that failed, or its fault
unfoldable pub failed_of : List ℕ → Result Letter FrameFault
failed_of body =
    if length body == HEAD_SIZE + FAILED_SIZE then failed_with (port_at body) (id_at body) (fail_cause (slice_index body 19))
    else Err fault.Shape

-- a reply's status says how it goes on
unfoldable pub reply_of : List ℕ → Result Letter FrameFault
reply_of body =
    if not (nat_lt HEAD_SIZE (length body)) then Err fault.Shape else
    (if slice_index body 18 == 0 then clean_of body else
    (if slice_index body 18 == 1 then infected_of body else
    (if slice_index body 18 == 2 then failed_of body else Err fault.Range)))

-- an Updated, or its fault
unfoldable pub updated_of : List ℕ → Result Letter FrameFault
updated_of body = if length body == UPDATED_SIZE then checked (port_at body) (Updated (number8 body 2)) else Err fault.Shape

-- the message of a kind that has no content in it
unfoldable pub plain_of : List ℕ → Result Letter FrameFault
plain_of body =
    if slice_index body 0 == 1 then scan_of body else
    (if slice_index body 0 == 3 then no_chunk_of body else
    (if slice_index body 0 == 4 then abort_of body else
    (if slice_index body 0 == 5 then hello_of body else
    (if slice_index body 0 == 6 then read_of body else
    (if slice_index body 0 == 7 then reply_of body else
    (if slice_index body 0 == 8 then updated_of body else Err fault.Kind))))))

-- the message of a body, or the fault
unfoldable pub decoded : List ℕ → Result Letter FrameFault
decoded body =
    if length body == 0 || nat_lt MAX_BODY (length body) then Err fault.Length else
    (if slice_index body 0 == 2 then chunk_of body else plain_of body)

-- how many bytes a body of each kind has; a reply has those up to its status
abbrev pub fits_kind : ℕ → ℕ → Bool
fits_kind kind size =
    if kind == 1 then size == SCAN_SIZE else
    (if kind == 2 then nat_lt CHUNK_HEADER size else
    (if kind == 3 then size == NO_CHUNK_SIZE else
    (if kind == 4 then size == HEAD_SIZE else
    (if kind == 5 then size == HELLO_SIZE else
    (if kind == 6 then size == READ_SIZE else
    (if kind == 7 then nat_lt HEAD_SIZE size else size == UPDATED_SIZE))))))

-- how many bytes a reply of each status has
abbrev pub fits_status : ℕ → ℕ → Bool
fits_status status size =
    if status == 0 then size == HEAD_SIZE + CLEAN_SIZE else
    (if status == 1 then size == HEAD_SIZE + INFECTED_SIZE else size == HEAD_SIZE + FAILED_SIZE)

-- What is wrong with bytes that spell no message: the first that applies.
abbrev pub fault_by : (size kind status : ℕ) → FrameFault
fault_by size kind status =
    if size == 0 || nat_lt MAX_BODY size then fault.Length else
    (if kind == 0 || nat_lt 8 kind then fault.Kind else
    (if not (fits_kind kind size) then fault.Shape else
    (if kind == 7 && nat_lt 2 status then fault.Range else
    (if kind == 7 && not (fits_status status size) then fault.Shape else fault.Range))))

-- the fault of a body that spells no message
abbrev pub fault_of : List ℕ → FrameFault
fault_of body = fault_by (length body) (slice_index body 0) (slice_index body 18)
